use Rattle.std.proofs.Common.{arith}
use Rattle.expr_types.proofs.Calling.{pieces_held}
use Rattle.expr_types.proofs.printed.Calls.into_pieces.Goals as goal

pub returns : goal.returns
returns c = grind (arith, pieces_held)
