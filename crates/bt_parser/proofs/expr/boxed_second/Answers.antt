use Rattle.std.proofs.Common.{refl}
use Rattle.bt_parser.proofs.expr.boxed_second.Goals as goal

pub returns : goal.returns
returns c = rw c.in_ok-second.ensures refl
