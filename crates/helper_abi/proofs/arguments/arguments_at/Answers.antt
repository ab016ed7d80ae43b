use Rattle.fmt_text.specs.Arguments.{argument_shapes}
use Rattle.helper_abi.proofs.ReadingLemmas.{values_in-shaped}
use Rattle.helper_abi.proofs.arguments.arguments_at.Goals as goal

pub returns-in-Ok-clause-shaped : goal.returns-in-Ok-clause-shaped
returns-in-Ok-clause-shaped c = rw c.in-Ok.ensures (values_in-shaped (argument_shapes c.args.pieces.now) c.in-Some-bytes_at.bytes.now)
