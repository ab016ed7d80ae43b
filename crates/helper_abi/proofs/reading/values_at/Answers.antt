use Rattle.helper_abi.proofs.ReadingLemmas.{values_in-shaped}
use Rattle.helper_abi.proofs.reading.values_at.Goals as goal

pub returns-in-Ok-clause-shaped : goal.returns-in-Ok-clause-shaped
returns-in-Ok-clause-shaped c = rw c.in-Ok.ensures (values_in-shaped c.args.shapes.now c.in-Some.bytes.now)
