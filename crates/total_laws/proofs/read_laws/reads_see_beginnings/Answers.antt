use Rattle.total_laws.proofs.ReadLemmas.{sees_beginning}
use Rattle.total_laws.proofs.read_laws.reads_see_beginnings.Goals as goal

pub returns : goal.returns
returns c = λ p steps is actor map before s after e at does. sees_beginning p actor steps is before s after e at
