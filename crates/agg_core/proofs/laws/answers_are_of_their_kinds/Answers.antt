use Rattle.agg_core.proofs.KindLaws.{answer-kind}
use Rattle.agg_core.proofs.laws.answers_are_of_their_kinds.Goals as goal

pub returns : goal.returns
returns c setting cpus object before op fine all own = answer-kind setting cpus object before op fine all own
