use Rattle.actor_plan.proofs.ProgramLaws.{join}
use Rattle.actor_plan.proofs.laws.programs_join.Goals as goal

pub returns : goal.returns
returns c = λ checks work front back. join checks work front back
