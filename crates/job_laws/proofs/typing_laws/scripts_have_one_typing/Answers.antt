use Rattle.job_laws.proofs.Typings.{scripts_same}
use Rattle.job_laws.proofs.typing_laws.scripts_have_one_typing.Goals as goal

pub returns : goal.returns
returns c = λ script formats bodies one other f g. scripts_same script formats bodies one other f g
