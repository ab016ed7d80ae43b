use Rattle.total_laws.proofs.MapEnds.{ends}
use Rattle.total_laws.proofs.laws.totals_are_exact.Goals as goal

pub returns : goal.returns
returns c = λ script attached r steps run. ends script attached r steps run
