use Rattle.total_laws.proofs.SameEnds.{same_ends}
use Rattle.total_laws.proofs.laws.totals_are_the_same.Goals as goal

pub returns : goal.returns
returns c = λ script attached r steps others run same that. same_ends script attached r steps others run same that
