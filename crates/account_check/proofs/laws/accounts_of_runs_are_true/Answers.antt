use Rattle.std.proofs.Common.{refl}
use Rattle.account_check.proofs.laws.accounts_of_runs_are_true.Goals as goal

pub returns : goal.returns
returns c = λ script attached r steps job replayed fits few short. record { replayed = replayed; fits = fits; few = few; short = short; spelled = refl }
