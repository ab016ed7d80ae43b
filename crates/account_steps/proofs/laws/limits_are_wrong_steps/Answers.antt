use Rattle.account_steps.proofs.AllActors.{wrong_at}
use Rattle.account_steps.proofs.laws.limits_are_wrong_steps.Goals as goal

pub returns : goal.returns
returns c = λ p list place d limit begun more. wrong_at p list place d limit begun more
