use Rattle.account_steps.proofs.AllActors.{less_limit}
use Rattle.account_steps.proofs.laws.least_place_is_limit.Goals as goal

pub returns : goal.returns
returns c = λ p list one other is_one is_other. less_limit p list one other is_one is_other
