use Rattle.account_steps.proofs.FirstStop.{front_is_begun}
use Rattle.account_steps.proofs.laws.lists_can_be_made_so_far.Goals as goal

pub returns : goal.returns
returns c = λ p list each begin cpus end reached low within stand replies stamps order.
    front_is_begun p list each begin cpus reached low end within stand replies stamps order
