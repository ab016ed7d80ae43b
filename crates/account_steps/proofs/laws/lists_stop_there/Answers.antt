use Rattle.account_steps.proofs.FirstStop.{stop_is_limit}
use Rattle.account_steps.proofs.laws.lists_stop_there.Goals as goal

pub returns : goal.returns
returns c = λ p list each begin cpus end reached low within stand stop. stop_is_limit p list each begin cpus reached low end within stand stop
