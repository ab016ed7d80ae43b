use Rattle.std.proofs.Common.{length, refl, arith}
use Rattle.account_steps.proofs.FirstStop.{all_whole_where_on, unfinished_where_off}
use Rattle.account_steps.proofs.laws.lists_are_whole_or_not.Goals as goal

pub returns-clause-whole : goal.returns-clause-whole
returns-clause-whole c = λ p list each begin cpus reached low stand ons. all_whole_where_on p list each begin cpus reached low (length list) (omega arith) stand refl ons

pub returns-clause-unfinished : goal.returns-clause-unfinished
returns-clause-unfinished c = λ p list each begin cpus reached low stand actor d lt off. unfinished_where_off p list each begin cpus reached low (length list) (omega arith) stand refl actor d lt off
