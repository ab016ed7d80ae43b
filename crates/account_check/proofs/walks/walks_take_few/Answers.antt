use Rattle.account_check.proofs.NoInstructions.{walks_few}
use Rattle.account_check.proofs.walks.walks_take_few.Goals as goal

pub returns : goal.returns
returns c = λ script actors actor. walks_few script actors actor
