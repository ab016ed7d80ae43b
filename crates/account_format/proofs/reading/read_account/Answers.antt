use Rattle.account_format.specs.Scopes.{setting_in}
use Rattle.account_format.proofs.Answered.{only_read, wrong_there, refused_there}
use Rattle.account_format.proofs.reading.read_account.Goals as goal

pub returns-clause-only : goal.returns-clause-only
returns-clause-only c = λ steps text h. only_read (setting_in c.args.scope.now) c.args.bytes.now c.read.result steps text c.read.ensures.read c.read.ensures.fault h

pub returns-clause-wrong : goal.returns-clause-wrong
returns-clause-wrong c = λ offset e. wrong_there (setting_in c.args.scope.now) c.args.bytes.now c.read.result offset c.read.ensures.fault e

pub returns-clause-refused : goal.returns-clause-refused
returns-clause-refused c = λ offset w. refused_there (setting_in c.args.scope.now) c.args.bytes.now c.read.result offset c.read.ensures.read c.read.ensures.fault w
