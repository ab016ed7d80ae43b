use Rattle.account_format.proofs.BlankLaws.{lists_told}
use Rattle.account_format.proofs.laws.accounts_tell_lists.Goals as goal

pub returns : goal.returns
returns c = lists_told
