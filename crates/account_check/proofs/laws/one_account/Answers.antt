use Rattle.account_check.proofs.OneAnswer.{one_true}
use Rattle.account_check.proofs.laws.one_account.Goals as goal

pub returns : goal.returns
returns c = λ script attached r bytes one other job true_one true_other. one_true script attached r bytes job (λ actor. c.programs_make_such_calls.ensures script attached r job actor) one other true_one true_other
