use Rattle.bt_lexer.proofs.Results.{some_answer, one_list, one_fault, not_both}
use Rattle.bt_lexer.proofs.laws.one_answer.Goals as goal

pub returns : goal.returns
returns c = record { some = some_answer; tokens = one_list; fault = one_fault; apart = not_both }
