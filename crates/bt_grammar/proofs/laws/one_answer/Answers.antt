use Rattle.bt_grammar.proofs.OneAnswer.{one_tree, one_fault, not_both, script_begins}
use Rattle.bt_grammar.proofs.laws.one_answer.Goals as goal

pub returns : goal.returns
returns c = record { tree = one_tree; fault = one_fault; apart = not_both; begins = script_begins }
