use Rattle.bt_grammar.proofs.Fronts.{tree_of_front, front_of_tree}
use Rattle.bt_grammar.proofs.laws.begun_lists.Goals as goal

pub returns : goal.returns
returns c = λ tokens. (tree_of_front tokens, λ h. front_of_tree tokens h.0 h.1 h.2)
