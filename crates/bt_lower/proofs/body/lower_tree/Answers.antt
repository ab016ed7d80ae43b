use Rattle.bt_lower.proofs.body.lower_tree.Goals as goal

pub returns : goal.returns
returns c = c.in_ok-lower_whole.ensures c.nothing-code.ensures
