use Rattle.expr_types.proofs.Trees.{string_chosen}
use Rattle.expr_types.proofs.leaf.chosen_string.Goals as goal

pub returns-in-Ok : goal.returns-in-Ok
returns-in-Ok c = string_chosen c.in-Ok.condition c.args.condition c.in-Ok.values.0 c.in-Ok.values.1 c.args.yes c.args.no c.in-Ok.ensures
