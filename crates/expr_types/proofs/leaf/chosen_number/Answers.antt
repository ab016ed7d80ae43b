use Rattle.expr_types.proofs.Trees.{number_chosen}
use Rattle.expr_types.proofs.leaf.chosen_number.Goals as goal

pub returns-in-Ok : goal.returns-in-Ok
returns-in-Ok c = number_chosen c.in-Ok.condition c.in-Ok.values.0 c.in-Ok.values.1 c.args.condition c.args.yes c.args.no c.in-Ok.ensures
