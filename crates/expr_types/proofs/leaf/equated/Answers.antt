use Rattle.expr_types.proofs.Trees.{compare_made}
use Rattle.expr_types.proofs.leaf.equated.Goals as goal

pub returns-in-Ok : goal.returns-in-Ok
returns-in-Ok c = compare_made c.args.equal c.in-Ok.left c.in-Ok.right c.args.left c.args.right c.in-Ok.ensures
