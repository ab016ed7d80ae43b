use Rattle.expr_types.proofs.Trees.{binary_made}
use Rattle.expr_types.proofs.leaf.operated.Goals as goal

pub returns-in-Ok : goal.returns-in-Ok
returns-in-Ok c = binary_made c.args.op c.in-Ok.left c.in-Ok.right c.args.left c.args.right c.in-Ok.ensures
