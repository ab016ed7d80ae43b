use Rattle.expr_types.proofs.Trees.{unary_made}
use Rattle.expr_types.proofs.leaf.prefixed.Goals as goal

pub returns-in-Ok : goal.returns-in-Ok
returns-in-Ok c = unary_made c.args.op c.in-Ok.value c.args.value c.in-Ok.ensures
