use Rattle.expr_types.proofs.Trees.{step_map_made}
use Rattle.expr_types.proofs.maps.step.Goals as goal

pub returns-in-Ok-clause-made : goal.returns-in-Ok-clause-made
returns-in-Ok-clause-made c = step_map_made c.args.keyed.map c.args.keyed.keys c.args.plus c.args.prefix
