use Rattle.std.proofs.Common.{rules}
use Rattle.expr_types.proofs.Indexing.{shapes_held}
use Rattle.expr_types.proofs.variables.Variables.shapes.Goals as goal

pub returns : goal.returns
returns c = search (rules, shapes_held)
