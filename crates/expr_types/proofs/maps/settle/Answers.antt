use Rattle.std.proofs.Common.{arith}
use Rattle.std.proofs.lemmas.Grind.{common_steps}
use Rattle.expr_types.proofs.maps.settle.Goals as goal

pub returns-in-Ok-decide : goal.returns-in-Ok-decide
returns-in-Ok-decide c = grind (arith, common_steps)
