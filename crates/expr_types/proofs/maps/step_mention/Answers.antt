use Rattle.std.proofs.Common.{arith}
use Rattle.std.proofs.lemmas.Grind.{common_steps}
use Rattle.expr_types.proofs.maps.step_mention.Goals as goal

pub returns-clause-learned : goal.returns-clause-learned
returns-clause-learned c = grind (arith, common_steps)

pub returns-clause-refuses : goal.returns-clause-refuses
returns-clause-refuses c = grind (arith, common_steps)
