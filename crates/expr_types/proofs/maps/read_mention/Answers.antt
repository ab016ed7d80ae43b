use Rattle.std.proofs.Common.{arith}
use Rattle.std.proofs.lemmas.Grind.{common_steps}
use Rattle.expr_types.proofs.maps.read_mention.Goals as goal

pub returns-in-None-clause-refuses : goal.returns-in-None-clause-refuses
returns-in-None-clause-refuses c = grind (arith, common_steps)

pub returns-in-Some-clause-refuses : goal.returns-in-Some-clause-refuses
returns-in-Some-clause-refuses c = grind (arith, common_steps)

pub returns-in-None-clause-learned : goal.returns-in-None-clause-learned
returns-in-None-clause-learned c = grind (arith, common_steps)

pub settle-requires : goal.settle-requires
settle-requires c = grind (arith, common_steps)
