use Rattle.std.proofs.Common.{arith}
use Rattle.std.proofs.lemmas.Grind.{common_steps}
use Rattle.expr_types.proofs.rules.is_fine_agg.Goals as goal

pub returns-then-step-lt1 : goal.returns-then-step-lt1
returns-then-step-lt1 c = grind (arith, common_steps)

pub div_ceil-steps-requires : goal.div_ceil-steps-requires
div_ceil-steps-requires c = grind (arith, common_steps)

pub returns-then-min-max : goal.returns-then-min-max
returns-then-min-max c = grind (arith, common_steps)

pub returns-else-step-lt1 : goal.returns-else-step-lt1
returns-else-step-lt1 c = grind (arith, common_steps)
