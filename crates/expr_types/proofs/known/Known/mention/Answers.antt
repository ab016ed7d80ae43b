use Rattle.std.proofs.Common.{arith}
use Rattle.std.proofs.lemmas.Grind.{common_steps}
use Rattle.expr_types.proofs.known.Known.mention.Goals as goal

pub returns : goal.returns
returns c = grind (arith, common_steps)

pub returns-then-is_mentioned : goal.returns-then-is_mentioned
returns-then-is_mentioned c = grind (arith, common_steps)
