use Rattle.std.proofs.Common.{arith}
use Rattle.std.proofs.lemmas.Grind.{common_steps}
use Rattle.expr_types.proofs.leaf.literal.Goals as goal

pub returns-then-text-gt-STRING_BYTES-clause-refuses : goal.returns-then-text-gt-STRING_BYTES-clause-refuses
returns-then-text-gt-STRING_BYTES-clause-refuses c = grind (arith, common_steps)
