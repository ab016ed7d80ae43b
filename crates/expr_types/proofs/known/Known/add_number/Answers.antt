use Rattle.std.proofs.Common.{arith}
use Rattle.std.proofs.lemmas.Grind.{common_steps}
use Rattle.expr_types.proofs.known.Known.add_number.Goals as goal

pub returns-then-has_number-clause-learned : goal.returns-then-has_number-clause-learned
returns-then-has_number-clause-learned c = grind (arith, common_steps)

pub returns-clause-learned : goal.returns-clause-learned
returns-clause-learned c = grind (arith, common_steps)

pub returns-clause-here : goal.returns-clause-here
returns-clause-here c = grind (arith, common_steps)
