use Rattle.std.proofs.Common.{arith}
use Rattle.std.proofs.lemmas.Grind.{common_steps}
use Rattle.expr_types.proofs.Finding.{other_length}
use Rattle.expr_types.proofs.rules.same_shapes.Goals as goal

pub returns-then-a-b : goal.returns-then-a-b
returns-then-a-b c = other_length c.args.a.now c.args.b.now c.if-a-b.true

pub returns-then-not-same_shape : goal.returns-then-not-same_shape
returns-then-not-same_shape c = grind (arith, common_steps)

pub loop-i-preserved : goal.loop-i-preserved
loop-i-preserved c = grind (arith, common_steps)

pub returns : goal.returns
returns c = grind (arith, common_steps)
