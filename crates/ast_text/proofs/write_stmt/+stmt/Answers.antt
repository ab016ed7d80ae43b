use Rattle.std.proofs.Common.{rules, arith}
use Rattle.std.proofs.lemmas.Grind.{common_steps}
use Rattle.ast_text.proofs.StmtTexts.{while_text, unroll_text, if_text}
use Rattle.ast_text.proofs.write_stmt.+stmt.Goals as goal

pub write_kind-returns-after-loop-arm : goal.write_kind-returns-after-loop-arm
write_kind-returns-after-loop-arm t c = rw c.in-If.is (rw (if_text c.in-If.arms c.in-If.otherwise) (first_of (search rules, grind (arith, common_steps))))

pub write_kind-returns-in_ok-write_call-in-While : goal.write_kind-returns-in_ok-write_call-in-While
write_kind-returns-in_ok-write_call-in-While t c = rw c.in-While.is (rw (while_text c.in-While.condition c.in-While.block) (first_of (search rules, grind (arith, common_steps))))

pub write_kind-returns-in_ok-write_turns-in-Unroll : goal.write_kind-returns-in_ok-write_turns-in-Unroll
write_kind-returns-in_ok-write_turns-in-Unroll t c = rw c.in-Unroll.is (rw (unroll_text c.in-Unroll.turns c.in-Unroll.block) (first_of (search rules, grind (arith, common_steps))))
