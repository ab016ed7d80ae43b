use Rattle.std.proofs.Common.{map, take}
use Rattle.bt_types.specs.Told.{told_in_turn, arm_told, of_block, of_stmt}
use Rattle.typed_tree.specs.Parts.{joined, arm_parts, stmt_parts, block_parts}
use Rattle.bt_types.specs.Done.{Done}
use Rattle.bt_types.proofs.stmt.+stmt.Given as goal

-- what was seen so far is done
abbrev pub invariant-check_stmts-loop-stmt : goal.invariant-check_stmts-loop-stmt
invariant-check_stmts-loop-stmt l = Done (told_in_turn (map (λ s. of_stmt s l.inside) (take l.stmt-index l.stmts))) l.fn.known l.known (joined (map (λ s. stmt_parts s l.inside) l.all))

abbrev pub invariant-check_kind-loop-arm : goal.invariant-check_kind-loop-arm
invariant-check_kind-loop-arm l = Done (told_in_turn (map (λ arm. arm_told (arm.0, of_block arm.1 l.inside)) (take l.arm-index l.arm-items))) l.fn.known l.known (joined (map (λ arm. arm_parts (arm.0, block_parts arm.1 l.inside)) l.all))
