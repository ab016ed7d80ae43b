use Rattle.std.proofs.Common.{◌≡◌, ◌++◌, [], codes, map, drop}
use Rattle.ast_text.specs.Words.{ending}
use Rattle.ast_text.specs.Stmts.{arms_after, arm_of, joined, stmt_text}
use Rattle.ast_text.proofs.write_stmt.+stmt.Given as goal

-- what is written, with what is left to write, is the whole
abbrev pub invariant-write_kind-loop-arm : goal.invariant-write_kind-loop-arm
invariant-write_kind-loop-arm l = l.out.items ++ arms_after l.word (map arm_of (drop l.arm-index l.arm-items)) ≡ l.fn.out.items ++ arms_after [] (map arm_of l.arm-items)

abbrev pub invariant-write_block-loop-stmt : goal.invariant-write_block-loop-stmt
invariant-write_block-loop-stmt l = l.out.items ++ joined (map stmt_text (drop l.stmt-index l.stmt-items)) ≡ l.fn.out.items ++ (ending (codes "{") ++ joined (map stmt_text l.stmt-items))
