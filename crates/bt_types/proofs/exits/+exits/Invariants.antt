use Rattle.std.proofs.Common.{◌≡◌, false, take}
use Rattle.std.specs.List.{list_any}
use Rattle.bt_ast.specs.declared.expr.Expr.{Expr}
use Rattle.bt_ast.specs.declared.stmt.Block.{Block}
use Rattle.bt_types.specs.Exits.{stmt_exits, block_exits}
use Rattle.bt_types.proofs.exits.+exits.Given as goal

-- it stands in none so far
abbrev pub invariant-block_exits-loop-stmt : goal.invariant-block_exits-loop-stmt
invariant-block_exits-loop-stmt l = list_any stmt_exits (take l.stmt-index l.stmt-items) ≡ false

abbrev pub invariant-kind_exits-loop-arm : goal.invariant-kind_exits-loop-arm
invariant-kind_exits-loop-arm l = list_any (λ (arm : Expr × Block). block_exits arm.1) (take l.arm-index l.arm-items) ≡ false
