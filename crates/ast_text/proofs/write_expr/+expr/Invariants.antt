use Rattle.std.proofs.Common.{◌≡◌, ◌++◌, map, drop}
use Rattle.ast_text.specs.Exprs.{marked, expr_text}
use Rattle.ast_text.proofs.write_expr.+expr.Given as goal

-- what is written, with what is left to write, is the whole
abbrev pub invariant-write_marked-loop-expr : goal.invariant-write_marked-loop-expr
invariant-write_marked-loop-expr l = l.out.items ++ marked l.mark (map expr_text (drop l.expr-index l.exprs)) ≡ l.fn.out.items ++ marked l.fn.first (map expr_text l.fn.exprs)
