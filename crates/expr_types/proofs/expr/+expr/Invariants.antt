use Rattle.std.proofs.Common.{◌≡◌, map, take, drop}
use Rattle.expr_types.specs.Grows.{Grows}
use Rattle.expr_types.specs.Judge.{judged}
use Rattle.expr_types.specs.Walk.{of_expr, points_of}
use Rattle.typed_tree.specs.Parts.{made_of}
use Rattle.expr_types.specs.Typing.{AreTyping}
use Rattle.expr_types.proofs.expr.+expr.Given as goal

-- what is left to judge decides, and what was seen is typed
abbrev pub invariant-check_all-loop-expr : goal.invariant-check_all-loop-expr
invariant-check_all-loop-expr l = record {
  left : judged (points_of (map of_expr (drop l.expr-index l.exprs))) l.known ≡ judged (points_of (map of_expr l.exprs)) l.fn.known;
  grows : Grows l.fn.known l.known;
  typing : AreTyping l.known (map of_expr (take l.expr-index l.exprs)) (map made_of l.all);
}
