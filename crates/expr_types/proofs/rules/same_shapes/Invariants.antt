use Rattle.std.proofs.Common.{◌≡◌, drop}
use Rattle.typed_tree.specs.Scope.{same_shapes}
use Rattle.expr_types.proofs.rules.same_shapes.Given as goal

-- what is left to compare decides
abbrev pub invariant-loop-i : goal.invariant-loop-i
invariant-loop-i l = same_shapes (drop l.i l.a) (drop l.i l.b) ≡ same_shapes l.a l.b
