use Rattle.std.proofs.Common.{◌≡◌, ◌++◌, drop}
use Rattle.bt_ast.specs.declared.attached.BodyId.{BodyId}
use Rattle.bt_attach.specs.Attaching.{is_at, places_from, bodies_at}
use Rattle.bt_attach.proofs.bodies.bodies_at.Given as goal

-- what there is, with what is to come, is the whole
abbrev pub invariant-loop-k : goal.invariant-loop-k
invariant-loop-k l = l.numbers ++ places_from (λ (b : BodyId). is_at l.point b.point) l.k (drop l.k l.bodies) ≡ bodies_at l.bodies l.point
