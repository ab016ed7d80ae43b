-- A script is attached to a recording in one way.
use Rattle.std.proofs.Common.{◌≡◌, ℕ, List, length, ap, sym, ◌∙◌}
use Rattle.std.specs.Cmp.{nat_cmp_total}
use Rattle.std.specs.Ordering.{nat_cmp, is_lt}
use Rattle.std.proofs.lemmas.List.Sorted.{ranks_by}
use Rattle.bt_ast.specs.declared.attached.Attached.{Attached}
use Rattle.bt_ast.specs.declared.attached.BodyId.{BodyId}
use Rattle.bt_ast.specs.declared.attached.BodyPoint.TheVariants.{Begin, End}
use Rattle.bt_ast.specs.declared.attached.Tick.{Tick}
use Rattle.bt_ast.specs.declared.probe.Script.{Script}
use Rattle.bt_core.proofs.StableOrder.{stable_order}
use Rattle.bt_core.specs.Sorted.{ordered}
use Rattle.event_layout.specs.declared.format.Format.{Format}
use Rattle.bt_attach.specs.Attaching.{IsAttachedTo, at_each, bodies_at}
use Rattle.bt_attach.specs.Ticks.{AreInOrder}

-- ticks in order are the points' ticks put in order
in_order : (points ticks : List Tick) → AreInOrder points ticks → ticks ≡ ordered (λ (a b : Tick). is_lt (nat_cmp a.time b.time)) points
in_order points ticks are =
    stable_order (λ (a b : Tick). is_lt (nat_cmp a.time b.time)) (ranks_by nat_cmp_total (λ (t : Tick). t.time)) points ticks are.by_time are.by_point

one_order : (points ticks others : List Tick) → AreInOrder points ticks → AreInOrder points others → ticks ≡ others
one_order points ticks others a b = in_order points ticks a ∙ sym (in_order points others b)

alike : (a b : Attached) → a.bodies ≡ b.bodies → a.by_format ≡ b.by_format → a.ticks ≡ b.ticks → a.begin ≡ b.begin → a.end ≡ b.end → a ≡ b
alike a b bodies by_format ticks begin end =
    λ i. record { bodies = bodies i; by_format = by_format i; ticks = ticks i; begin = begin i; end = end i }

pub one_attached : (script : Script) (formats : List Format) (start end : ℕ) (one other : Attached)
    → IsAttachedTo script formats start end one → IsAttachedTo script formats start end other → one ≡ other
one_attached script formats start end one other a b =
    let bodies : one.bodies ≡ other.bodies = a.bodies ∙ sym b.bodies in
    alike one other bodies
    (a.by_format ∙ ap (λ (l : List BodyId). at_each l (length formats)) bodies ∙ sym b.by_format)
    (one_order _ one.ticks other.ticks a.ticks b.ticks)
    (a.begin ∙ ap (λ (l : List BodyId). bodies_at l Begin) bodies ∙ sym b.begin)
    (a.finish ∙ ap (λ (l : List BodyId). bodies_at l End) bodies ∙ sym b.finish)
