use Rattle.std.proofs.Common.{◌≡◌, List, Some, refl, subst, ℕ, length, map, ap, arith}
use Rattle.std.specs.Prelude.{slice_get}
use Rattle.typed_tree.specs.declared.body.TypedBody.{TypedBody}
use Rattle.bt_lower.proofs.Placed.{body-in}
use Rattle.bt_lower.proofs.Scripts.{item-at, Script-next}
use Rattle.fmt_text.specs.Arguments.{argument_shapes}
use Rattle.bt_lower.specs.Bodies.{LoweredSoFar}
use Rattle.bt_lower.proofs.lower.lower.Goals as goal

pub lower_body-requires-clause-here : goal.lower_body-requires-clause-here
lower_body-requires-clause-here c =
    let here = subst (λ (l : List TypedBody). slice_get l c.loop-body.body-index ≡ Some c.body-item.result) c.as_slice-body-items.ensures (item-at _ c.loop-body.body-index c.body-item.result c.loop-body-test.true c.body-item.is) in
    body-in c.args.script.now.maps c.args.script.now.formats c.args.script.now.bodies c.loop-body.body-index c.body-item.result c.args.script.now.placed here

pub loop-body-preserved : goal.loop-body-preserved
loop-body-preserved c =
    let here = subst (λ (l : List TypedBody). slice_get l c.loop-body.body-index ≡ Some c.body-item.result) c.as_slice-body-items.ensures (item-at _ c.loop-body.body-index c.body-item.result c.loop-body-test.true c.body-item.is) in
    Script-next _ _ c.args.script.now.bodies c.loop-body.body-index _ c.body-item.result _ c.loop-body.probes _ refl here c.in_ok-probe.ensures c.in_ok-push.ensures.ok c.loop-body.invariant

pub returns : goal.returns
returns c =
    let past : c.loop-body.body-index ≡ length c.args.script.now.bodies = omega (arith, ap length c.as_slice-body-items.ensures, c.loop-body-test.false, c.loop-body.auto.body-index-end) in
    subst (λ (k : ℕ). LoweredSoFar c.args.script.now.maps (map argument_shapes c.args.script.now.formats) c.args.script.now.bodies k c.loop-body.probes) past c.loop-body.invariant
