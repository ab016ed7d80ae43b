use Rattle.std.proofs.Common.{◌+◌, ◌∙◌, List, Some, get_or, subst, sym}
use Rattle.bt_core.specs.declared.map.Shape.TheVariants as shapes
use Rattle.bt_core.specs.declared.value.Value.{Value}
use Rattle.account_format.proofs.KeyLoop.{SoFar, any_default, so_far_all, so_far_more, so_far_none, so_far_stop}
use Rattle.account_format.proofs.value.key_at.Goals as goal

pub loop-shape-init : goal.loop-shape-init
loop-shape-init c =
    subst (λ (values : List Value). SoFar c.args.shapes.now c.args.bytes.now 0 values c.args.bytes.now) (sym c.new-parts.ensures.items) (so_far_none c.args.shapes.now c.args.bytes.now)

pub loop-shape-preserved : goal.loop-shape-preserved
loop-shape-preserved c =
    let place = c.loop-shape.shape-index in
    subst (λ (values : List Value). SoFar c.args.shapes.now c.args.bytes.now (place + 1) values c.in-Some.after.now) (sym c.in_ok-push.ensures.items)
    (so_far_more c.args.shapes.now c.args.bytes.now place c.loop-shape.parts.items c.loop-shape.rest.now c.in-Some.after.now
    (get_or c.args.shapes.now c.loop-shape.shape-index shapes.Int) c.in-Some.value
    c.loop-shape-test.true (any_default c.args.shapes.now c.loop-shape.shape-index shapes.Int c.loop-shape-test.true) c.loop-shape.invariant (sym c.in-Some.ensures))

pub returns-in_default : goal.returns-in_default
returns-in_default c =
    so_far_stop c.args.shapes.now c.args.bytes.now c.loop-shape.shape-index c.loop-shape.parts.items c.loop-shape.rest.now
    (get_or c.args.shapes.now c.loop-shape.shape-index shapes.Int) c.if-shapes-gt-KEY_PARTS.false
    c.loop-shape-test.true (any_default c.args.shapes.now c.loop-shape.shape-index shapes.Int c.loop-shape-test.true) c.loop-shape.invariant (sym c.in_default.ensures)

pub returns : goal.returns
returns c =
    (λ i. Some (c.of.ensures i, c.loop-shape.rest.now))
    ∙ so_far_all c.args.shapes.now c.args.bytes.now c.loop-shape.shape-index c.loop-shape.parts.items c.loop-shape.rest.now c.if-shapes-gt-KEY_PARTS.false c.loop-shape-test.false
    c.loop-shape.invariant
