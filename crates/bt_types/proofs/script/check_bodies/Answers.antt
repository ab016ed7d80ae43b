use Rattle.std.proofs.Common.{◌+◌, get_or, List, take, sym, subst}
use Rattle.std.proofs.lemmas.List.{get_or_default}
use Rattle.bt_ast.specs.declared.attached.BodyId.{BodyId}
use Rattle.bt_ast.specs.declared.attached.BodyPoint.TheVariants.{Begin}
use Rattle.bt_types.specs.declared.body.OpenBody.{OpenBody}
use Rattle.bt_types.specs.Open.{BodiesDone}
use Rattle.bt_types.proofs.Opens.{bodies_more, bodies_refused, bodies_err, bodies_end, bodies_begin}
use Rattle.bt_types.proofs.script.check_bodies.Goals as goal

pub returns-in_err-body : goal.returns-in_err-body
returns-in_err-body c =
    let id : BodyId = get_or c.args.bodies.now c.loop-id.id-index (record { probe = 0; point = Begin }) in
    let is = get_or_default c.args.bodies.now c.loop-id.id-index (record { probe = 0; point = Begin }) id c.loop-id-test.true in
    bodies_err c.args.script.now c.args.formats.now c.args.bodies.now c.args.known.now _ c.from_residual.result c.in_err-body.field-0.0 c.from_residual.ensures.1
    (bodies_refused c.args.script.now c.args.formats.now c.args.bodies.now c.loop-id.id-index id c.args.known.now c.loop-id.known c.loop-id.all c.in_err-body.field-0.0
    c.loop-id-test.true is c.loop-id.invariant c.in_err-body.ensures)

pub loop-id-preserved : goal.loop-id-preserved
loop-id-preserved c =
    let id : BodyId = get_or c.args.bodies.now c.loop-id.id-index (record { probe = 0; point = Begin }) in
    let is = get_or_default c.args.bodies.now c.loop-id.id-index (record { probe = 0; point = Begin }) id c.loop-id-test.true in
    subst (λ (all : List OpenBody). BodiesDone c.args.script.now c.args.formats.now (take (c.loop-id.id-index + 1) c.args.bodies.now) c.args.known.now c.check_one.new.known all) (sym c.in_ok-push.ensures.ok)
    (bodies_more c.args.script.now c.args.formats.now c.args.bodies.now c.loop-id.id-index id c.args.known.now c.loop-id.known c.check_one.new.known c.loop-id.all c.in_ok-body.body
    c.loop-id-test.true is c.loop-id.invariant c.in_ok-body.ensures)

pub returns : goal.returns
returns c = bodies_end c.args.script.now c.args.formats.now c.args.bodies.now c.loop-id.id-index c.args.known.now c.loop-id.known c.loop-id.all c.loop-id-test.false c.loop-id.invariant

pub loop-id-init : goal.loop-id-init
loop-id-init c =
    subst (λ (all : List OpenBody). BodiesDone c.args.script.now c.args.formats.now (take 0 c.args.bodies.now) c.args.known.now c.args.known.now all) (sym c.new-all.ensures) (bodies_begin c.args.script.now c.args.formats.now c.args.known.now)
