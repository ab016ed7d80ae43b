use Rattle.std.proofs.Common.{refl, sym, ap, ◌∙◌, arith, Some}
use Rattle.bt_core.specs.declared.place.Place.{Place}
use Rattle.bt_attach.specs.declared.error.AttachError.TheVariants.{TooManyAttached}
use Rattle.bt_attach.proofs.SeenLemmas.{seen_start, seen_marks, nothing_broken, next_seen, still_none, crowded_here, broken_here, all_seen, handed_on}
use Rattle.std.proofs.lemmas.Result.{err_from_is_err_and}
use Rattle.bt_attach.proofs.probe.check_points.Goals as goal

pub loop-point-init : goal.loop-point-init
loop-point-init c =
    nothing_broken c.args.formats.now c.args.span c.args.ticks c.args.bodies c.args.points.now _
    (seen_start c.args.formats.now c.args.span c.args.ticks _ refl refl refl c.in_ok-no_marks.ensures refl)
    c.requires.few_ticks c.requires.few_bodies refl

pub overflow_add-bodies : goal.overflow_add-bodies
overflow_add-bodies c =
    let made = c.in_ok-add_point.ensures.1 in
    let seen = next_seen c.args.formats.now c.args.span c.args.ticks c.args.points.now c.loop-point.point-index c.point-item.result c.loop-point.seen c.add_point.new.seen
    c.loop-point.invariant.seen c.loop-point-test.true c.point-item.is made in
    let long = seen_marks c.args.formats.now c.args.span c.args.ticks _ c.add_point.new.seen seen in
    let counted = c.body_count.ensures.few in
    omega (arith, long, counted, c.requires.few_bodies, c.requires.formats)

pub returns-then-bodies-body_count-clause-answer : goal.returns-then-bodies-body_count-clause-answer
returns-then-bodies-body_count-clause-answer c = λ known.
    let counted = c.body_count.ensures.value in
    crowded_here c.args.formats.now c.args.span c.args.ticks c.args.bodies c.args.points.now c.loop-point.point-index c.point-item.result c.loop-point.seen c.add_point.new.seen
    c.loop-point.invariant c.loop-point-test.true c.point-item.is c.in_ok-add_point.ensures.0 c.in_ok-add_point.ensures.1 (omega arith)
    ∙ ap (λ (place : Place). Some (TooManyAttached place)) (sym c.place_of.ensures)

pub loop-point-preserved : goal.loop-point-preserved
loop-point-preserved c =
    let counted = c.body_count.ensures.value in
    still_none c.args.formats.now c.args.span c.args.ticks c.args.bodies c.args.points.now c.loop-point.point-index c.point-item.result c.loop-point.seen c.add_point.new.seen
    c.loop-point.invariant c.loop-point-test.true c.point-item.is c.in_ok-add_point.ensures.0 c.in_ok-add_point.ensures.1 (omega arith)

pub add_point-requires-clause-marks : goal.add_point-requires-clause-marks
add_point-requires-clause-marks c = seen_marks c.args.formats.now c.args.span c.args.ticks _ c.loop-point.seen c.loop-point.invariant.seen

pub returns-clause-answer : goal.returns-clause-answer
returns-clause-answer c = all_seen c.args.formats.now c.args.span c.args.ticks c.args.bodies c.args.points.now c.loop-point.point-index c.loop-point.seen c.loop-point.invariant c.loop-point-test.false

pub returns-in_err-add_point-clause-answer : goal.returns-in_err-add_point-clause-answer
returns-in_err-add_point-clause-answer c =
    let r = c.from_residual-in_err-add_point in
    let p = err_from_is_err_and r.result r.ensures.1 in
    handed_on _ r.result p.0 c.in_err-add_point.field-0.0 _ p.1 p.2
    (λ n. broken_here c.args.formats.now c.args.span c.args.ticks c.args.bodies c.args.points.now c.loop-point.point-index c.point-item.result c.loop-point.seen _
    c.loop-point.invariant c.loop-point-test.true c.point-item.is (c.in_err-add_point.ensures n))

pub returns-clause-ticks : goal.returns-clause-ticks
returns-clause-ticks c = c.loop-point.invariant.ticks_fit

pub returns-clause-bodies : goal.returns-clause-bodies
returns-clause-bodies c = c.loop-point.invariant.bodies_fit
