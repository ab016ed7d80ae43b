use Rattle.bt_attach.proofs.FoundLemmas.{none_yet, next_probe, failed_probe, all_found}
use Rattle.bt_attach.proofs.SeenLemmas.{handed_on}
use Rattle.std.proofs.lemmas.Result.{err_from_is_err_and}
use Rattle.bt_attach.proofs.attach.Found.of.Goals as goal

pub loop-i-preserved : goal.loop-i-preserved
loop-i-preserved c =
    next_probe c.args.formats.now c.args.start c.args.span c.args.probes.now c.loop-i.i c.index-probes-i.result c.loop-i.found c.add_probe.new.self c.loop-i.invariant
    c.loop-i-test.true c.index-probes-i.is c.in_ok-add_probe.ensures.0 c.in_ok-add_probe.ensures.1

pub returns : goal.returns
returns c = all_found c.args.formats.now c.args.start c.args.span c.args.probes.now c.loop-i.i c.loop-i.found c.loop-i.invariant c.loop-i-test.false

pub loop-i-init : goal.loop-i-init
loop-i-init c = none_yet c.args.formats.now c.args.start c.args.span c.args.probes.now _ c.new.ensures c.new-2.ensures.items

pub returns-in_err-add_probe : goal.returns-in_err-add_probe
returns-in_err-add_probe c =
    let p = err_from_is_err_and c.from_residual.result c.from_residual.ensures.1 in
    handed_on _ c.from_residual.result p.0 c.in_err-add_probe.field-0.0 _ p.1 p.2
    (λ n. failed_probe c.args.formats.now c.args.start c.args.span c.args.probes.now c.loop-i.i c.index-probes-i.result c.loop-i.found _ c.loop-i.invariant
    c.loop-i-test.true c.index-probes-i.is (c.in_err-add_probe.ensures n))

pub add_probe-requires-clause-few_bodies : goal.add_probe-requires-clause-few_bodies
add_probe-requires-clause-few_bodies c = c.loop-i.invariant.bodies_fit

pub add_probe-requires-clause-few_ticks : goal.add_probe-requires-clause-few_ticks
add_probe-requires-clause-few_ticks c = c.loop-i.invariant.ticks_fit
