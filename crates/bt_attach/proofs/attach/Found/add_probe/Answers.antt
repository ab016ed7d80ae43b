use Rattle.std.proofs.Common.{rules, ◌+◌, arith}
use Rattle.bt_attach.proofs.FoundLemmas.{adds_from, fault_from, from_bool_is, one_most}
use Rattle.bt_attach.proofs.SeenLemmas.{handed_on}
use Rattle.std.proofs.lemmas.Result.{err_from_is_err_and}
use Rattle.bt_attach.proofs.attach.Found.add_probe.Goals as goal

pub returns : goal.returns
returns c =
    adds_from c.args.formats.now c.args.start c.args.span c.args.place (c.len-3.result + c.from.result + c.from-2.result) c.len.result c.len-2.result
    c.as_slice-points.result.now c.args.probe.now.points c.args.self.now _ c.in_ok-seen.seen (search rules) c.len-2.ensures c.as_slice-points.ensures
    c.in_ok-seen.ensures.answer c.in_ok-seen.ensures.ticks c.in_ok-seen.ensures.bodies (omega (arith, c.len-3.ensures, c.len-2.ensures, c.from.ensures, c.from-2.ensures, from_bool_is c.in_ok-seen.seen.begin, from_bool_is c.in_ok-seen.seen.end))
    c.in_ok-add_bodies.ensures c.in_ok-add_points.ensures

pub overflow_cast-body : goal.overflow_cast-body
overflow_cast-body c = omega (arith, c.len-3.ensures, c.requires.few_bodies)

pub overflow_add-body : goal.overflow_add-body
overflow_add-body c = let begin = one_most c.in_ok-seen.seen.begin in omega (arith, begin, c.from.ensures, c.len-3.ensures, c.requires.few_bodies)

pub overflow_add-body-2 : goal.overflow_add-body-2
overflow_add-body-2 c =
    let begin = one_most c.in_ok-seen.seen.begin in
    let finish = one_most c.in_ok-seen.seen.end in
    omega (arith, begin, finish, c.from.ensures, c.from-2.ensures, c.len-3.ensures, c.requires.few_bodies)

pub returns-in_err-seen : goal.returns-in_err-seen
returns-in_err-seen c =
    let p = err_from_is_err_and c.from_residual.result c.from_residual.ensures.1 in
    handed_on _ c.from_residual.result p.0 c.in_err-seen.field-0.0 _ p.1 p.2
    (λ n. fault_from c.args.formats.now c.args.span c.len.result c.len-2.result c.as_slice-points.result.now c.args.probe.now.points c.args.self.now _
    (search rules) c.len-2.ensures c.as_slice-points.ensures (c.in_err-seen.ensures.answer n))
