use Rattle.std.proofs.Common.{rules, ◌≡◌, ◌<◌, ◌≤◌, ℕ, false, IsTrue, List, length, slice_index_or, sym, refl, subst, arith}
use Rattle.std.specs.List.{AllByRecursion}
use Rattle.bt_core.specs.declared.step.ObjectId.TheVariants.{Clock}
use Rattle.bt_core.specs.declared.step.Op.TheVariants.{Check}
use Rattle.bt_core.specs.declared.step.Reply.TheVariants.{Done}
use Rattle.bt_core.specs.declared.step.Step.{Step}
use Rattle.run_objects.specs.Worlds.{World}
use Rattle.account_follow.specs.declared.follow.Reached.{Reached}
use Rattle.account_steps.specs.declared.check.Told.{Told}
use Rattle.account_steps.specs.Plans.{replay_by}
use Rattle.account_steps.proofs.EndLemmas.{all_made, closed_by, tells_end}
use Rattle.account_steps.proofs.Verdict.{below_by, found_right, found_unfinished, found_wrong, low_by}
use Rattle.account_steps.proofs.check.check_steps.Goals as goal

pub first_stop-stop-requires : goal.first_stop-stop-requires
first_stop-stop-requires g c =
    let t = c.in_ok-trails.trails in
    let r = c.args.recording.now in
    let p = replay_by r c.args.attached.now c.args.exits c.args.maps.now g.plans in
    let n = c.len-cpus.result in
    let main : n ≡ length r.cpus = search rules in
    let w : World = record { cpus = n; ticks = c.len-ticks.result; maps = c.args.maps.now } in
    let low = low_by w (length r.cpus) c.in_ok-made.made.list t.list main c.in_ok-trails.ensures.alike c.in_ok-made.ensures.can in
    let below = below_by t.list (length r.cpus) (length t.each.items) c.in_ok-trails.ensures.reached.count low in
    subst (λ (z : List Step × List Reached). AllByRecursion (λ (s : Step). s.actor < length z.1) z.0) (λ i. (sym c.as_slice.ensures i, sym c.as_slice-2.ensures.value i)) below

pub returns-then-stop-total : goal.returns-then-stop-total
returns-then-stop-total g c =
    let t = c.in_ok-trails.trails in
    let r = c.args.recording.now in
    let p = replay_by r c.args.attached.now c.args.exits c.args.maps.now g.plans in
    let n = c.len-cpus.result in
    let main : n ≡ length r.cpus = search rules in
    let w : World = record { cpus = n; ticks = c.len-ticks.result; maps = c.args.maps.now } in
    let low = low_by w (length r.cpus) c.in_ok-made.made.list t.list main c.in_ok-trails.ensures.alike c.in_ok-made.ensures.can in
    let lt : c.first_stop-stop.result < length c.args.entries = (let k = c.if-stop-total.true in let m : c.len-total.result ≡ length c.args.entries = search rules in omega arith) in
    found_wrong p c.args.entries c.in_ok-made.made.list t.list n main c.requires.1.1.1.1.1 c.in_ok-made.ensures.within c.in_ok-made.ensures.told c.in_ok-trails.ensures.alike
    c.in_ok-made.ensures.replies c.in_ok-made.ensures.stamps c.in_ok-made.ensures.order c.in_ok-made.ensures.wrong
    t.each.items t.begin t.cpus c.in_ok-trails.ensures.reached low c.as_slice.result.now c.as_slice.ensures c.as_slice-2.result.now c.as_slice-2.ensures.value
    c.first_stop-stop.result c.first_stop-stop.ensures.within c.first_stop-stop.ensures.before c.first_stop-stop.ensures.stop
    (record { actor = 0; object = Clock; stamp = 0; op = Check; reply = Done }) lt

pub returns-then-not-are_all_on : goal.returns-then-not-are_all_on
returns-then-not-are_all_on g c =
    let t = c.in_ok-trails.trails in
    let r = c.args.recording.now in
    let p = replay_by r c.args.attached.now c.args.exits c.args.maps.now g.plans in
    let n = c.len-cpus.result in
    let main : n ≡ length r.cpus = search rules in
    let w : World = record { cpus = n; ticks = c.len-ticks.result; maps = c.args.maps.now } in
    let low = low_by w (length r.cpus) c.in_ok-made.made.list t.list main c.in_ok-trails.ensures.alike c.in_ok-made.ensures.can in
    let every : length c.args.entries ≤ c.first_stop-stop.result = (let k = c.if-stop-total.false in let m : c.len-total.result ≡ length c.args.entries = search rules in omega arith) in
    let off = subst (λ (z : List Reached). (a : ℕ) × ((d : Reached) × (a < length z) × ((slice_index_or z a d).on_list ≡ false))) c.as_slice-3.ensures.value (c.are_all_on.ensures.off c.if-not-are_all_on.true) in
    found_unfinished p c.args.entries c.in_ok-made.made.list t.list n main c.requires.1.1.1.1.1 c.in_ok-made.ensures.within c.in_ok-made.ensures.told c.in_ok-trails.ensures.alike
    c.in_ok-made.ensures.replies c.in_ok-made.ensures.stamps c.in_ok-made.ensures.order c.in_ok-made.ensures.wrong
    t.each.items t.begin t.cpus c.in_ok-trails.ensures.reached low c.as_slice.result.now c.as_slice.ensures c.as_slice-2.result.now c.as_slice-2.ensures.value
    c.first_stop-stop.result c.first_stop-stop.ensures.within c.first_stop-stop.ensures.before c.first_stop-stop.ensures.stop
    every off.0 off.1.0 off.1.1 off.1.2

pub end_of-requires : goal.end_of-requires
end_of-requires g c =
    let t = c.in_ok-trails.trails in
    let made = c.in_ok-made.made.list in
    let w : World = record { cpus = c.len-cpus.result; ticks = c.len-ticks.result; maps = c.args.maps.now } in
    let every : length c.args.entries ≤ c.first_stop-stop.result = (let k = c.if-stop-total.false in let m : c.len-total.result ≡ length c.args.entries = search rules in omega arith) in
    let within = subst (λ (z : List Step). c.first_stop-stop.result ≤ length z) c.as_slice.ensures c.first_stop-stop.ensures.within in
    let all = all_made c.args.entries made t.list c.first_stop-stop.result c.in_ok-made.ensures.within c.in_ok-trails.ensures.alike within every in (
      closed_by c.len-cpus.result c.len-ticks.result c.args.maps.now c.as_slice-4.result.now made c.of-steps.result.value _ c.as_slice-4.ensures c.of-steps.ensures c.requires.1.1.1.0
          c.in_ok-made.ensures.can (c.in_ok-close.ensures w made (c.in_ok-made.ensures.stand all)),
      refl,
    )

pub returns : goal.returns
returns g c =
    let t = c.in_ok-trails.trails in
    let r = c.args.recording.now in
    let p = replay_by r c.args.attached.now c.args.exits c.args.maps.now g.plans in
    let n = c.len-cpus.result in
    let main : n ≡ length r.cpus = search rules in
    let w : World = record { cpus = n; ticks = c.len-ticks.result; maps = c.args.maps.now } in
    let low = low_by w (length r.cpus) c.in_ok-made.made.list t.list main c.in_ok-trails.ensures.alike c.in_ok-made.ensures.can in
    let every : length c.args.entries ≤ c.first_stop-stop.result = (let k = c.if-stop-total.false in let m : c.len-total.result ≡ length c.args.entries = search rules in omega arith) in
    let ons = subst (λ (z : List Reached). (a : ℕ) (d : Reached) → a < length z → IsTrue (slice_index_or z a d).on_list) c.as_slice-3.ensures.value (c.are_all_on.ensures.on c.if-not-are_all_on.false) in
    let found = found_right p c.args.entries c.in_ok-made.made.list t.list n main c.requires.1.1.1.1.1 c.in_ok-made.ensures.within c.in_ok-made.ensures.told c.in_ok-trails.ensures.alike
    c.in_ok-made.ensures.replies c.in_ok-made.ensures.stamps c.in_ok-made.ensures.order c.in_ok-made.ensures.wrong
    t.each.items t.begin t.cpus c.in_ok-trails.ensures.reached low c.as_slice.result.now c.as_slice.ensures c.as_slice-2.result.now c.as_slice-2.ensures.value
    c.first_stop-stop.result c.first_stop-stop.ensures.within c.first_stop-stop.ensures.before c.first_stop-stop.ensures.stop
    every (λ actor. (c.requires.1.0.plans_are actor).actor_is) ons in
    let told : Told = record { steps = t.list; rows = c.in_ok-rows.rows; lost = c.in_ok-rows.lost } in (
      found.0,
      found.1,
      tells_end p told c.in_ok-made.made.list c.of-steps.result.value n c.as_slice-4.result.now main c.of-steps.ensures c.as_slice-4.ensures
          c.in_ok-trails.ensures.alike c.in_ok-rows.ensures.rows c.in_ok-rows.ensures.lost c.in_ok-rows.ensures.fit,
    )
