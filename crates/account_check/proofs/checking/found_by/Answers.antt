use Rattle.std.proofs.Common.{ℕ, length, ◌+◌, sym, subst}
use Rattle.actor_plan.specs.Plans.{Plan}
use Rattle.account_steps.specs.Plans.{CanFollow}
use Rattle.account_check.proofs.EntryLemmas.{can_follow, entries_blank, entries_can, maps_fine}
use Rattle.account_check.proofs.checking.found_by.Goals as goal

pub check_steps-requires : goal.check_steps-requires
check_steps-requires g c κs within =
    let script = c.args.script.now in let attached = c.args.attached.now in let r = c.args.recording.now in
    let can = subst (λ (plans : ℕ → Plan). CanFollow r attached script.maps plans) (sym c.requires.1.1.0) (can_follow script attached r c.requires.1.0 (λ actor. c.walks_take_few.ensures script (length r.cpus + 1) actor)) in
    let made = entries_can script attached r c.args.entries c.requires.1.1.1.1 in
    let blank = entries_blank script attached r c.args.entries c.requires.1.1.1.1 in
    (within, (can, (c.requires.1.1.1.0, (maps_fine script attached r, (made, blank)))))
