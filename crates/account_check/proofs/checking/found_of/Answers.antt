use Rattle.std.proofs.Common.{List, length, ◌+◌, sym, refl, subst}
use Rattle.bt_meaning.specs.Walks.{walking}
use Rattle.account_steps.specs.Plans.{HavePlans}
use Rattle.account_check.specs.declared.walks.Walks.{Walks}
use Rattle.account_check.specs.Plans.{plan_of}
use Rattle.account_check.proofs.EntryLemmas.{have_plans}
use Rattle.account_check.proofs.checking.found_of.Goals as goal

pub found_with-requires-clause-plans : goal.found_with-requires-clause-plans
found_with-requires-clause-plans c =
    let script = c.args.script.now in let cpus = length c.args.recording.now.cpus in
    subst (λ (walks : List Walks). HavePlans plan_of (walking script (cpus + 1)) cpus walks) (sym c.as_mut_slice.ensures.value)
    (have_plans script cpus c.len.result (walking script (cpus + 1)) refl c.len.ensures c.in_ok-bodies.bodies.items c.in_ok-bodies.ensures.count c.in_ok-bodies.ensures.each)
