use Rattle.std.proofs.Common.{ℕ, length, sym, ap, ◌∙◌, subst}
use Rattle.actor_plan.specs.Plans.{Plan}
use Rattle.cpu_worker.specs.Worlds.{world_cpus, sets_in, AreTurnsOf, IsPlanIn}
use Rattle.turn_lock.specs.History.{Each}
use Rattle.thread_actors.specs.Plans.{HavePlans}
use Rattle.thread_actors.specs.Acts.{ArePlansIn, HaveGone, replay_in}
use Rattle.thread_actors.specs.Turns.{AreUnused, AreTurnsFrom}
use Rattle.thread_actors.proofs.Ending.{main_plan, main_told, cpu_plans, cpu_told, all_done, if_ok_so}
use Rattle.thread_actors.proofs.Turning.{less_long, main_turns, cpu_turns, main_unused, cpu_unused}
use Rattle.thread_actors.proofs.actors.run_actors.Goals as goal

pub begin-requires-clause-turns : goal.begin-requires-clause-turns
begin-requires-clause-turns g c =
    let w = c.args.world.now in let main = c.main_actor-main.result in let taken = c.main_actor-main.ensures in
    subst (λ a. AreTurnsOf (sets_in w) a main.turns) (sym taken.trace.actor_is)
    (main_turns (sets_in w) (world_cpus w) c.args.turns.items main.turns c.requires.many taken.last_turns c.requires.turns)

pub begin-requires-clause-plan : goal.begin-requires-clause-plan
begin-requires-clause-plan g c =
    let P = g.B.Bodies.plan in let w = c.args.world.now in let main = c.main_actor-main.result in let taken = c.main_actor-main.ensures in
    subst (λ a. IsPlanIn w a (P main.bodies)) (sym taken.trace.actor_is) (main_plan P w c.args.bodies.items main.bodies c.requires.actors taken.last_bodies c.requires.plans)

pub run_cpus-requires-clause-cpus : goal.run_cpus-requires-clause-cpus
run_cpus-requires-clause-cpus g c lifetimes bounds = ap length c.main_actor-main.ensures.bodies ∙ less_long (world_cpus c.args.world.now) c.args.bodies.items c.requires.actors

pub run_cpus-requires-clause-many : goal.run_cpus-requires-clause-many
run_cpus-requires-clause-many g c lifetimes bounds = ap length c.main_actor-main.ensures.turns ∙ less_long (world_cpus c.args.world.now) c.args.turns.items c.requires.many

pub run_cpus-requires-clause-plans : goal.run_cpus-requires-clause-plans
run_cpus-requires-clause-plans g c lifetimes bounds =
    let P = g.B.Bodies.plan in let w = c.args.world.now in let taken = c.main_actor-main.ensures in
    subst (ArePlansIn P w) (sym taken.bodies) (cpu_plans P w c.args.bodies.items c.main_actor-main.result.bodies c.requires.actors taken.last_bodies c.requires.plans)

pub run_cpus-requires-clause-turns : goal.run_cpus-requires-clause-turns
run_cpus-requires-clause-turns g c lifetimes bounds = let w = c.args.world.now in let taken = c.main_actor-main.ensures in
    subst (AreTurnsFrom (sets_in w) 0) (sym taken.turns) (cpu_turns (sets_in w) (world_cpus w) c.args.turns.items c.main_actor-main.result.turns c.requires.many taken.last_turns c.requires.turns)

pub run_cpus-requires-clause-unused : goal.run_cpus-requires-clause-unused
run_cpus-requires-clause-unused g c lifetimes bounds = let w = c.args.world.now in let taken = c.main_actor-main.ensures in
    subst (Each AreUnused) (sym taken.turns) (cpu_unused (sets_in w) (world_cpus w) c.args.turns.items c.main_actor-main.result.turns c.requires.many taken.last_turns c.requires.unused)

-- the turns and the plan after BEGIN are those before
pub end_all-requires-clause-turns : goal.end_all-requires-clause-turns
end_all-requires-clause-turns g c = subst (λ a. AreTurnsOf (sets_in c.args.world.now) a c.in_ok-main.main.turns) (sym c.in_ok-main.ensures.actor) c.in_ok-main.ensures.turns_are

pub end_all-requires-clause-plan : goal.end_all-requires-clause-plan
end_all-requires-clause-plan g c =
    let P = g.B.Bodies.plan in let w = c.args.world.now in let taken = c.main_actor-main.ensures in
    subst (λ (z : ℕ × Plan). IsPlanIn w z.0 z.1) (λ i. (sym (c.in_ok-main.ensures.actor ∙ taken.trace.actor_is) i, sym c.in_ok-main.ensures.plan_kept i))
    (main_plan P w c.args.bodies.items c.main_actor-main.result.bodies c.requires.actors taken.last_bodies c.requires.plans)

pub returns : goal.returns
returns g c = if_ok_so _ _ c.end_all.result (λ left ended plans have.
    let P = g.B.Bodies.plan in let w = c.args.world.now in let n = world_cpus w in
    let main = c.main_actor-main.result in let taken = c.main_actor-main.ensures in
    let told = cpu_told P w c.args.bodies.items main.bodies c.requires.actors taken.last_bodies plans have in
    let gone = c.in_ok-all.ensures plans (subst (HavePlans P n plans) (sym taken.bodies) told) in
    all_done P w plans main c.in_ok-main.main ended.raised ended.finished c.in_ok-all.all c.in_ok-main.begun ended.end_count
    (record {
      first = taken.trace;
      unused = main_unused (sets_in w) n c.args.turns.items main.turns c.requires.many taken.last_turns c.requires.unused;
      begin_plan = main_told P w c.args.bodies.items main.bodies c.requires.actors taken.last_bodies plans have;
      began = c.in_ok-main.ensures;
      gone = subst (λ k. HaveGone (replay_in w plans) w k c.in_ok-all.all) c.clock-clock.ensures gone;
      is_raised = ended.is_raised;
      ended = ended.ended;
    }) left ended.with_main) c.end_all.ensures
