use Rattle.std.proofs.Common.{sym, ◌∙◌, arith}
use Rattle.thread_actors.proofs.Running.{all_ended, by_result, tasks_long, tasks_ready, tasks_gone}
use Rattle.thread_actors.proofs.Turning.{one_actors}
use Rattle.cpu_worker.specs.Worlds.{sets_in}
use Rattle.thread_actors.proofs.actors.run_cpus.Goals as goal

pub new_tasks-requires-clause-many : goal.new_tasks-requires-clause-many
new_tasks-requires-clause-many g c = c.requires.many ∙ sym c.requires.cpus

pub new_tasks-requires-clause-by : goal.new_tasks-requires-clause-by
new_tasks-requires-clause-by g c = one_actors (sets_in c.args.world.now) 0 c.args.turns.items c.requires.turns

pub run_all-requires-clause-some : goal.run_all-requires-clause-some
run_all-requires-clause-some g c lifetimes bounds = let e = tasks_long g.B.Bodies.plan c.args.world.now c.args.clock c.args.bodies.items c.args.turns.items c.in_ok-tasks.tasks.items c.in_ok-tasks.ensures.bodies c.in_ok-tasks.ensures.turns c.in_ok-tasks.ensures.fresh c.requires.turns in
    let m = c.requires.cpus in let some = c.requires.some in omega (arith, e, m, some)

pub run_all-requires-clause-ready : goal.run_all-requires-clause-ready
run_all-requires-clause-ready g c lifetimes bounds = tasks_ready g.B.Bodies.plan c.args.world.now c.args.clock c.args.bodies.items c.args.turns.items c.in_ok-tasks.tasks.items c.in_ok-tasks.ensures.bodies c.in_ok-tasks.ensures.turns c.in_ok-tasks.ensures.fresh c.requires.turns
    c.requires.replay c.requires.plans c.requires.cpus

pub gather-requires : goal.gather-requires
gather-requires g c = record { ended = all_ended g.B.Bodies.plan c.args.world.now c.in_ok-tasks.tasks.items c.run_all.new.tasks.items c.run_all.ensures.same c.run_all.ensures.ran }

pub returns : goal.returns
returns g c = by_result c.gather.result _ _ _ _ _ c.gather.ensures.turns c.gather.ensures.traces c.gather.ensures.instructions c.gather.ensures.well
    (λ all ts trs is well plans have. tasks_gone g.B.Bodies.plan c.args.world.now c.args.clock c.args.bodies.items c.args.turns.items c.in_ok-tasks.tasks.items c.in_ok-tasks.ensures.bodies c.in_ok-tasks.ensures.turns c.in_ok-tasks.ensures.fresh c.requires.turns
    c.requires.unused c.requires.cpus c.run_all.new.tasks.items c.run_all.ensures.same c.run_all.ensures.ran all ts trs is well plans have)
