use Rattle.std.proofs.Common.{rules, ap, ◌∙◌}
use Rattle.std.specs.Prelude.{IfOk}
use Rattle.stamped.specs.Traces.{actor_of}
use Rattle.actor_plan.specs.Programs.{end_program}
use Rattle.cpu_worker.specs.AtWork.{AtWork}
use Rattle.cpu_worker.specs.Worlds.{setting_in}
use Rattle.thread_actors.specs.Acts.{HasDone}
use Rattle.thread_actors.specs.declared.main_actor.MainActor.{MainActor}
use Rattle.thread_actors.proofs.Acting.{ready_as, kept_so}
use Rattle.thread_actors.proofs.main_actor.end.Goals as goal

pub run_end-count-requires : goal.run_end-count-requires
run_end-count-requires g c = let w = c.args.world.now in let parts = c.into_parts-bodies.ensures in record {
  ready = ready_as w (actor_of c.args.main.trace) (g.B.Bodies.plan c.args.main.bodies) _ _ c.requires.replay c.requires.plan (ap g.B.Bodies.plan parts.bodies)
      (ap (λ (p : AtWork). p.setting) c.new-port.ensures ∙ ap (λ t. setting_in w (actor_of t)) parts.trace);
}

pub returns : goal.returns
returns g c =
    let w = c.args.world.now in
    let plan = g.B.Bodies.plan in
    let program = end_program (plan c.args.main.bodies) w.recording.now w.attached.now in
    let left : MainActor _ = record { bodies = c.run_end-count.new.bodies; turns = c.into_parts-turns.result.0; trace = c.into_parts-turns.result.1 } in
    let ran : IfOk c.run_end-count.result (HasDone plan w program c.args.main left) = search rules in
    kept_so (HasDone plan w program c.args.main) left c.run_end-count.result c.beside.result c.beside.ensures ran
