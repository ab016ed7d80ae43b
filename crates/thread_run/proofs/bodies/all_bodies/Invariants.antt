use Rattle.code_runs.specs.Running.{plan_of}
use Rattle.run_output.specs.Jobs.{plans_by}
use Rattle.thread_actors.specs.Plans.{HavePlans}
use Rattle.thread_run.proofs.bodies.all_bodies.Given as goal

abbrev pub invariant-loop-actor : goal.invariant-loop-actor
invariant-loop-actor l = HavePlans plan_of l.actor (plans_by l.job l.codes) l.bodies.items
