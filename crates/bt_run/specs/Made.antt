-- What the run on one thread makes before its steps are put in order. No public contract speaks of it.
use Rattle.std.specs.Prelude.{◌≡◌, ℕ, ◌≤◌, List, length, map}
use Rattle.bt_core.specs.declared.step.Step.{Step}
use Rattle.bt_core.specs.Steps.{RepliesFollow}
use Rattle.turn_lock.specs.History.{Each}
use Rattle.weave.specs.Woven.{StampsFollow, StandsBetween}
use Rattle.actor_plan.specs.Plans.{Plan}
use Rattle.bt_meaning.specs.Serial.{unstamped, begun_steps, serial_steps}
use Rattle.run_output.specs.declared.job.Job.{Job}
use Rattle.run_objects.specs.declared.closed.Closed.{Closed}
use Rattle.bt_run.specs.Counts.{serial_count}
use Rattle.run_output.specs.Jobs.{cpus_in, replay_with, world_for}
use Rattle.run_objects.specs.Closed.{MapsStand}
use Rattle.run_objects.specs.Worlds.{answers, IsOwn}

-- these steps are the serial list, stamped by both clocks, and the objects stand for them
pub record IsMade (job : Job) (plans : ℕ → Plan) (closed : Closed) (steps : List Step) (instructions : ℕ) : Type 0 where
  pub is_serial : serial_steps (replay_with job plans) ≡ map unstamped steps
  pub counted : instructions ≡ serial_count (replay_with job plans)
  pub stand : MapsStand (world_for job) steps closed
  pub possible : Each (λ (s : Step). IsOwn (world_for job) s.object s.op) steps
  pub actors : Each (λ (s : Step). s.actor ≤ cpus_in job) steps
  pub replies : RepliesFollow (answers (world_for job)) steps
  pub stamps : StampsFollow (cpus_in job) (length (begun_steps (replay_with job plans))) steps
  pub between : StandsBetween (cpus_in job) (length (begun_steps (replay_with job plans))) steps
