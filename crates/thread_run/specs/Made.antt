-- What a run on threads makes. No public contract speaks of it.
use Rattle.std.specs.Prelude.{◌≡◌, ℕ, List}
use Rattle.bt_core.specs.declared.step.Step.{Step}
use Rattle.actor_plan.specs.Plans.{Plan}
use Rattle.bt_meaning.specs.Instructions.{instructions_of}
use Rattle.bt_meaning.specs.Interleavings.{IsReplayed}
use Rattle.run_output.specs.declared.job.Job.{Job}
use Rattle.run_output.specs.Jobs.{replay_with, world_for}
use Rattle.run_objects.specs.declared.closed.Closed.{Closed}
use Rattle.run_objects.specs.Closed.{AreClosedAt}

-- the steps are a woven interleaving, the objects stand for them, and they took so many instructions
pub record IsMade (job : Job) (plans : ℕ → Plan) (closed : Closed) (steps : List Step) (instructions : ℕ) : Type 0 where
  pub replayed : IsReplayed (replay_with job plans) steps
  pub closed_at : AreClosedAt (record { world = world_for job; steps = steps }) closed
  pub counted : instructions ≡ instructions_of (replay_with job plans) steps
