-- What a clause says of a worker.
use Rattle.std.specs.Prelude.{◌≡◌, ◌<◌, []}
use Rattle.bt_core.specs.Interaction.{Interaction}
use Rattle.stamped.specs.Traces.{actor_of, steps_of}
use Rattle.actor_plan.specs.declared.outcome.Outcome.{Outcome}
use Rattle.actor_plan.specs.Plans.{Plan}
use Rattle.actor_plan.specs.Programs.{cpu_program}
use Rattle.cpu_worker.specs.declared.worker.CpuWorker.{CpuWorker}
use Rattle.cpu_worker.specs.declared.world.SharedWorld.{SharedWorld}
use Rattle.cpu_worker.specs.Worlds.{world_cpus, sets_in, AreTurnsOf, IsReplayable, IsPlanIn}

module _ {B G : Type 0} (plan : B → Plan) (world : SharedWorld) where
  -- the whole program of the worker's CPU, over what its bodies tell
  abbrev pub program_in : CpuWorker B G → Interaction Outcome
  program_in w = cpu_program (plan w.bodies) world.typed.now.uses_exit world.recording.now world.attached.now

  -- the worker can run: what is shared can be replayed, its CPU is one of it, its turns and its empty trace are its CPU's, and its
  -- bodies are made for it
  pub record IsReadyWorker (w : CpuWorker B G) : Type 0 where
    pub replay : IsReplayable world
    pub known : w.cpu < world_cpus world
    pub turns_are : AreTurnsOf (sets_in world) w.cpu w.turns
    pub actor : actor_of w.trace ≡ w.cpu
    pub empty : steps_of w.trace ≡ []
    pub plan_is : IsPlanIn world w.cpu (plan w.bodies)
