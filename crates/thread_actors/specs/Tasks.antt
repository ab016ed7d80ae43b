-- The workers of a run. No public contract speaks of it.
use Rattle.std.specs.Prelude.{◌≡◌, ℕ, [], Option, Some, None, IsSome, Result, Ok, Err}
use Rattle.bt_core.specs.declared.memory.Memory.{Memory}
use Rattle.stamped.specs.declared.trace.Trace.{Trace}
use Rattle.stamped.specs.Traces.{actor_of, clock_of, steps_of}
use Rattle.actor_plan.specs.declared.outcome.Outcome.{Outcome}
use Rattle.thread_actors.specs.declared.side_by_side.Task.{Task}
use Rattle.cpu_worker.specs.declared.world.WorkerTurns.{WorkerTurns}

-- how many instructions a run took that ended well
abbrev pub count_of : Option (Result Outcome Memory) → ℕ
count_of None = 0
count_of (Some (Ok outcome)) = outcome.instructions
count_of (Some (Err memory)) = 0

-- it ended well
abbrev pub IsWell : Option (Result Outcome Memory) → Type 0
IsWell None = ⊥
IsWell (Some (Ok outcome)) = Unit {0}
IsWell (Some (Err memory)) = ⊥

module _ {B G : Type 0} where
  abbrev pub bodies_in : Task B G → B
  bodies_in task = task.worker.bodies

  abbrev pub turns_in : Task B G → WorkerTurns
  turns_in task = task.worker.turns

  abbrev pub trace_in : Task B G → Trace
  trace_in task = task.worker.trace

  abbrev pub count_in : Task B G → ℕ
  count_in task = count_of task.ended

  -- its worker was run, and it has kept how that ended
  abbrev pub HasEnded : Task B G → Type 0
  HasEnded task = IsSome task.ended

  abbrev pub HasEndedWell : Task B G → Type 0
  HasEndedWell task = IsWell task.ended

  -- the worker is of its turns' actor, and its trace is empty and has this clock
  pub record IsFresh (clock : ℕ) (task : Task B G) : Type 0 where
    pub cpu : task.worker.cpu ≡ task.worker.turns.tables.0
    pub actor : actor_of task.worker.trace ≡ task.worker.cpu
    pub empty : steps_of task.worker.trace ≡ []
    pub clock_is : clock_of task.worker.trace ≡ clock
