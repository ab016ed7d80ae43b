-- What a clause says of a worker that was run, which keeps how its run ended.
use Rattle.std.specs.Prelude.{◌≡◌, IsSomeAnd, MatchResult}
use Rattle.bt_core.specs.Interaction.{Begins, Runs}
use Rattle.stamped.specs.Traces.{clock_of, steps_of}
use Rattle.actor_plan.specs.Plans.{Plan}
use Rattle.thread_actors.specs.declared.side_by_side.Task.{Task}
use Rattle.cpu_worker.specs.declared.world.SharedWorld.{SharedWorld}
use Rattle.cpu_worker.specs.Chains.{HasWalked}
use Rattle.cpu_worker.specs.Worlds.{sets_in, setting_in, AreTurnsOf, KeepsOwn}
use Rattle.cpu_worker.specs.Workers.{program_in}

module _ {B G : Type 0} (plan : B → Plan) (world : SharedWorld) where
  -- as a worker leaves it: at Ok its trace is its whole program, with the outcome, and else the first steps of it
  pub record HasRun (old new : Task B G) : Type 0 where
    pub ended : IsSomeAnd new.ended (λ r. MatchResult r (λ outcome. Runs (program_in plan world old.worker) (steps_of new.worker.trace) outcome)
        (λ _. Begins (program_in plan world old.worker) (steps_of new.worker.trace)))
    pub walked : HasWalked (setting_in world old.worker.cpu) (clock_of old.worker.trace) new.worker.trace
    pub turns_are : AreTurnsOf (sets_in world) old.worker.cpu new.worker.turns
    pub own : KeepsOwn (sets_in world) old.worker.turns old.worker.trace new.worker.turns new.worker.trace
    pub cpu : new.worker.cpu ≡ old.worker.cpu
    pub plan_kept : plan new.worker.bodies ≡ plan old.worker.bodies
