-- What actors do. No public contract speaks of it.
use Rattle.std.specs.Prelude.{◌≡◌, ℕ, ◌+◌, ◌<◌, ◌++◌, List, [], ◌∷◌, length, max, slice_index_or}
use Rattle.bt_core.specs.declared.step.Step.{Step}
use Rattle.bt_core.specs.Interaction.{Interaction, Runs, Whole}
use Rattle.bt_core.specs.Ports.{CanStep}
use Rattle.turn_lock.specs.History.{Each}
use Rattle.stamped.specs.declared.trace.Trace.{Trace}
use Rattle.stamped.specs.Traces.{actor_of, clock_of, steps_of, floors_of}
use Rattle.actor_plan.specs.declared.outcome.Outcome.{Outcome}
use Rattle.actor_plan.specs.Plans.{Plan}
use Rattle.actor_plan.specs.Programs.{end_program}
use Rattle.bt_meaning.specs.Replays.{Replay, cpus_of, begin_of, cpu_of, end_of}
use Rattle.weave.specs.Ends.{AreCpuTraces, HaveEnded, latest}
use Rattle.cpu_worker.specs.declared.world.SharedWorld.{SharedWorld}
use Rattle.cpu_worker.specs.Chains.{Since}
use Rattle.cpu_worker.specs.Worlds.{sets_in, setting_in, AreTurnsOf, IsPlanIn, KeepsOwn}
use Rattle.thread_actors.specs.declared.main_actor.MainActor.{MainActor}
use Rattle.thread_actors.specs.declared.tasks.Gathered.{Gathered}
use Rattle.thread_actors.specs.Turns.{AreTurnsFrom, AllOwn}

-- the main actor did the whole of this, which took so many instructions
pub record HasDone {B : Type 0} (plan : B → Plan) (world : SharedWorld) (program : Interaction ℕ) (old new : MainActor B) (count : ℕ) : Type 0 where
  pub actor : actor_of new.trace ≡ actor_of old.trace
  pub turns_are : AreTurnsOf (sets_in world) (actor_of old.trace) new.turns
  pub own : KeepsOwn (sets_in world) old.turns old.trace new.turns new.trace
  pub since : Since (setting_in world (actor_of old.trace)) old.trace new.trace
  pub whole : Whole program (steps_of old.trace) (steps_of new.trace) count
  pub plan_kept : plan new.bodies ≡ plan old.bodies

-- bodies are made for each actor of the world, by their places
abbrev pub ArePlansIn : {B : Type 0} → (B → Plan) → SharedWorld → List B → Type 0
ArePlansIn plan world bodies = (actor : ℕ) (d : _) → actor < length bodies → IsPlanIn world actor (plan (slice_index_or bodies actor d))

-- what is run in a world, by bodies of these plans
abbrev pub replay_in : SharedWorld → (ℕ → Plan) → Replay
replay_in world plans = record {
  recording = world.recording.now;
  attached = world.attached.now;
  exits = world.typed.now.uses_exit;
  maps = world.typed.now.maps;
  plan = plans;
}

-- each step of the trace is one that can be made in the world
abbrev pub CanMake : SharedWorld → Trace → Type 0
CanMake world t = Each (λ (s : Step). CanStep (setting_in world 0) s.object s.op) (steps_of t)

-- each trace is its CPU's whole program, and together the programs took so many instructions
abbrev pub HaveRun : Replay → ℕ → List Trace → ℕ → Type 0
HaveRun p cpu [] count = count ≡ 0
HaveRun p cpu (t ∷ ts) count = (outcome : Outcome) × (rest : ℕ) × Runs (cpu_of p cpu) (steps_of t) outcome × HaveRun p (cpu + 1) ts rest × (count ≡ outcome.instructions + rest)

-- what the CPUs leave, which began at this clock
pub record HaveGone (p : Replay) (world : SharedWorld) (clock : ℕ) (all : Gathered) : Type 0 where
  pub many : length all.traces.items ≡ cpus_of p
  pub turns : AreTurnsFrom (sets_in world) 0 all.turns.items
  pub own : AllOwn (sets_in world) all.turns.items all.traces.items
  pub traces : AreCpuTraces clock 0 all.traces.items
  pub can : Each (CanMake world) all.traces.items
  pub ran : HaveRun p 0 all.traces.items all.instructions

-- what all actors leave
pub record AreDone (p : Replay) (world : SharedWorld) (all : Gathered) : Type 0 where
  pub cpus : List Trace
  pub main : Trace
  pub traces : all.traces.items ≡ cpus ++ main ∷ []
  pub many : length cpus ≡ cpus_of p
  pub begun : List Step
  pub finished : List Step
  pub ended : HaveEnded begun finished cpus main
  pub begin_count : ℕ
  pub cpu_count : ℕ
  pub end_count : ℕ
  pub begin : Runs (begin_of p) begun begin_count
  pub ran : HaveRun p 0 cpus cpu_count
  pub finish : Runs (end_of p) finished end_count
  pub counted : all.instructions ≡ begin_count + cpu_count + end_count
  pub turns : AreTurnsFrom (sets_in world) 0 all.turns.items
  pub own : AllOwn (sets_in world) all.turns.items all.traces.items
  pub can : Each (CanMake world) all.traces.items

-- an actor's trace before its first step
pub record IsFirst (actor : ℕ) (trace : Trace) : Type 0 where
  pub actor_is : actor_of trace ≡ actor
  pub empty : (steps_of trace ≡ []) × (floors_of trace ≡ [])
  pub clock_is : clock_of trace ≡ 0

-- the main actor's turns and trace stand behind the CPUs', and the instructions of BEGIN and END are counted with theirs
pub record IsWithMain {B : Type 0} (main : MainActor B) (begun finished : ℕ) (cpus all : Gathered) : Type 0 where
  pub turns : all.turns.items ≡ cpus.turns.items ++ main.turns ∷ []
  pub traces : all.traces.items ≡ cpus.traces.items ++ main.trace ∷ []
  pub counted : all.instructions ≡ begun + cpus.instructions + finished

-- the main actor with its clock raised to the latest of these traces, and else the same
pub record IsRaised {B : Type 0} (traces : List Trace) (old new : MainActor B) : Type 0 where
  pub actor : actor_of new.trace ≡ actor_of old.trace
  pub clock : clock_of new.trace ≡ max (clock_of old.trace) (latest traces)
  pub steps : (steps_of new.trace ≡ steps_of old.trace) × (floors_of new.trace ≡ floors_of old.trace)
  pub turns : new.turns ≡ old.turns
  pub bodies : new.bodies ≡ old.bodies

-- what is left where the main actor, which began with so many instructions, ran END after the CPUs, from the latest clock on
pub record HasEndedAll {B : Type 0} (plan : B → Plan) (world : SharedWorld) (begun : MainActor B) (begin_count : ℕ) (cpus all : Gathered) : Type 0 where
  pub raised : MainActor B
  pub finished : MainActor B
  pub end_count : ℕ
  pub is_raised : IsRaised cpus.traces.items begun raised
  pub ended : HasDone plan world (end_program (plan raised.bodies) world.recording.now world.attached.now) raised finished end_count
  pub with_main : IsWithMain finished begin_count end_count cpus all
