-- What the traces of all actors tell once the last one has ended, and what a woven list then has.
use Rattle.std.specs.Prelude.{◌≡◌, ℕ, max, ◌+◌, ◌≤◌, List, [], ◌∷◌, ◌++◌, length}
use Rattle.bt_core.specs.declared.step.ObjectId.{ObjectId}
use Rattle.bt_core.specs.declared.step.Op.{Op}
use Rattle.bt_core.specs.declared.step.Reply.{Reply}
use Rattle.bt_core.specs.declared.step.Step.{Step}
use Rattle.bt_core.specs.Steps.{of_actor, RepliesFollow}
use Rattle.turn_lock.specs.History.{Each}
use Rattle.stamped.specs.declared.trace.Trace.{Trace}
use Rattle.stamped.specs.Traces.{actor_of, clock_of, steps_of, floors_of}
use Rattle.weave.specs.Lists.{greatest}
use Rattle.weave.specs.Traces.{floors_from}
use Rattle.weave.specs.Woven.{IsWoven, StandsBetween}

-- A CPU's trace that began at this clock: its steps are its own, each floor is the stamp before, the first one the clock, and at the
-- end the clock stands at the last stamp.
pub record IsCpuTrace (clock cpu : ℕ) (t : Trace) : Type 0 where
  pub actor : actor_of t ≡ cpu
  pub own : Each (λ s. s.actor ≡ cpu) (steps_of t)
  pub floors : floors_of t ≡ floors_from clock (steps_of t)
  pub ends : clock_of t ≡ max clock (greatest (steps_of t))

-- so are the traces of the CPUs from this one on
abbrev pub AreCpuTraces : ℕ → ℕ → List Trace → Type 0
AreCpuTraces clock cpu [] = Unit {0}
AreCpuTraces clock cpu (t ∷ ts) = IsCpuTrace clock cpu t × AreCpuTraces clock (cpu + 1) ts

-- the latest of the clocks, or 0
abbrev pub latest : List Trace → ℕ
latest [] = 0
latest (t ∷ ts) = max (clock_of t) (latest ts)

-- The CPUs' traces, and the main actor's with these steps of BEGIN and of END. The CPUs began at the clock after BEGIN, and END at the
-- latest clock of all.
pub record HaveEnded (begun finished : List Step) (cpus : List Trace) (main : Trace) : Type 0 where
  pub cpus_are : AreCpuTraces (greatest begun) 0 cpus
  pub actor : actor_of main ≡ length cpus
  pub own : Each (λ s. s.actor ≡ length cpus) (steps_of main)
  pub steps : steps_of main ≡ begun ++ finished
  pub floors : floors_of main ≡ floors_from 0 begun ++ floors_from (max (greatest begun) (latest cpus)) finished

-- A woven list that has the main actor's steps and each CPU's, whole and in their order, and no others; each step of a CPU stands
-- between BEGIN and END, and each reply follows.
pub record HasParts (answer : ObjectId → List Op → Op → Reply) (begun finished : List Step) (cpus : List Trace) (steps : List Step) : Type 0 where
  pub main : of_actor (length cpus) steps ≡ begun ++ finished
  pub each_cpu : Each (λ t. of_actor (actor_of t) steps ≡ steps_of t) cpus
  pub actors : Each (λ s. s.actor ≤ length cpus) steps
  pub woven : IsWoven (length cpus) (length begun) steps
  pub between : StandsBetween (length cpus) (length begun) steps
  pub replies : RepliesFollow answer steps
