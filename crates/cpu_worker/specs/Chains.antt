-- What a trace gained: the floors are the stamps before, and each step is one that its actor can make.
use Rattle.std.specs.Prelude.{◌≡◌, ℕ, ◌<◌, List, [], ◌∷◌, ◌++◌}
use Rattle.bt_core.specs.declared.step.Step.{Step}
use Rattle.bt_core.specs.Ports.{Setting, CanStep}
use Rattle.turn_lock.specs.History.{Each}
use Rattle.stamped.specs.declared.trace.Trace.{Trace}
use Rattle.stamped.specs.Traces.{actor_of, clock_of, steps_of, floors_of}
use Rattle.weave.specs.Traces.{floors_from}

-- the stamp of the last step, or else this clock
abbrev pub clock_after : ℕ → List Step → ℕ
clock_after clock [] = clock
clock_after clock (s ∷ ss) = clock_after s.stamp ss

-- the stamps rise from this clock on
abbrev pub Climbs : ℕ → List Step → Type 0
Climbs clock [] = Unit {0}
Climbs clock (s ∷ ss) = (clock < s.stamp) × Climbs s.stamp ss

-- the step is the actor's, at an object that is there, with an operation of its own
pub record IsBy (setting : Setting) (s : Step) : Type 0 where
  pub actor : s.actor ≡ setting.actor
  pub can : CanStep setting s.object s.op

-- Since it was like this, the trace grew by steps of its actor: the first floor is its clock of then, each later one the stamp
-- before, and its clock is the last stamp.
pub record Since (setting : Setting) (start now : Trace) : Type 0 where
  pub made : List Step
  pub steps_grew : steps_of now ≡ steps_of start ++ made
  pub floors_grew : floors_of now ≡ floors_of start ++ floors_from (clock_of start) made
  pub clock : clock_of now ≡ clock_after (clock_of start) made
  pub climbs : Climbs (clock_of start) made
  pub by : Each (IsBy setting) made

-- The trace is all of its actor's steps from this clock on: the first floor is this clock, each later one the stamp before, and
-- its clock is the last stamp.
pub record HasWalked (setting : Setting) (clock : ℕ) (t : Trace) : Type 0 where
  pub actor : actor_of t ≡ setting.actor
  pub floors : floors_of t ≡ floors_from clock (steps_of t)
  pub ends : clock_of t ≡ clock_after clock (steps_of t)
  pub climbs : Climbs clock (steps_of t)
  pub by : Each (IsBy setting) (steps_of t)
