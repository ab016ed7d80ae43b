-- Where the steps of a list may stand, once it was followed for all actors.
use Rattle.std.specs.Prelude.{◌≡◌, ◌≢◌, ◌↔◌, ℕ, ◌+◌, ◌≤◌, ◌<◌, IsTrue, List, length, slice_index_or}
use Rattle.bt_core.specs.declared.step.Step.{Step}
use Rattle.bt_meaning.specs.Replays.{Replay, cpus_of, begin_of}
use Rattle.begun_meaning.specs.Begun.{program_of}
use Rattle.account_follow.specs.declared.follow.Reached.{Reached}
use Rattle.account_follow.specs.Followed.{IsFollowed}

-- all steps were made on the list, and before this place
abbrev pub IsPassed : Reached → ℕ → Type 0
IsPassed reached place = IsTrue reached.on_list × (reached.at ≤ place)

-- of many actors each
abbrev pub ArePassed : ℕ → List Reached → ℕ → Type 0
ArePassed count each place = (actor : ℕ) (d : Reached) → actor < count → IsPassed (slice_index_or each actor d) place

-- how far each actor's program, that of BEGIN, and those of all CPUs together were followed through a list
pub record AreReached (p : Replay) (list : List Step) (each : List Reached) (begin cpus : Reached) : Type 0 where
  pub count : length each ≡ cpus_of p + 1
  pub followed : (actor : ℕ) (d : Reached) → actor ≤ cpus_of p
      → IsFollowed (program_of p actor) actor list (slice_index_or each actor d).at (slice_index_or each actor d).on_list
  pub begun : IsFollowed (begin_of p) (cpus_of p) list begin.at begin.on_list
  pub together : (place : ℕ) → IsPassed cpus place ↔ ArePassed (cpus_of p) each place

-- The step may stand at a place: its actor was followed beyond it; a CPU's stands behind BEGIN; and one of the main actor behind
-- BEGIN stands behind all CPUs.
pub record MayStand (main : ℕ) (each : List Reached) (begin cpus : Reached) (place : ℕ) (s : Step) : Type 0 where
  pub followed : (d : Reached) → place < (slice_index_or each s.actor d).at
  pub after_begin : s.actor ≢ main → IsPassed begin place
  pub before_end : s.actor ≡ main → IsPassed begin place → IsPassed cpus place

-- so does each step before a place
abbrev pub AllMayStand : ℕ → List Reached → Reached → Reached → ℕ → List Step → Type 0
AllMayStand main each begin cpus end list = (place : ℕ) (d : Step) → place < end → MayStand main each begin cpus place (slice_index_or list place d)
