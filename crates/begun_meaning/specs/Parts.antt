-- What passes over a list, each for itself, can find of it; all of it together says that the list can be made.
use Rattle.std.specs.Prelude.{◌≡◌, ◌≢◌, ℕ, suc, max, ◌<◌, ◌≤◌, false, List, [], ◌∷◌, ◌++◌}
use Rattle.bt_core.specs.declared.step.Step.{Step}
use Rattle.bt_core.specs.Interaction.{Begins}
use Rattle.bt_core.specs.Steps.{of_actor, on_object, AtEach, RepliesFollow}
use Rattle.weave.specs.Lists.{greatest}
use Rattle.weave.specs.Order.{comes_before}
use Rattle.bt_meaning.specs.Interleavings.{IsWhole}
use Rattle.bt_meaning.specs.Replays.{Replay, cpus_of, begin_of, answers_of}
use Rattle.begun_meaning.specs.Begun.{HasDone, clock_after, program_of}

-- its stamp is one more than the greater of both clocks: its actor's and its object's
abbrev pub IsStampedAfter : ℕ → List Step → Step → Type 0
IsStampedAfter main before s = s.stamp ≡ suc (max (clock_after main before s.actor) (greatest (on_object s.object before)))

-- it does not come before the step right before it
abbrev pub NotBeforeLast : List Step → Step → Type 0
NotBeforeLast before s = (earlier : List Step) (t : Step) → before ≡ earlier ++ t ∷ [] → comes_before s t ≡ false

-- each actor's steps begin its program, and these hold of each step and those before it
pub record HasParts (p : Replay) (steps : List Step) : Type 0 where
  pub actors : AtEach (λ before s. s.actor ≤ cpus_of p) steps
  pub begins : (actor : ℕ) → actor ≤ cpus_of p → Begins (program_of p actor) (of_actor actor steps)
  pub replies : RepliesFollow (answers_of p) steps
  pub after_begin : AtEach (λ before s. s.actor ≢ cpus_of p → IsWhole (begin_of p) (of_actor (cpus_of p) before)) steps
  pub before_end : AtEach (λ before s. s.actor ≡ cpus_of p → HasDone (begin_of p) (of_actor (cpus_of p) before)
      → (cpu : ℕ) → cpu < cpus_of p → IsWhole (program_of p cpu) (of_actor cpu before)) steps
  pub stamps : AtEach (IsStampedAfter (cpus_of p)) steps
  pub order : AtEach NotBeforeLast steps
