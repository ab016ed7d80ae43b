-- What following an actor's program through a list tells.
use Rattle.std.specs.Prelude.{◌≡◌, ◌≢◌, ◌↔◌, ◌≤◌, ℕ, suc, slice_index_or, Bool, IsTrue, List, [], ◌∷◌, ◌++◌, take, drop, length, ⊤}
use Rattle.bt_core.specs.declared.step.Step.{Step}
use Rattle.bt_core.specs.Interaction.{Call, call_of, Interaction, Runs}
use Rattle.bt_core.specs.Steps.{of_actor}
use Rattle.step_entries.specs.Blank.{blank_call}

-- the call isn't the one that the list has next
abbrev pub IsNotNext : Call → List Step → Type 0
IsNotNext call [] = ⊤
IsNotNext call (next ∷ more) = blank_call (call_of next) ≢ blank_call call

-- these steps were made off a list of which this is left: the first of them isn't what the list has next
abbrev pub AreStrays : List Step → List Step → Type 0
AreStrays [] rest = ⊤
AreStrays (stray ∷ strays) rest = IsNotNext (call_of stray) rest

-- The whole computation was performed: first the steps that the list has, and then those off it. This is what the list has next.
pub record Followed {A : Type 0} (t : Interaction A) (xs strays rest : List Step) : Type 0 where
  pub value : A
  pub runs : Runs t (xs ++ strays) value
  pub off : AreStrays strays rest

-- the actor's computation was followed so far through a list, and made all its steps on it or not
pub record IsFollowed {A : Type 0} (t : Interaction A) (actor : ℕ) (list : List Step) (at : ℕ) (on : Bool) : Type 0 where
  pub strays : List Step
  pub followed : Followed t (of_actor actor (take at list)) strays (of_actor actor (drop at list))
  pub none : IsTrue on ↔ (strays ≡ [])
  pub within : at ≤ length list
  pub last_own : (n : ℕ) (d : Step) → at ≡ suc n → (slice_index_or list n d).actor ≡ actor
