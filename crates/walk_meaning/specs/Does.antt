-- What expressions and statements do: they read what the body sees, change the frame of its run, and ask objects for replies.
use Rattle.std.specs.Prelude.{ℕ, ℤ, Bool, true, false, List, [], ◌∷◌, ◌++◌}
use Rattle.bt_core.specs.declared.context.Context.{Context}
use Rattle.bt_core.specs.declared.map.MapDecl.{MapDecl}
use Rattle.bt_core.specs.declared.map.MapId.{MapId}
use Rattle.bt_core.specs.Interaction.{Interaction, Ended, and_then}
use Rattle.map_ops.specs.Values.{holds}
use Rattle.walk_meaning.specs.declared.flow.Frame.{Frame}

-- what the run of a body sees: the context, the payload, its actor, how many actors there are, and the maps that the body names
pub record BodyScene : Type 0 where
  pub context : Context
  pub payload : List ℕ
  pub actor : ℕ
  pub actors : ℕ
  pub maps : List (MapId × MapDecl)

-- a reader and state over interaction trees: it reads what is seen, changes the frame, makes calls, and ends with a value
abbrev pub Does : Type 0 → Type 0
Does A = BodyScene → Frame → Interaction (A × Frame)

-- a value, and nothing else
unfoldable pub given : {A : Type 0} → A → Does A
given a scene frame = Ended (a, frame)

-- a value that is read from what is seen and from the frame
unfoldable pub looked_at : {A : Type 0} → (BodyScene → Frame → A) → Does A
looked_at look scene frame = Ended (look scene frame, frame)

-- the frame is changed
unfoldable pub changed : (Frame → Frame) → Does (Unit {0})
changed change scene frame = Ended (tt, change frame)

-- what objects are asked, which may depend on what is seen; the frame stays as it is
unfoldable pub lifted : {A : Type 0} → (BodyScene → Interaction A) → Does A
lifted ask scene frame = and_then (ask scene) (λ value. Ended (value, frame))

-- the one, and then the next, which may depend on the value of the one
unfoldable pub bind : {A B : Type 0} → Does A → (A → Does B) → Does B
bind one next scene frame = and_then (one scene frame) (λ p. next p.0 scene p.1)

-- the one where a test holds, and otherwise the other
unfoldable pub choose : {A : Type 0} → Bool → Does A → Does A → Does A
choose true one other = one
choose false one other = other

-- the one, and nothing of its value
abbrev pub then : {A B : Type 0} → Does A → Does B → Does B
then one next = bind one (λ value. next)

-- a test, and then only what it asks for
abbrev pub if_holds : {A : Type 0} → Does ℤ → Does A → Does A → Does A
if_holds test one other = bind test (λ n. choose (holds n) one other)

-- behind the values that there are, those of all others from left to right
abbrev pub gathered : {A : Type 0} → List A → List (Does A) → Does (List A)
gathered values [] = given values
gathered values (d ∷ ds) = bind d (λ value. gathered (values ++ value ∷ []) ds)

-- from left to right
abbrev pub in_order : {A : Type 0} → List (Does A) → Does (List A)
in_order ds = gathered [] ds
