-- What one map of an object holds after a list of operations, found by looking back through the list.
use Rattle.std.specs.Prelude.{ℕ, ◌+◌, Bool, true, false, not, ◌&&◌, ◌||◌, cond, nat_lt, List, [], ◌∷◌, ◌++◌, length, map}
use Rattle.std.specs.Ordering.{is_eq, match_ordering}
use Rattle.std.specs.List.{filter}
use Rattle.bt_core.specs.declared.value.Value.{Value}
use Rattle.bt_core.specs.declared.limits.TheConstants.{KEYS}
use Rattle.bt_core.specs.Order.{key_order}

-- what an operation does to one map: it gives a key a value, removes a key, clears the map, zeroes it, or none of these
pub data Change (V : Type 0) : Type 0 where
  Puts : (key : List Value) (given : V) → Change V
  Removes : (key : List Value) → Change V
  Clears : Change V
  Zeroes : Change V
  Leaves : Change V

abbrev pub is_key : List Value → List Value → Bool
is_key j k = is_eq (key_order j k)

-- the key among these keys, which are in order and stand once each
abbrev pub with_key : List Value → List (List Value) → List (List Value)
with_key k [] = k ∷ []
with_key k (j ∷ js) = match_ordering (key_order k j) (k ∷ j ∷ js) (j ∷ js) (j ∷ with_key k js)

-- a list of changes has the last one first, so that what follows a change is what was before it
module _ {V : Type 0} where
  abbrev pub is_put_of : List Value → Change V → Bool
  is_put_of k (Puts j v) = is_key j k
  is_put_of k _ = false

  -- after it the key doesn't live
  abbrev pub ends : List Value → Change V → Bool
  ends k (Removes j) = is_key j k
  ends k Clears = true
  ends k _ = false

  abbrev pub with_put : Change V → List (List Value) → List (List Value)
  with_put (Puts k v) ks = with_key k ks
  with_put _ ks = ks

  -- the keys that were ever put, in key order, each once
  abbrev pub put_keys : List (Change V) → List (List Value)
  put_keys [] = []
  put_keys (c ∷ before) = with_put c (put_keys before)

  -- a put of the key is taken where the key is alive, or where fewer than 4,096 keys are
  abbrev pub takes : (List Value → Bool) → List (Change V) → List Value → Bool
  takes alive before k = alive k || nat_lt (length (filter alive (put_keys before))) KEYS

  -- a taken put of the key has no later end
  abbrev pub lives : List (Change V) → List Value → Bool
  lives [] k = false
  lives (c ∷ before) k = (is_put_of k c && takes (lives before) before k) || (not (ends k c) && lives before k)

  -- a put of the key after these changes is taken
  abbrev pub is_taken : List (Change V) → List Value → Bool
  is_taken before k = takes (lives before) before k

  -- in key order
  abbrev pub live_keys : List (Change V) → List (List Value)
  live_keys changes = filter (lives changes) (put_keys changes)

  -- what the key was given by the changes before this one and by this one, where `given` is what it had before
  abbrev pub given_after : List Value → Change V → Bool → List V → List V
  given_after k (Puts j v) taken given = cond (is_key j k && taken) (given ++ v ∷ []) given
  given_after k (Removes j) taken given = cond (is_key j k) [] given
  given_after k Clears taken given = []
  given_after k Zeroes taken given = []
  given_after k Leaves taken given = given

  -- the values of the key's taken puts since the map was cleared or zeroed or the key removed, the first one first
  abbrev pub given_to : List (Change V) → List Value → List V
  given_to [] k = []
  given_to (c ∷ before) k = given_after k c (is_taken before k) (given_to before k)

  -- the change is a put that is not taken
  abbrev pub is_lost : List (Change V) → Change V → Bool
  is_lost before (Puts k v) = not (is_taken before k)
  is_lost before _ = false

  -- how many updates were lost
  abbrev pub lost_updates : List (Change V) → ℕ
  lost_updates [] = 0
  lost_updates (c ∷ before) = lost_updates before + cond (is_lost before c) 1 0

  -- each live key with what is made of the values that it was given
  abbrev pub rows_of : {C : Type 0} → (List V → C) → List (Change V) → List (List Value × C)
  rows_of made changes = map (λ k. (k, made (given_to changes k))) (live_keys changes)
