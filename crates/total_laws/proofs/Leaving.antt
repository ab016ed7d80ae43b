-- Changes that leave a map as it is do not count.
use Rattle.std.proofs.Common.{◌≡◌, ◌&&◌, ◌||◌, Bool, true, false, List, [], ◌∷◌, ◌++◌, length, map, refl, ap}
use Rattle.std.specs.Prelude.{not, cond, nat_lt}
use Rattle.std.specs.List.{filter}
use Rattle.bt_core.specs.declared.limits.TheConstants.{KEYS}
use Rattle.agg_core.specs.Changes.{Change, Puts, Removes, Clears, Zeroes, Leaves, is_key, with_key, put_keys, lives, given_to, rows_of}

module _ {V : Type 0} where
  -- the change does something
  abbrev pub counts : Change V → Bool
  counts Leaves = false
  counts change = true

  keys_are : (cs : List (Change V)) → put_keys (filter counts cs) ≡ put_keys cs
  keys_are [] = refl
  keys_are (Puts k v ∷ cs) = ap (with_key k) (keys_are cs)
  keys_are (Removes k ∷ cs) = keys_are cs
  keys_are (Clears ∷ cs) = keys_are cs
  keys_are (Zeroes ∷ cs) = keys_are cs
  keys_are (Leaves ∷ cs) = keys_are cs

  lives_are : (cs : List (Change V)) → lives (filter counts cs) ≡ lives cs
  lives_are [] = refl
  lives_are (Puts k v ∷ cs) = λ i j. (is_key k j && (lives_are cs i j || nat_lt (length (filter (lives_are cs i) (keys_are cs i))) KEYS)) || lives_are cs i j
  lives_are (Removes k ∷ cs) = λ i j. not (is_key k j) && lives_are cs i j
  lives_are (Clears ∷ cs) = λ i j. false
  lives_are (Zeroes ∷ cs) = λ i j. lives_are cs i j
  lives_are (Leaves ∷ cs) = λ i j. lives_are cs i j

  given_are : (cs : List (Change V)) → given_to (filter counts cs) ≡ given_to cs
  given_are [] = refl
  given_are (Puts k v ∷ cs) =
      λ i j. cond (is_key k j && (lives_are cs i j || nat_lt (length (filter (lives_are cs i) (keys_are cs i))) KEYS)) (given_are cs i j ++ v ∷ []) (given_are cs i j)
  given_are (Removes k ∷ cs) = λ i j. cond (is_key k j) [] (given_are cs i j)
  given_are (Clears ∷ cs) = λ i j. []
  given_are (Zeroes ∷ cs) = λ i j. []
  given_are (Leaves ∷ cs) = λ i j. given_are cs i j

  -- the rows are those that the changes make that count
  pub rows_are : {C : Type 0} (made : List V → C) (cs : List (Change V)) → rows_of made (filter counts cs) ≡ rows_of made cs
  rows_are made cs = λ i. map (λ k. (k, made (given_are cs i k))) (filter (lives_are cs i) (keys_are cs i))
