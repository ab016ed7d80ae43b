-- What a map holds after one more change, by what it held before.
use Rattle.std.proofs.Common.{◌≡◌, Bool, true, false, not, ◌&&◌, ◌||◌, cond, List, [], ◌∷◌, ◌++◌, refl, sym, ap, ◌∙◌, subst, map, length, Some, None, ltb}
use Rattle.std.specs.declared.cmp.Ordering.TheVariants.{Less, Equal, Greater}
use Rattle.std.specs.List.{filter, list_any}
use Rattle.std.specs.Ordering.{match_ordering}
use Rattle.std.specs.Map.{lookup, remove_entry}
use Rattle.std.specs.BTreeMap.{insert_entry}
use Rattle.std.proofs.lemmas.List.{length-map}
use Rattle.std.proofs.lemmas.Bool.{or_parts, and_parts, or_right}
use Rattle.bt_core.specs.declared.value.Value.{Value}
use Rattle.bt_core.specs.Order.{key_order}
use Rattle.agg_core.specs.Changes.{is_key, Change, Puts, Removes, Clears, Zeroes, Leaves, with_key, with_put, put_keys, lives, is_taken, live_keys, given_to, rows_of}
use Rattle.agg_core.proofs.KeyLaws.{is_key-true, is_key-same, key_itself, Before, Same, After, side}
use Rattle.agg_core.proofs.SortedRows.{Ascends, ascends-with_key, rows_at, row_at, rows-insert, rows-remove, rows-none, rows-lookup}

put-with_key : (k j : List Value) (ks : List (List Value)) → list_any (is_key k) ks ≡ true → list_any (is_key k) (with_key j ks) ≡ true
put-with_key k j [] there = cc
put-with_key k j (i ∷ is) there = elim (key_order j i) as (λ o. list_any (is_key k) (match_ordering o (j ∷ i ∷ is) (i ∷ is) (i ∷ with_key j is)) ≡ true) [
  | Less ↦ or_right (is_key k j) (is_key k i || list_any (is_key k) is) there
  | Equal ↦ there
  | Greater ↦ elim (is_key k i) as (λ t. (t || list_any (is_key k) is) ≡ true → (t || list_any (is_key k) (with_key j is)) ≡ true) [ true ↦ λ e. refl | false ↦ λ e. put-with_key k j is e ] there
]

put-itself : (k : List Value) (ks : List (List Value)) → list_any (is_key k) (with_key k ks) ≡ true
put-itself k [] = λ i. is_key-same k k refl i || false
put-itself k (j ∷ js) = elim (side k j) [
  | Before e back ↦ rw e (λ i. is_key-same k k refl i || list_any (is_key k) (j ∷ js))
  | Same e ↦ let here : key_order k j ≡ Equal = rw e (key_itself j) in rw here (λ i. is_key-same k j e i || list_any (is_key k) js)
  | After e back ↦ rw e (or_right (is_key k j) (list_any (is_key k) (with_key k js)) (put-itself k js))
]

module _ {V : Type 0} where
  ascends-with_put : (c : Change V) (ks : List (List Value)) → Ascends ks → Ascends (with_put c ks)
  ascends-with_put (Puts k v) ks a = ascends-with_key k ks a
  ascends-with_put (Removes k) ks a = a
  ascends-with_put Clears ks a = a
  ascends-with_put Zeroes ks a = a
  ascends-with_put Leaves ks a = a

  pub ascends-put_keys : (cs : List (Change V)) → Ascends (put_keys cs)
  ascends-put_keys [] = tt
  ascends-put_keys (c ∷ cs) = ascends-with_put c (put_keys cs) (ascends-put_keys cs)

  module _ {C : Type 0} (made : List V → C) (before : List (Change V)) where
    abbrev cell : List Value → C
    cell j = made (given_to before j)

    module _ (k : List Value) (v : V) where
      -- the put is of this key, and taken
      abbrev here : List Value → Bool
      here j = is_key k j && is_taken before j

      abbrev new_cell : List Value → C
      new_cell j = made (given_to (Puts k v ∷ before) j)

      elsewhere : (j : List Value) → is_key k j ≡ false → (lives before j ≡ lives (Puts k v ∷ before) j) × (cell j ≡ new_cell j)
      elsewhere j e = ((λ i. (sym e i && is_taken before j) || lives before j), (λ i. made (cond (sym e i && is_taken before j) (given_to before j ++ v ∷ []) (given_to before j))))

      here-taken : is_taken before k ≡ true → here k ≡ true
      here-taken taken = λ i. is_key-same k k refl i && taken i

      -- a put that is taken puts the key's row in
      pub rows-taken : is_taken before k ≡ true → rows_of made (Puts k v ∷ before) ≡ insert_entry key_order (rows_of made before) k (made (given_to before k ++ v ∷ []))
      rows-taken taken = let yes = here-taken taken in
          rows-insert (lives before) (lives (Puts k v ∷ before)) cell new_cell k elsewhere (λ i. yes i || lives before k) (put_keys before) (ascends-put_keys before)
          ∙ (λ i. insert_entry key_order (rows_of made before) k (made (cond (yes i) (given_to before k ++ v ∷ []) (given_to before k))))

      here-lost : is_taken before k ≡ false → (j : List Value) → here j ≡ false
      here-lost lost j = elim (is_key k j) as (λ t. is_key k j ≡ t → (t && is_taken before j) ≡ false)
          [ true ↦ λ e. ap (is_taken before) (sym (is_key-true k j e)) ∙ lost | false ↦ λ e. refl ] refl

      -- a put that is lost changes no row
      pub rows-lost : is_taken before k ≡ false → rows_of made (Puts k v ∷ before) ≡ rows_of made before
      rows-lost lost = let no = here-lost lost in
          (λ i. rows_at (λ j. no j i || lives before j) (λ j. made (cond (no j i) (given_to before j ++ v ∷ []) (given_to before j))) (with_key k (put_keys before)))
          ∙ rows-none (lives before) cell k (or_parts (lives before k) (ltb (length (filter (lives before) (put_keys before))) 4096) lost).0 (put_keys before)

    pub rows-removed : (k : List Value) → rows_of made (Removes k ∷ before) ≡ remove_entry (is_key k) (rows_of made before)
    rows-removed k = let yes = is_key-same k k refl in
        rows-remove (lives before) (lives (Removes k ∷ before)) cell (λ j. made (given_to (Removes k ∷ before) j)) k
        (λ j e. ((λ i. not (sym e i) && lives before j), (λ i. made (cond (sym e i) [] (given_to before j)))))
        (λ i. not (yes i) && lives before k) (put_keys before) (ascends-put_keys before)

    nothing : (ks : List (List Value)) → rows_at (λ j. false) (λ j. made []) ks ≡ []
    nothing [] = refl
    nothing (j ∷ js) = nothing js

    pub rows-cleared : rows_of made (Clears ∷ before) ≡ []
    rows-cleared = nothing (put_keys before)

    pub rows-zeroed : rows_of made (Zeroes ∷ before) ≡ map (λ e. (e.0, made [])) (rows_of made before)
    rows-zeroed = sym (map-map-rows (live_keys before))
      where
        map-map-rows : (ks : List (List Value)) → map (λ e. (e.0, made [])) (map (row_at cell) ks) ≡ map (row_at (λ j. made [])) ks
        map-map-rows [] = refl
        map-map-rows (k ∷ ks) = ap (λ r. (k, made []) ∷ r) (map-map-rows ks)

    pub rows-length : length (rows_of made before) ≡ length (live_keys before)
    rows-length = length-map (live_keys before) (row_at cell)

  -- a key that lives was put
  lives-put : (changes : List (Change V)) (k : List Value) → lives changes k ≡ true → list_any (is_key k) (put_keys changes) ≡ true
  lives-put [] k alive = cc
  lives-put (Puts j v ∷ before) k alive = elim (is_key j k) as (λ t. is_key j k ≡ t → ((t && is_taken before k) || lives before k) ≡ true → list_any (is_key k) (with_key j (put_keys before)) ≡ true) [
    | true ↦ λ e a. let same = is_key-true j k e in subst (λ i. list_any (is_key k) (with_key i (put_keys before)) ≡ true) (sym same) (put-itself k (put_keys before))
    | false ↦ λ e a. put-with_key k j (put_keys before) (lives-put before k a)
  ] refl alive
  lives-put (Removes j ∷ before) k alive = lives-put before k (and_parts (not (is_key j k)) (lives before k) alive).1
  lives-put (Clears ∷ before) k alive = cc
  lives-put (Zeroes ∷ before) k alive = lives-put before k alive
  lives-put (Leaves ∷ before) k alive = lives-put before k alive

  -- a key that doesn't live has nothing
  pub given-dead : (changes : List (Change V)) (k : List Value) → lives changes k ≡ false → given_to changes k ≡ []
  given-dead [] k dead = refl
  given-dead (Puts j v ∷ before) k dead = let two = or_parts (is_key j k && is_taken before k) (lives before k) dead in
      (λ i. cond (two.0 i) (given_to before k ++ v ∷ []) (given_to before k)) ∙ given-dead before k two.1
  given-dead (Removes j ∷ before) k dead = elim (is_key j k) as (λ t. (not t && lives before k) ≡ false → cond t [] (given_to before k) ≡ [])
      [ true ↦ λ e. refl | false ↦ λ e. given-dead before k e ] dead
  given-dead (Clears ∷ before) k dead = refl
  given-dead (Zeroes ∷ before) k dead = refl
  given-dead (Leaves ∷ before) k dead = given-dead before k dead

  -- what a look-up of a key finds
  pub rows-found : {C : Type 0} (made : List V → C) (changes : List (Change V)) (k : List Value) → lookup (is_key k) (rows_of made changes) ≡ cond (lives changes k) (Some (made (given_to changes k))) None
  rows-found made changes k = rows-lookup (lives changes) (λ j. made (given_to changes j)) k (put_keys changes) (lives-put changes k)
