-- Rows in key order, made of keys in key order.
use Rattle.std.proofs.Common.{◌≡◌, Bool, true, false, cond, List, [], ◌∷◌, refl, sym, ap, ◌∙◌, subst, map, Some, None}
use Rattle.std.specs.declared.cmp.Ordering.TheVariants.{Less, Equal, Greater}
use Rattle.std.specs.List.{filter, list_any, AllByRecursion}
use Rattle.std.specs.Ordering.{match_ordering}
use Rattle.std.specs.Map.{lookup, remove_entry}
use Rattle.std.specs.BTreeMap.{insert_entry}
use Rattle.bt_core.specs.declared.value.Value.{Value}
use Rattle.bt_core.specs.Order.{key_order}
use Rattle.agg_core.specs.Changes.{is_key, with_key}
use Rattle.bt_core.proofs.OrderLaws.{keys_total}
use Rattle.agg_core.proofs.KeyLaws.{key_itself, Before, Same, After, side, is_key-true, is_key-same, is_key-before, is_key-after}

-- the key comes before each of these
abbrev pub Below : List Value → List (List Value) → Type 0
Below k ks = AllByRecursion (λ j. key_order k j ≡ Less) ks

-- keys in order, each once
abbrev pub Ascends : List (List Value) → Type 0
Ascends [] = Unit {0}
Ascends (k ∷ ks) = Below k ks × Ascends ks

pub below-trans : (i k : List Value) (ks : List (List Value)) → key_order i k ≡ Less → Below k ks → Below i ks
below-trans i k [] e b = tt
below-trans i k (j ∷ js) e b = (keys_total.trans i k j e b.0, below-trans i k js e b.1)

below-with_key : (i k : List Value) (ks : List (List Value)) → key_order i k ≡ Less → Below i ks → Below i (with_key k ks)
below-with_key i k [] e b = (e, tt)
below-with_key i k (j ∷ js) e b = elim (key_order k j) as (λ o. Below i (match_ordering o (k ∷ j ∷ js) (j ∷ js) (j ∷ with_key k js)))
    [ Less ↦ (e, b) | Equal ↦ b | Greater ↦ (b.0, below-with_key i k js e b.1) ]

pub ascends-with_key : (k : List Value) (ks : List (List Value)) → Ascends ks → Ascends (with_key k ks)
ascends-with_key k [] a = (tt, tt)
ascends-with_key k (j ∷ js) a = elim (side k j) [
  | Before e back ↦ rw e ((e, below-trans k j js e a.0), a)
  | Same e ↦ rw e (rw (key_itself j) a)
  | After e back ↦ rw e (below-with_key j k js back a.0, ascends-with_key k js a.1)
]

abbrev pub row_at : {C : Type 0} → (List Value → C) → List Value → (List Value × C)
row_at cell k = (k, cell k)

-- one row for each of the keys that pass
abbrev pub rows_at : {C : Type 0} → (List Value → Bool) → (List Value → C) → List (List Value) → List (List Value × C)
rows_at p cell ks = map (row_at cell) (filter p ks)

-- the row of the first key, if it passes, and the others
abbrev first_row : {C : Type 0} → Bool → (List Value → C) → List Value → List (List Value × C) → List (List Value × C)
first_row t cell j rows = cond t (row_at cell j ∷ rows) rows

rows_at-cons : {C : Type 0} (p : List Value → Bool) (cell : List Value → C) (j : List Value) (js : List (List Value)) → rows_at p cell (j ∷ js) ≡ first_row (p j) cell j (rows_at p cell js)
rows_at-cons p cell j js = elim (p j) as (λ t. map (row_at cell) (cond t (j ∷ filter p js) (filter p js)) ≡ first_row t cell j (map (row_at cell) (filter p js))) [ true ↦ refl | false ↦ refl ]

first_row-cell : {C : Type 0} (t : Bool) (cell made : List Value → C) (j : List Value) (rows : List (List Value × C)) → cell j ≡ made j → first_row t cell j rows ≡ first_row t made j rows
first_row-cell t cell made j rows e = λ i. cond t ((j, e i) ∷ rows) rows

-- a key before all others goes to the front
pub insert-front : {C : Type 0} (p : List Value → Bool) (cell : List Value → C) (k : List Value) (w : C) (ks : List (List Value)) → Below k ks → insert_entry key_order (rows_at p cell ks) k w ≡ (k, w) ∷ rows_at p cell ks
insert-front p cell k w [] b = refl
insert-front {C} p cell k w (j ∷ js) b = rw rows_at-cons (elim (p j) as (λ t. insert_entry key_order (first_row t cell j (rows_at p cell js)) k w ≡ (k, w) ∷ first_row t cell j (rows_at p cell js))
    [ true ↦ rw b.0 refl | false ↦ insert-front p cell k w js b.1 ])

-- tests and cells that agree at all keys after k make the same rows of them
pub rows-same : {C : Type 0} (p q : List Value → Bool) (cell made : List Value → C) (k : List Value) → ((j : List Value) → key_order k j ≡ Less → (p j ≡ q j) × (cell j ≡ made j)) → (ks : List (List Value)) → Below k ks → rows_at p cell ks ≡ rows_at q made ks
rows-same p q cell made k same [] b = refl
rows-same p q cell made k same (j ∷ js) b =
    let s = same j b.0 in let rest = rows-same p q cell made k same js b.1 in
    rows_at-cons p cell j js ∙ (λ i. cond (s.0 i) ((j, s.1 i) ∷ rest i) (rest i)) ∙ sym (rows_at-cons q made j js)

insert-here : {C : Type 0} (t : Bool) (cell : List Value → C) (k : List Value) (w : C) (rows : List (List Value × C)) → insert_entry key_order rows k w ≡ (k, w) ∷ rows → insert_entry key_order (first_row t cell k rows) k w ≡ (k, w) ∷ rows
insert-here true cell k w rows front = rw (key_itself k) refl
insert-here false cell k w rows front = front

insert-past : {C : Type 0} (t : Bool) (cell : List Value → C) (j k : List Value) (w : C) (rows : List (List Value × C)) → key_order k j ≡ Greater → first_row t cell j (insert_entry key_order rows k w) ≡ insert_entry key_order (first_row t cell j rows) k w
insert-past true cell j k w rows e = rw e refl
insert-past false cell j k w rows e = refl

remove-past : {C : Type 0} (t : Bool) (cell : List Value → C) (j k : List Value) (rows : List (List Value × C)) → is_key k j ≡ false → first_row t cell j (remove_entry (is_key k) rows) ≡ remove_entry (is_key k) (first_row t cell j rows)
remove-past true cell j k rows e = rw e refl
remove-past false cell j k rows e = refl

-- a key before all others is not removed from them
remove-none : {C : Type 0} (p : List Value → Bool) (cell : List Value → C) (k : List Value) (ks : List (List Value)) → Below k ks → remove_entry (is_key k) (rows_at p cell ks) ≡ rows_at p cell ks
remove-none p cell k [] low = refl
remove-none p cell k (j ∷ js) low =
    ap (λ r. remove_entry (is_key k) r) (rows_at-cons p cell j js)
    ∙ sym (remove-past (p j) cell j k (rows_at p cell js) (is_key-before k j low.0))
    ∙ (λ i. first_row (p j) cell j (remove-none p cell k js low.1 i))
    ∙ sym (rows_at-cons p cell j js)

lookup-past : {C : Type 0} (t : Bool) (cell : List Value → C) (j k : List Value) (rows : List (List Value × C)) → is_key k j ≡ false → lookup (is_key k) (first_row t cell j rows) ≡ lookup (is_key k) rows
lookup-past true cell j k rows e = rw e refl
lookup-past false cell j k rows e = refl

lookup-fails : {C : Type 0} (p : List Value → Bool) (cell : List Value → C) (k : List Value) → p k ≡ false → (ks : List (List Value)) → lookup (is_key k) (rows_at p cell ks) ≡ None
lookup-fails p cell k fails [] = refl
lookup-fails p cell k fails (j ∷ js) = ap (λ r. lookup (is_key k) r) (rows_at-cons p cell j js) ∙ elim (is_key k j) as (λ t. is_key k j ≡ t → lookup (is_key k) (first_row (p j) cell j (rows_at p cell js)) ≡ None) [
  | true ↦ λ e. let same = is_key-true k j e in let no : p j ≡ false = ap p (sym same) ∙ fails in (λ i. lookup (is_key k) (first_row (no i) cell j (rows_at p cell js))) ∙ lookup-fails p cell k fails js
  | false ↦ λ e. lookup-past (p j) cell j k (rows_at p cell js) e ∙ lookup-fails p cell k fails js
] refl

lookup-there : {C : Type 0} (p : List Value → Bool) (cell : List Value → C) (k : List Value) → p k ≡ true → (ks : List (List Value)) → list_any (is_key k) ks ≡ true → lookup (is_key k) (rows_at p cell ks) ≡ Some (cell k)
lookup-there p cell k passes [] there = cc
lookup-there p cell k passes (j ∷ js) there = ap (λ r. lookup (is_key k) r) (rows_at-cons p cell j js) ∙ elim (is_key k j) as (λ t. is_key k j ≡ t → lookup (is_key k) (first_row (p j) cell j (rows_at p cell js)) ≡ Some (cell k)) [
  | true ↦ λ e. let same = is_key-true k j e in let yes : p j ≡ true = ap p (sym same) ∙ passes in (λ i. lookup (is_key k) (first_row (yes i) cell j (rows_at p cell js))) ∙ rw e (ap (λ i. Some (cell i)) (sym same))
  | false ↦ λ e. lookup-past (p j) cell j k (rows_at p cell js) e ∙ lookup-there p cell k passes js (rw e at there)
] refl

module _ {C : Type 0} (p q : List Value → Bool) (cell made : List Value → C) (k : List Value) (same : (j : List Value) → is_key k j ≡ false → (p j ≡ q j) × (cell j ≡ made j)) where
  after : (i : List Value) → key_order k i ≡ Less → (p i ≡ q i) × (cell i ≡ made i)
  after i less = same i (is_key-before k i less)

  module _ (passes : q k ≡ true) where
    insert-same : (js : List (List Value)) → Below k js → rows_at q made (k ∷ js) ≡ insert_entry key_order (rows_at p cell (k ∷ js)) k (made k)
    insert-same js low =
        rows_at-cons q made k js ∙ (λ i. first_row (passes i) made k (rows_at q made js))
        ∙ ap (λ r. (k, made k) ∷ r) (sym (rows-same p q cell made k after js low))
        ∙ sym (insert-here (p k) cell k (made k) (rows_at p cell js) (insert-front p cell k (made k) js low))
        ∙ ap (λ r. insert_entry key_order r k (made k)) (sym (rows_at-cons p cell k js))

    insert-before : (ks : List (List Value)) → Below k ks → rows_at q made (k ∷ ks) ≡ insert_entry key_order (rows_at p cell ks) k (made k)
    insert-before ks low =
        rows_at-cons q made k ks ∙ (λ i. first_row (passes i) made k (rows_at q made ks))
        ∙ ap (λ r. (k, made k) ∷ r) (sym (rows-same p q cell made k after ks low))
        ∙ sym (insert-front p cell k (made k) ks low)

    -- where tests and cells agree at all keys but k, and k passes the new test: the new rows are the old ones with k's row put in
    pub rows-insert : (ks : List (List Value)) → Ascends ks → rows_at q made (with_key k ks) ≡ insert_entry key_order (rows_at p cell ks) k (made k)
    rows-insert [] a = rows_at-cons q made k [] ∙ (λ i. first_row (passes i) made k [])
    rows-insert (j ∷ js) a = elim (side k j) [
      | Before e back ↦ rw e (insert-before (j ∷ js) (e, below-trans k j js e a.0))
      | Same e ↦ let here : key_order k j ≡ Equal = rw e (key_itself j) in
          rw here (subst (λ i. rows_at q made (i ∷ js) ≡ insert_entry key_order (rows_at p cell (i ∷ js)) k (made k)) e (insert-same js (rw e a.0)))
      | After e back ↦ let s = same j (is_key-after k j e) in
          rw e (rows_at-cons q made j (with_key k js)
          ∙ (λ i. first_row (sym s.0 i) made j (rows-insert js a.1 i))
          ∙ first_row-cell (p j) made cell j (insert_entry key_order (rows_at p cell js) k (made k)) (sym s.1)
          ∙ insert-past (p j) cell j k (made k) (rows_at p cell js) e
          ∙ ap (λ r. insert_entry key_order r k (made k)) (sym (rows_at-cons p cell j js)))
    ]

  -- where tests and cells agree at all keys but k, and k fails the new test: the new rows are the old ones without k's
  module _ (fails : q k ≡ false) where
    remove-here : (t : Bool) (rows : List (List Value × C)) → remove_entry (is_key k) rows ≡ rows → remove_entry (is_key k) (first_row t cell k rows) ≡ rows
    remove-here true rows none = rw (is_key-same k k refl) refl
    remove-here false rows none = none

    remove-same : (js : List (List Value)) → Below k js → rows_at q made (k ∷ js) ≡ remove_entry (is_key k) (rows_at p cell (k ∷ js))
    remove-same js low =
        rows_at-cons q made k js ∙ (λ i. first_row (fails i) made k (rows_at q made js))
        ∙ sym (rows-same p q cell made k after js low)
        ∙ sym (remove-here (p k) (rows_at p cell js) (remove-none p cell k js low))
        ∙ ap (λ r. remove_entry (is_key k) r) (sym (rows_at-cons p cell k js))

    pub rows-remove : (ks : List (List Value)) → Ascends ks → rows_at q made ks ≡ remove_entry (is_key k) (rows_at p cell ks)
    rows-remove [] a = refl
    rows-remove (j ∷ js) a = elim (side k j) [
      | Before e back ↦ let low : Below k (j ∷ js) = (e, below-trans k j js e a.0) in
          sym (rows-same p q cell made k after (j ∷ js) low) ∙ sym (remove-none p cell k (j ∷ js) low)
      | Same e ↦ subst (λ i. rows_at q made (i ∷ js) ≡ remove_entry (is_key k) (rows_at p cell (i ∷ js))) e (remove-same js (rw e a.0))
      | After e back ↦ let no = is_key-after k j e in let s = same j no in
          rows_at-cons q made j js
          ∙ (λ i. first_row (sym s.0 i) made j (rows-remove js a.1 i))
          ∙ first_row-cell (p j) made cell j (remove_entry (is_key k) (rows_at p cell js)) (sym s.1)
          ∙ remove-past (p j) cell j k (rows_at p cell js) no
          ∙ ap (λ r. remove_entry (is_key k) r) (sym (rows_at-cons p cell j js))
    ]

-- a key that fails adds no row
pub rows-none : {C : Type 0} (p : List Value → Bool) (cell : List Value → C) (k : List Value) → p k ≡ false → (ks : List (List Value)) → rows_at p cell (with_key k ks) ≡ rows_at p cell ks
rows-none p cell k fails [] = rows_at-cons p cell k [] ∙ (λ i. first_row (fails i) cell k [])
rows-none p cell k fails (j ∷ js) = elim (key_order k j) as (λ o. rows_at p cell (match_ordering o (k ∷ j ∷ js) (j ∷ js) (j ∷ with_key k js)) ≡ rows_at p cell (j ∷ js)) [
  | Less ↦ rows_at-cons p cell k (j ∷ js) ∙ (λ i. first_row (fails i) cell k (rows_at p cell (j ∷ js)))
  | Equal ↦ refl
  | Greater ↦ rows_at-cons p cell j (with_key k js) ∙ (λ i. first_row (p j) cell j (rows-none p cell k fails js i)) ∙ sym (rows_at-cons p cell j js)
]

-- the row of a key that is among the keys and passes
pub rows-lookup : {C : Type 0} (p : List Value → Bool) (cell : List Value → C) (k : List Value) (ks : List (List Value)) → (p k ≡ true → list_any (is_key k) ks ≡ true) → lookup (is_key k) (rows_at p cell ks) ≡ cond (p k) (Some (cell k)) None
rows-lookup p cell k ks there = by_test (p k) refl
  where
    by_test : (t : Bool) → p k ≡ t → lookup (is_key k) (rows_at p cell ks) ≡ cond t (Some (cell k)) None
    by_test true e = lookup-there p cell k e ks (there e)
    by_test false e = lookup-fails p cell k e ks
