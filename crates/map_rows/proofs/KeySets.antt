-- Keys in order, each once, as sets.
use Rattle.std.proofs.Common.{◌≡◌, Bool, true, false, ◌||◌, cond, List, [], ◌∷◌, refl, sym, ap, ◌∙◌}
use Rattle.std.specs.declared.cmp.Ordering.TheVariants.{Equal}
use Rattle.std.specs.List.{list_any}
use Rattle.bt_core.specs.declared.value.Value.{Value}
use Rattle.bt_core.specs.Order.{key_order}
use Rattle.agg_core.specs.Changes.{is_key, with_key}
use Rattle.agg_core.proofs.KeyLaws.{key_itself, Before, Same, After, side, is_key-true, is_key-same, is_key-before, is_key-after}
use Rattle.agg_core.proofs.SortedRows.{Below, Ascends, below-trans}

abbrev pub has : List Value → List (List Value) → Bool
has k ks = list_any (is_key k) ks

or_twice : (a b : Bool) → (a || b) ≡ (a || (a || b))
or_twice true b = refl
or_twice false b = refl

or_swap : (a b c : Bool) → (a || (b || c)) ≡ (b || (a || c))
or_swap true true c = refl
or_swap true false c = refl
or_swap false b c = refl

pub key_flip : (j k : List Value) → is_key j k ≡ is_key k j
key_flip j k = elim (side j k) [
  | Before e b ↦ is_key-before j k e ∙ sym (is_key-after k j b)
  | Same e ↦ is_key-same j k e ∙ sym (is_key-same k j (sym e))
  | After e b ↦ is_key-after j k e ∙ sym (is_key-before k j b)
]

pub has-with_key : (k j : List Value) (ks : List (List Value)) → has k (with_key j ks) ≡ (is_key k j || has k ks)
has-with_key k j [] = refl
has-with_key k j (i ∷ is) = elim (side j i) [
  | Before e b ↦ rw e refl
  | Same e ↦ let here : key_order j i ≡ Equal = rw e (key_itself i) in rw here (or_twice (is_key k i) (has k is) ∙ ap (λ (x : List Value). is_key k x || (is_key k i || has k is)) (sym e))
  | After e b ↦ rw e (ap (λ (t : Bool). is_key k i || t) (has-with_key k j is) ∙ or_swap (is_key k i) (is_key k j) (has k is))
]

pub below_none : (k : List Value) (ks : List (List Value)) → Below k ks → has k ks ≡ false
below_none k [] b = refl
below_none k (j ∷ js) b = λ i. is_key-before k j b.0 i || below_none k js b.1 i

pub has_first : (k : List Value) (ks : List (List Value)) → has k (k ∷ ks) ≡ true
has_first k ks = λ i. is_key-same k k refl i || has k ks

-- the keys after a first one
module _ (x : List Value) (xs : List (List Value)) (low : Below x xs) (k : List Value) where
  pub after_first : has k xs ≡ cond (is_key k x) false (has k (x ∷ xs))
  after_first = by_test (is_key k x) refl
    where
      by_test : (t : Bool) → is_key k x ≡ t → has k xs ≡ cond t false (t || has k xs)
      by_test true e = ap (λ (j : List Value). has j xs) (is_key-true k x e) ∙ below_none x xs low
      by_test false e = refl

  pub above : has k xs ≡ true → is_key k x ≡ false
  above h = by_test (is_key k x) refl
    where
      by_test : (t : Bool) → is_key k x ≡ t → t ≡ false
      by_test true e = sym h ∙ ap (λ (j : List Value). has j xs) (is_key-true k x e) ∙ below_none x xs low
      by_test false e = refl

-- keys in order are told by their members
pub same_keys : (xs ys : List (List Value)) → Ascends xs → Ascends ys → ((k : List Value) → has k xs ≡ has k ys) → xs ≡ ys
same_keys [] [] a b same = refl
same_keys [] (y ∷ ys) a b same = absurd (let q : false ≡ true = same y ∙ has_first y ys in let r : ⊥ = cc in r)
same_keys (x ∷ xs) [] a b same = absurd (let q : true ≡ false = sym (has_first x xs) ∙ same x in let r : ⊥ = cc in r)
same_keys (x ∷ xs) (y ∷ ys) a b same = elim (side x y) [
  | Before e back ↦ absurd (let q : true ≡ false = sym (has_first x xs) ∙ same x ∙ below_none x (y ∷ ys) (e, below-trans x y ys e b.0) in let r : ⊥ = cc in r)
  | Same e ↦ let rest = same_keys xs ys a.1 b.1 (λ k. after_first x xs a.0 k ∙ (λ i. cond (is_key k (e i)) false (same k i)) ∙ sym (after_first y ys b.0 k)) in λ i. e i ∷ rest i
  | After e back ↦ absurd (let q : false ≡ true = sym (below_none y (x ∷ xs) (back, below-trans y x xs back a.0)) ∙ same y ∙ has_first y ys in let r : ⊥ = cc in r)
]
