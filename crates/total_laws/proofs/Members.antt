-- Keys in order, as sets: fewer members, and members that all pass a test.
use Rattle.std.proofs.Common.{◌≡◌, ◌≤◌, Bool, true, false, ◌||◌, cond, List, [], ◌∷◌, length, sym, ap, ◌∙◌, refl, arith}
use Rattle.std.specs.List.{filter}
use Rattle.bt_core.specs.declared.value.Value.{Value}
use Rattle.agg_core.specs.Changes.{is_key}
use Rattle.agg_core.proofs.KeyLaws.{Before, Same, After, side}
use Rattle.agg_core.proofs.SortedRows.{Below, Ascends, below-trans}
use Rattle.map_rows.proofs.KeySets.{has, has_first, above, below_none}

-- fewer members, fewer keys
pub fewer_keys : (xs ys : List (List Value)) → Ascends xs → Ascends ys → ((k : List Value) → has k xs ≡ true → has k ys ≡ true) → length xs ≤ length ys
fewer_keys [] ys a b sub = omega arith
fewer_keys (x ∷ xs) [] a b sub = absurd (let q : false ≡ true = sub x (has_first x xs) in let r : ⊥ = cc in r)
fewer_keys (x ∷ xs) (y ∷ ys) a b sub = elim (side x y) [
  | Before e back ↦ absurd (let q : false ≡ true = sym (below_none x (y ∷ ys) (e, below-trans x y ys e b.0)) ∙ sub x (has_first x xs) in let r : ⊥ = cc in r)
  | Same e ↦ (let rest = fewer_keys xs ys a.1 b.1 (λ k h. let other = above x xs a.0 k h in
      let o : is_key k y ≡ false = ap (λ (j : List Value). is_key k j) (sym e) ∙ other in
      sym (λ i. o i || has k ys) ∙ sub k ((λ i. other i || has k xs) ∙ h)) in omega arith)
  | After e back ↦ (let low : Below y (x ∷ xs) = (back, below-trans y x xs back a.0) in
      let rest = fewer_keys (x ∷ xs) ys a b.1 (λ k h. sym (λ i. above y (x ∷ xs) low k h i || has k ys) ∙ sub k h) in omega arith)
]

-- a test that all members pass keeps them all
pub filter_members : (p : List Value → Bool) (ks : List (List Value)) → Ascends ks → ((k : List Value) → has k ks ≡ true → p k ≡ true) → filter p ks ≡ ks
filter_members p [] a f = refl
filter_members p (k ∷ ks) a f = (λ i. cond (f k (has_first k ks) i) (k ∷ filter p ks) (filter p ks))
    ∙ ap (λ (l : List (List Value)). k ∷ l) (filter_members p ks a.1 (λ j h. f j ((λ i. above k ks a.0 j h i || has j ks) ∙ h)))
