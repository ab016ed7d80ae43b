-- Lists: places where a test holds, what stands at an index, and lists that are alike by a key.
use Rattle.std.proofs.Common.{◌≡◌, ◌+◌, ◌≤◌, ◌++◌, ℕ, zero, suc, Bool, true, false, cond, not, List, [], ◌∷◌, length, filter, Some, slice_get, refl, sym, ap, ◌∙◌, subst, arith}
use Rattle.std.specs.List.{AllByRecursion}
use Rattle.std.specs.List.Sorted.{ties, IsStableBy}
use Rattle.std.proofs.lemmas.List.Filters.{length-filter_both}
use Rattle.bt_attach.specs.Attaching.{places_from}

module _ {A : Type 0} where
  -- where the test holds of each element that stands at a place, the fact holds of the place
  pub places_are : (test : A → Bool) (P : ℕ → Type 0) (k : ℕ) (xs : List A)
      → ((i : ℕ) (x : A) → slice_get xs i ≡ Some x → test x ≡ true → P (k + i)) → AllByRecursion P (places_from test k xs)
  places_are test P k [] h = tt
  places_are test P k (x ∷ xs) h =
      let rest = places_are test P (k + 1) xs (λ i y e t. let same : k + suc i ≡ k + 1 + i = omega arith in subst P same (h (suc i) y e t)) in
      here (test x) refl rest
    where
      here : (b : Bool) → test x ≡ b → AllByRecursion P (places_from test (k + 1) xs)
          → AllByRecursion P (cond b (k ∷ places_from test (k + 1) xs) (places_from test (k + 1) xs))
      here true e rest = (let same : k + zero ≡ k = omega arith in subst P same (h zero x refl e), rest)
      here false e rest = rest

  pub places_few : (test : A → Bool) (k : ℕ) (xs : List A) → length (places_from test k xs) ≤ length xs
  places_few test k [] = omega arith
  places_few test k (x ∷ xs) =
      let rest = places_few test (k + 1) xs in
      elim (test x) as (λ b. length (cond b (k ∷ places_from test (k + 1) xs) (places_from test (k + 1) xs)) ≤ suc (length xs)) [ true ↦ omega (arith, rest) | false ↦ omega (arith, rest) ]

  -- what stands behind a front
  pub get_behind : (xs : List A) (y : A) (ys : List A) → slice_get (xs ++ y ∷ ys) (length xs) ≡ Some y
  get_behind [] y ys = refl
  get_behind (x ∷ xs) y ys = get_behind xs y ys

  pub get_front : (xs ys : List A) (i : ℕ) (x : A) → slice_get xs i ≡ Some x → slice_get (xs ++ ys) i ≡ Some x
  get_front [] ys i x e = cc
  get_front (z ∷ xs) ys zero x e = e
  get_front (z ∷ xs) ys (suc i) x e = get_front xs ys i x e

  flipped : (x : A) (p q : A → Bool) (xs : List A) (a b : Bool) → p x ≡ a → q x ≡ b → filter p (filter q xs) ≡ filter q (filter p xs)
      → filter p (cond b (x ∷ filter q xs) (filter q xs)) ≡ filter q (cond a (x ∷ filter p xs) (filter p xs))
  flipped x p q xs true true e f rest = rw (e, f) (ap (λ l. x ∷ l) rest)
  flipped x p q xs true false e f rest = rw f rest
  flipped x p q xs false true e f rest = rw e rest
  flipped x p q xs false false e f rest = rest

  pub filter_flip : (p q : A → Bool) (xs : List A) → filter p (filter q xs) ≡ filter q (filter p xs)
  filter_flip p q [] = refl
  filter_flip p q (x ∷ xs) = flipped x p q xs (p x) (q x) refl refl (filter_flip p q xs)

  length_kept : (p : A → Bool) (xs : List A) → length (filter p xs) ≤ length xs
  length_kept p xs = let both = length-filter_both p (λ x. not (p x)) (λ x. refl) xs in omega (arith, both)

  -- lists of which each element's ties are the same
  module _ (lt : A → A → Bool) (self : (x : A) → ties lt x x ≡ true) where
    abbrev others : A → A → Bool
    others x y = not (ties lt x y)

    -- without the ties of one element they still are so
    fewer : (xs ys : List A) (x : A) → IsStableBy lt xs ys → IsStableBy lt (filter (others x) xs) (filter (others x) ys)
    fewer xs ys x stable z = filter_flip (ties lt z) (others x) ys ∙ ap (λ l. filter (others x) l) (stable z) ∙ filter_flip (others x) (ties lt z) xs

    some_kept : (y : A) (ys : List A) → 1 ≤ length (filter (ties lt y) (y ∷ ys))
    some_kept y ys = rw (self y) (omega arith)

    -- they are equally long
    pub alike_lengths : (n : ℕ) (xs ys : List A) → length xs ≤ n → IsStableBy lt xs ys → length ys ≡ length xs
    alike_lengths n [] [] h stable = refl
    alike_lengths n [] (y ∷ ys) h stable =
        let none = ap length (stable y) in
        let some = some_kept y ys in absurd (omega (arith, none, some))
    alike_lengths zero (x ∷ xs) ys h stable = absurd (omega (arith, h))
    alike_lengths (suc n) (x ∷ xs) ys h stable =
        let of_xs = length-filter_both (ties lt x) (others x) (λ y. refl) (x ∷ xs) in
        let of_ys = length-filter_both (ties lt x) (others x) (λ y. refl) ys in
        let same = ap length (stable x) in
        let some = some_kept x xs in
        let rest = alike_lengths n (filter (others x) (x ∷ xs)) (filter (others x) ys) (omega (arith, h, of_xs, some)) (fewer (x ∷ xs) ys x stable) in
        omega (arith, of_xs, of_ys, same, rest)

    kept : (p : A → Bool) (P : A → Type 0) (xs : List A) → AllByRecursion P xs → AllByRecursion P (filter p xs)
    kept p P [] h = tt
    kept p P (x ∷ xs) h = elim (p x) as (λ b. AllByRecursion P (cond b (x ∷ filter p xs) (filter p xs))) [ true ↦ (h.0, kept p P xs h.1) | false ↦ kept p P xs h.1 ]

    -- what passes a test and holds of all that passes
    each_kept : (P : A → Type 0) (xs : List A) → ((x : A) → AllByRecursion P (filter (ties lt x) xs)) → AllByRecursion P xs
    each_kept P [] h = tt
    each_kept P (x ∷ xs) h = (head, each_kept P xs (λ z. drop_first z (ties lt z x) refl))
      where
        head : P x
        head = (subst (λ b. AllByRecursion P (cond b (x ∷ filter (ties lt x) xs) (filter (ties lt x) xs))) (self x) (h x)).0

        drop_first : (z : A) (b : Bool) → ties lt z x ≡ b → AllByRecursion P (filter (ties lt z) xs)
        drop_first z true e = (subst (λ b. AllByRecursion P (cond b (x ∷ filter (ties lt z) xs) (filter (ties lt z) xs))) e (h z)).1
        drop_first z false e = subst (λ b. AllByRecursion P (cond b (x ∷ filter (ties lt z) xs) (filter (ties lt z) xs))) e (h z)

    -- what holds of each element of the one holds of each of the other
    pub alike_all : (P : A → Type 0) (xs ys : List A) → IsStableBy lt xs ys → AllByRecursion P xs → AllByRecursion P ys
    alike_all P xs ys stable h = each_kept P ys (λ x. subst (λ (l : List A). AllByRecursion P l) (sym (stable x)) (kept (ties lt x) P xs h))
