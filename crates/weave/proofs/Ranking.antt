-- Lists that are put in order.
use Rattle.std.proofs.Common.{◌≡◌, ℕ, zero, suc, ◌<◌, Bool, true, false, cond, List, [], ◌∷◌, length, get_or, sym, refl, subst, arith, add-one}
use Rattle.std.specs.Cmp.{IsStrictWeakOrder}
use Rattle.std.specs.List.{AllByRecursion}
use Rattle.std.specs.List.Sorted.{IsPermutation, IsSortedBy}
use Rattle.std.proofs.lemmas.List.Sorted.{IsPermutation-refl, IsPermutation-cons, IsPermutation-insert, IsPermutation-trans}
use Rattle.weave.specs.Ranked.{put_in, ranked}

module _ {A : Type 0} (lt : A → A → Bool) where
  put_cases : (b : Bool) (x y : A) (ys : List A) → IsPermutation (x ∷ ys) (put_in lt x ys) → IsPermutation (x ∷ y ∷ ys) (cond b (y ∷ put_in lt x ys) (x ∷ y ∷ ys))
  put_cases true x y ys h = IsPermutation-trans (x ∷ y ∷ ys) (y ∷ x ∷ ys) (y ∷ put_in lt x ys) (IsPermutation-insert (y ∷ ys) 1 x) (IsPermutation-cons y (x ∷ ys) (put_in lt x ys) h)
  put_cases false x y ys h = IsPermutation-refl (x ∷ y ∷ ys)

  put_permuted : (x : A) (ys : List A) → IsPermutation (x ∷ ys) (put_in lt x ys)
  put_permuted x [] = IsPermutation-refl (x ∷ [])
  put_permuted x (y ∷ ys) = put_cases (lt y x) x y ys (put_permuted x ys)

  pub ranked_permuted : (xs : List A) → IsPermutation xs (ranked lt xs)
  ranked_permuted [] = IsPermutation-refl []
  ranked_permuted (x ∷ xs) = IsPermutation-trans (x ∷ xs) (x ∷ ranked lt xs) (put_in lt x (ranked lt xs)) (IsPermutation-cons x xs (ranked lt xs) (ranked_permuted xs)) (put_permuted x (ranked lt xs))

  -- no member comes before the one that stands before it
  abbrev pub Steps : List A → Type 0
  Steps [] = Unit {0}
  Steps (x ∷ []) = Unit {0}
  Steps (x ∷ y ∷ ys) = (lt y x ≡ false) × Steps (y ∷ ys)

  module _ (o : IsStrictWeakOrder lt) where
    both : (b : Bool) (x y : A) (ys : List A) → lt y x ≡ b → (lt y x ≡ true → Steps (y ∷ put_in lt x ys)) → Steps (y ∷ ys) → Steps (cond b (y ∷ put_in lt x ys) (x ∷ y ∷ ys))
    both true x y ys e f h = f e
    both false x y ys e f h = (e, h)

    step_over : (b : Bool) (w x y : A) (ys : List A) → lt w x ≡ true → lt y w ≡ false → Steps (cond b (y ∷ put_in lt x ys) (x ∷ y ∷ ys)) → Steps (w ∷ cond b (y ∷ put_in lt x ys) (x ∷ y ∷ ys))
    step_over true w x y ys e f h = (f, h)
    step_over false w x y ys e f h = (o.one_way w x e, h)

    put_after : (w x : A) (ys : List A) → lt w x ≡ true → Steps (w ∷ ys) → Steps (w ∷ put_in lt x ys)
    put_after w x [] e h = (o.one_way w x e, tt)
    put_after w x (y ∷ ys) e h = step_over (lt y x) w x y ys e h.0 (both (lt y x) x y ys refl (λ f. put_after y x ys f h.1) h.1)

    put_kept : (x : A) (ys : List A) → Steps ys → Steps (put_in lt x ys)
    put_kept x [] h = tt
    put_kept x (y ∷ ys) h = both (lt y x) x y ys refl (λ f. put_after y x ys f h) h

    pub ranked_steps : (xs : List A) → Steps (ranked lt xs)
    ranked_steps [] = tt
    ranked_steps (x ∷ xs) = put_kept x (ranked lt xs) (ranked_steps xs)

    sorted_from : (xs : List A) → Steps xs → (k : ℕ) (d : A) → suc k < length xs → lt (get_or xs (suc k) d) (get_or xs k d) ≡ false
    sorted_from [] h k d l = absurd (omega arith)
    sorted_from (x ∷ []) h k d l = absurd (omega arith)
    sorted_from (x ∷ y ∷ ys) h zero d l = h.0
    sorted_from (x ∷ y ∷ ys) h (suc k) d l = sorted_from (y ∷ ys) h.1 k d (omega arith)

    pub ranked_sorted : (xs : List A) → IsSortedBy lt (ranked lt xs)
    ranked_sorted xs = λ k d low high. subst (λ n. lt (get_or (ranked lt xs) n d) (get_or (ranked lt xs) k d) ≡ false) (sym (add-one k)) (sorted_from (ranked lt xs) (ranked_steps xs) k d (omega (arith, high)))

-- what holds of each member holds of each in order
module _ {A : Type 0} (P : A → Type 0) (lt : A → A → Bool) where
  put_case : (b : Bool) (x y : A) (ys : List A) → P x → AllByRecursion P (y ∷ ys) → AllByRecursion P (put_in lt x ys) → AllByRecursion P (cond b (y ∷ put_in lt x ys) (x ∷ y ∷ ys))
  put_case true x y ys p h k = (h.0, k)
  put_case false x y ys p h k = (p, h)

  put_all : (x : A) (ys : List A) → P x → AllByRecursion P ys → AllByRecursion P (put_in lt x ys)
  put_all x [] p h = (p, tt)
  put_all x (y ∷ ys) p h = put_case (lt y x) x y ys p h (put_all x ys p h.1)

  pub ranked_all : (xs : List A) → AllByRecursion P xs → AllByRecursion P (ranked lt xs)
  ranked_all [] h = tt
  ranked_all (x ∷ xs) h = put_all x (ranked lt xs) h.0 (ranked_all xs h.1)
