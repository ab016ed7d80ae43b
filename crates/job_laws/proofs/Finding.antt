-- What is found first among several, where each is found by its own key.
use Rattle.std.proofs.Common.{◌≡◌, ◌++◌, ◌+◌, ◌||◌, ◌⊎◌, inl, inr, ℕ, zero, suc, Bool, true, false, cond, List, [], ◌∷◌, length, Option, Some, slice_get, refl, sym, ap, subst, ◌∙◌, add-one}
use Rattle.std.specs.Prelude.{if◌then◌else◌}
use Rattle.std.specs.List.{list_any}

-- the place of the first that passes a test
abbrev pub first_at : {A : Type 0} → (A → Bool) → List A → ℕ
first_at test [] = 0
first_at test (x ∷ xs) = if test x then 0 else first_at test xs + 1

-- each stands where one that has its key is found first
abbrev pub IsApart : {A : Type 0} → (A → A → Bool) → List A → Type 0
IsApart {A} keyed xs = (i : ℕ) (x : A) → slice_get xs i ≡ Some x → first_at (keyed x) xs ≡ i

-- what stands in a list that one item was added to
got : {A : Type 0} (xs : List A) (x : A) (i : ℕ) (y : A) → slice_get (xs ++ x ∷ []) i ≡ Some y → (slice_get xs i ≡ Some y) ⊎ ((x ≡ y) × (i ≡ length xs))
got [] x zero y e = inr ((let f : ◌≡◌ {A = Option _} (Some x) (Some y) = e in cc), refl)
got [] x (suc i) y e = cc
got (z ∷ zs) x zero y e = inl e
got (z ∷ zs) x (suc i) y e = elim (got zs x i y e) [ inl h ↦ inl h | inr h ↦ inr (h.0, ap suc h.1) ]

-- one that is there passes its own test
there : {A : Type 0} (test : A → Bool) (xs : List A) (i : ℕ) (x : A) → slice_get xs i ≡ Some x → test x ≡ true → list_any test xs ≡ true
there test [] i x e h = cc
there test (y ∷ ys) zero x e h = let f : y ≡ x = cc in ap (λ b. b || list_any test ys) (ap test f ∙ h)
there test (y ∷ ys) (suc i) x e h = elim (test y) as (λ b. (b || list_any test ys) ≡ true) [ true ↦ refl | false ↦ there test ys i x e h ]

-- where one passes, the first is found in front of what is added
front : {A : Type 0} (test : A → Bool) (xs ys : List A) → list_any test xs ≡ true → first_at test (xs ++ ys) ≡ first_at test xs
front test [] ys h = cc
front test (x ∷ xs) ys h =
    elim (test x) as (λ b. (b || list_any test xs) ≡ true → cond b 0 (first_at test (xs ++ ys) + 1) ≡ cond b 0 (first_at test xs + 1))
    [ true ↦ λ g. refl | false ↦ λ g. ap (λ n. n + 1) (front test xs ys g) ] h

-- where none passes, one that is added and passes is the first
last : {A : Type 0} (test : A → Bool) (xs : List A) (x : A) → list_any test xs ≡ false → test x ≡ true → first_at test (xs ++ x ∷ []) ≡ length xs
last test [] x h g = ap (λ b. cond b 0 1) g
last test (y ∷ ys) x h g =
    elim (test y) as (λ b. (b || list_any test ys) ≡ false → cond b 0 (first_at test (ys ++ x ∷ []) + 1) ≡ suc (length ys))
    [ true ↦ λ e. cc | false ↦ λ e. ap (λ n. n + 1) (last test ys x e g) ∙ add-one (length ys) ] h

-- one more that has another key than all before it
pub apart_more : {A : Type 0} (keyed : A → A → Bool) (xs : List A) (x : A) → ((y : A) → keyed y y ≡ true) → list_any (keyed x) xs ≡ false → IsApart keyed xs → IsApart keyed (xs ++ x ∷ [])
apart_more {A} keyed xs x own none apart = λ i y e. elim (got xs x i y e) [
  | inl h ↦ front (keyed y) xs (x ∷ []) (there (keyed y) xs i y h (own y)) ∙ apart i y h
  | inr h ↦ subst (λ (z : A). first_at (keyed z) (xs ++ x ∷ []) ≡ i) h.0 (last (keyed x) xs x none (own x) ∙ sym h.1)
]
