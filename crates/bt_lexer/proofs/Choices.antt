-- What tests of numbers and lists say.
use Rattle.std.proofs.Common.{◌≡◌, ◌≢◌, ℕ, Bool, true, false, cond, ◌||◌, ◌&&◌, List, [], ◌∷◌, refl, inl, inr, arith}
use Rattle.std.specs.Prelude.{◌⊎◌, ◌==◌}
use Rattle.std.proofs.lemmas.Bool.{false≢true}
use Rattle.std.proofs.lemmas.Bool.Decides.{nat_tests}

pub is_eq : (m n : ℕ) → (m == n) ≡ true → m ≡ n
is_eq m n h = grind (arith, nat_tests)

pub is_ne : (m n : ℕ) → (m == n) ≡ false → m ≢ n
is_ne m n h = λ e. absurd (grind (arith, nat_tests))

pub ne_test : (m n : ℕ) → m ≢ n → (m == n) ≡ false
ne_test m n h = grind (arith, nat_tests)

pub and_both : (a b : Bool) → (a && b) ≡ true → (a ≡ true) × (b ≡ true)
and_both true b h = (refl, h)
and_both false b h = absurd (false≢true h)

pub or_cases : (a b : Bool) → (a || b) ≡ true → (a ≡ true) ⊎ (b ≡ true)
or_cases true b h = inl refl
or_cases false b h = inr h

-- a choice, by what its test says
pub decided : {A : Type 0} (P : A → Type 0) (t : Bool) (x y : A) → (t ≡ true → P x) → (t ≡ false → P y) → P (cond t x y)
decided P true x y f g = f refl
decided P false x y f g = g refl

-- the rests of two equal lists
pub tails : (b c : ℕ) (xs ys : List ℕ) → b ∷ xs ≡ c ∷ ys → xs ≡ ys
tails b c xs ys e = cc

pub heads_apart : (b c : ℕ) (xs ys : List ℕ) → (b == c) ≡ false → b ∷ xs ≡ c ∷ ys → ⊥
heads_apart b c xs ys h e = is_ne b c h (cc e)

-- their first elements
pub firsts : (b c : ℕ) (xs ys : List ℕ) → b ∷ xs ≡ c ∷ ys → b ≡ c
firsts b c xs ys e = cc

pub nil_apart : (b : ℕ) (xs : List ℕ) → b ∷ xs ≡ [] → ⊥
nil_apart b xs e = cc
