-- Texts differ at one place at most.
use Rattle.std.proofs.Common.{◌≡◌, ◌⊎◌, ℕ, zero, suc, ◌<◌, ◌≤◌, List, [], ◌∷◌, take, inl, inr, refl, sym, ap, ◌∙◌, arith}
use Rattle.std.specs.Prelude.{slice_get}
use Rattle.weave.proofs.Less.{less_or_not}
use Rattle.account_check.specs.Differences.{DifferAt}

-- ---- one place

get_front : (j i : ℕ) (xs : List ℕ) → i < j → slice_get (take j xs) i ≡ slice_get xs i
get_front zero i xs lt = absurd (omega arith)
get_front (suc j) i [] lt = refl
get_front (suc j) zero (x ∷ xs) lt = refl
get_front (suc j) (suc i) (x ∷ xs) lt = get_front j i xs (omega arith)

not_before : (xs ys : List ℕ) (i j : ℕ) → DifferAt xs ys i → DifferAt xs ys j → i < j → ⊥
not_before xs ys i j one other lt = one.here (sym (get_front j i xs lt) ∙ ap (λ l. slice_get l i) other.before ∙ get_front j i ys lt)

pub one_difference : (xs ys : List ℕ) (i j : ℕ) → DifferAt xs ys i → DifferAt xs ys j → i ≡ j
one_difference xs ys i j one other = by (less_or_not i j) (less_or_not j i)
  where
    by : (i < j) ⊎ (j ≤ i) → (j < i) ⊎ (i ≤ j) → i ≡ j
    by (inl lt) q = absurd (not_before xs ys i j one other lt)
    by (inr le) (inl lt) = absurd (not_before xs ys j i other one lt)
    by (inr le) (inr ge) = omega arith

pub not_itself : (xs : List ℕ) (at : ℕ) → DifferAt xs xs at → ⊥
not_itself xs at differ = differ.here refl
