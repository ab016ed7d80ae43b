-- Lists of two.
use Rattle.std.proofs.Common.{◌≡◌, refl, ℕ, ◌++◌, zero, suc, ◌<◌, List, [], ◌∷◌, length, get_or, sym, ap, ◌∙◌, subst, arith}
use Rattle.std.specs.List.{remove}

module _ {A : Type 0} (P : A → Type 0) (a b : A) (p : P a) (q : P b) where
  at_both : (i : ℕ) (d : A) → i < length (a ∷ b ∷ []) → P (get_or (a ∷ b ∷ []) i d)
  at_both zero d lt = p
  at_both (suc zero) d lt = q
  at_both (suc (suc i)) d lt = absurd (omega (arith, lt))

  -- what holds of both holds at each place
  pub each_of_two : (xs : List A) → xs ≡ a ∷ b ∷ [] → (i : ℕ) (d : A) → i < length xs → P (get_or xs i d)
  each_of_two xs e = subst (λ l. (i : ℕ) (d : A) → i < length l → P (get_or l i d)) (sym e) at_both

module _ {A : Type 0} (Q : A → A → Type 0) (a b : A) (old new left : List A) (one other : A) (olds : old ≡ a ∷ b ∷ []) (same : length new ≡ length old)
    (ran : (i : ℕ) (d : A) → i < length old → Q (get_or old i d) (get_or new i d)) where
  -- what is taken out at the place 1
  pub second_taken : other ≡ get_or new 1 other → Q b other
  second_taken at = let e = ap length olds in
      subst (Q b) (sym at) (subst (λ l. Q (get_or l 1 other) (get_or new 1 other)) olds (ran 1 other (omega (arith, e))))

  -- and then at the place 0
  pub first_taken : left ≡ remove new 1 → one ≡ get_or left 0 one → Q a one
  first_taken rest at = let e = ap length olds in
      subst (Q a) (sym (at ∙ ap (λ l. get_or l 0 one) rest ∙ front new (let p : 0 < length new = omega (arith, e, same) in p)))
      (subst (λ l. Q (get_or l 0 one) (get_or new 0 one)) olds (ran 0 one (omega (arith, e))))
    where
      front : (xs : List A) → 0 < length xs → get_or (remove xs 1) 0 one ≡ get_or xs 0 one
      front [] lt = absurd (omega (arith, lt))
      front (x ∷ xs) lt = refl

-- two that are pushed into an empty list
pub two_pushed : {A : Type 0} (xs ys zs : List A) (a b : A) → xs ≡ [] → ys ≡ xs ++ a ∷ [] → zs ≡ ys ++ b ∷ [] → zs ≡ a ∷ b ∷ []
two_pushed xs ys zs a b none one two = two ∙ ap (λ l. l ++ b ∷ []) (one ∙ ap (λ l. l ++ a ∷ []) none)
