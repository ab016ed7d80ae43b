-- A function changed at one number, and how many callers wait.
use Rattle.std.proofs.Common.{MatchBool, subst, ◌≡◌, ◌≢◌, ◌⊎◌, ℕ, zero, suc, ◌+◌, ◌<◌, ◌≤◌, Bool, cond, eqb, List, [], ◌∷◌, ◌++◌, length, sym, refl, ap, ◌∙◌, inl, inr, ⊎_elim, arith, eq-eqb, ne_eqb}
use mathlib.Core.Logic.{dite}
use mathlib.Core.Option.{some, some-injective, some-ne-none}
use native.Mathlib.Decide.{ℕ_discrete}
use lib.ListN.{get_elem?}
use Rattle.turn_lock.specs.declared.view.Stage.{Stage}
use Rattle.turn_lock.specs.declared.view.Stage.TheVariants.{Idle, Waits, Holds}
use Rattle.turn_lock.specs.Turns.{Part, busy, waiting}

abbrev pub put : {A : Type 0} → (ℕ → A) → ℕ → A → ℕ → A
put f i a j = cond (eqb j i) a (f j)

module _ {A : Type 0} where
  pub put_here : (f : ℕ → A) (i : ℕ) (a : A) → put f i a i ≡ a
  put_here f i a = ap (λ (b : Bool). cond b a (f i)) (eq-eqb i i refl)

  pub put_else : (f : ℕ → A) (i : ℕ) (a : A) (j : ℕ) → j ≢ i → put f i a j ≡ f j
  put_else f i a j other = ap (λ (b : Bool). cond b a (f j)) (ne_eqb j i other)

  pub at_snoc_place : (l : List A) (a b : A) (j : ℕ) → get_elem? (l ++ a ∷ []) j ≡ some b → (get_elem? l j ≡ some b) ⊎ ((j ≡ length l) × (a ≡ b))
  at_snoc_place [] a b zero e = inr (refl, some-injective a b e)
  at_snoc_place [] a b (suc j) e = absurd (some-ne-none b (sym e))
  at_snoc_place (x ∷ xs) a b zero e = inl e
  at_snoc_place (x ∷ xs) a b (suc j) e = ⊎_elim inl (λ (t : (j ≡ length xs) × (a ≡ b)). inr (ap suc t.0, t.1)) (at_snoc_place xs a b j e)

busy-le : (s : Stage) → busy s ≤ 1
busy-le Idle = omega arith
busy-le (Waits t) = omega arith
busy-le (Holds h) = omega arith

pub waiting-le : (n : ℕ) (f : ℕ → Part) → waiting n f ≤ n
waiting-le zero f = omega arith
waiting-le (suc n) f = let a = waiting-le n f in let b = busy-le (f n).stage in omega arith

waiting_else : (n : ℕ) (f : ℕ → Part) (c : ℕ) (p : Part) → n ≤ c → waiting n (put f c p) ≡ waiting n f
waiting_else zero f c p le = refl
waiting_else (suc n) f c p le = let a = waiting_else n f c p (omega arith) in let ne : n ≢ c = λ e. omega arith in
    let b = ap (λ (q : Part). busy q.stage) (put_else f c p n ne) in (λ i. a i + b i)

pub waiting_put : (n : ℕ) (f : ℕ → Part) (c : ℕ) (p : Part) → c < n → waiting n (put f c p) + busy (f c).stage ≡ waiting n f + busy p.stage
waiting_put zero f c p lt = absurd (omega arith)
waiting_put (suc n) f c p lt = dite (ℕ_discrete n c)
    (λ e. let a = waiting_else n f c p (omega arith) in let b : busy (put f c p n).stage ≡ busy p.stage = ap (λ (k : ℕ). busy (put f c p k).stage) e
    ∙ ap (λ (q : Part). busy q.stage) (put_here f c p) in
    let d : busy (f n).stage ≡ busy (f c).stage = ap (λ (k : ℕ). busy (f k).stage) e in omega arith)
    (λ ne. let a = waiting_put n f c p (omega arith) in let b = ap (λ (q : Part). busy q.stage) (put_else f c p n ne) in omega arith)

-- what holds of two numbers that are equal, and of two that are not, by their test
pub by_test : (a b : ℕ) (P Q : Type 0) → (a ≡ b → P) → (a ≢ b → Q) → MatchBool (eqb a b) P Q
by_test a b P Q same other = dite (ℕ_discrete a b) (λ e. subst (λ (t : Bool). MatchBool t P Q) (sym (eq-eqb a b e)) (same e))
    (λ ne. subst (λ (t : Bool). MatchBool t P Q) (sym (ne_eqb a b ne)) (other ne))
