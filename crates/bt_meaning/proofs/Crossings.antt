-- How often a tick is crossed in a list, actor by actor.
use Rattle.std.proofs.Common.{◌≡◌, ◌≢◌, ℕ, zero, suc, ◌+◌, ◌<◌, ◌≤◌, ◌&&◌, Bool, true, false, cond, List, [], ◌∷◌, ◌++◌, map, sym, refl, ap, ◌∙◌, subst, inl, inr, arith, eq-eqb, ne_eqb}
use Rattle.std.specs.List.{AllByRecursion, count_by}
use Rattle.std.proofs.lemmas.List.Sums.{sum_by-cons}
use mathlib.Core.Logic.{dite}
use native.Mathlib.Decide.{ℕ_discrete}
use Rattle.bt_core.specs.declared.step.ObjectId.TheVariants.{Clock}
use Rattle.bt_core.specs.declared.step.Op.{Op}
use Rattle.bt_core.specs.declared.step.Step.{Step}
use Rattle.bt_core.specs.Steps.{of_actor, is_on, on_object, operations, operation}
use Rattle.agg_core.specs.Answers.{is_cross}
use Rattle.weave.proofs.Among.{Has}
use Rattle.weave.proofs.Less.{less_or_not}
use Rattle.bt_meaning.specs.Ticks.{is_crossing}

small : {A : Type 0} (a n : ℕ) → (a < n → A) → (n ≤ a → A) → A
small a n f g = elim (less_or_not a n) [ inl h ↦ f h | inr h ↦ g h ]

module _ (k : ℕ) where
  abbrev pub mark : Step → ℕ
  mark s = cond (is_crossing k s) 1 0

  abbrev pub marks : List Step → ℕ
  marks [] = 0
  marks (s ∷ ss) = mark s + marks ss

  pub marks_append : (xs ys : List Step) → marks (xs ++ ys) ≡ marks xs + marks ys
  marks_append [] ys = omega arith
  marks_append (x ∷ xs) ys = let r = marks_append xs ys in omega arith

  pub marks_has : (ss : List Step) (s : Step) → Has ss s → is_crossing k s ≡ true → 1 ≤ marks ss
  marks_has [] s h c = absurd h
  marks_has (x ∷ xs) s (inl e) c = let a : mark x ≡ 1 = ap mark e ∙ ap (λ (b : Bool). cond b 1 0) c in omega arith
  marks_has (x ∷ xs) s (inr h) c = let r = marks_has xs s h c in omega arith

  op_cond : (b c : Bool) (s : Step) (ss : List Step) → is_cross k s.op ≡ c → count_by (is_cross k) (map operation (cond b (s ∷ ss) ss)) ≡ cond (b && c) 1 0 + count_by (is_cross k) (map operation ss)
  op_cond true c s ss e = sum_by-cons (λ (o : Op). cond (is_cross k o) 1 0) s.op (map operation ss) ∙ ap (λ (b : Bool). cond b 1 0 + count_by (is_cross k) (map operation ss)) e
  op_cond false c s ss e = omega arith

  -- counted by the operations at the clock
  pub marks_at : (ss : List Step) → count_by (is_cross k) (operations (on_object Clock ss)) ≡ marks ss
  marks_at [] = refl
  marks_at (s ∷ ss) = op_cond (is_on Clock s) (is_cross k s.op) s (on_object Clock ss) refl ∙ ap (λ (n : ℕ). mark s + n) (marks_at ss)

  of_here : (a : ℕ) (s : Step) (ss : List Step) → s.actor ≡ a → marks (of_actor a (s ∷ ss)) ≡ mark s + marks (of_actor a ss)
  of_here a s ss e = ap (λ (b : Bool). marks (cond b (s ∷ of_actor a ss) (of_actor a ss))) (eq-eqb s.actor a e)

  of_other : (a : ℕ) (s : Step) (ss : List Step) → s.actor ≢ a → marks (of_actor a (s ∷ ss)) ≡ marks (of_actor a ss)
  of_other a s ss e = ap (λ (b : Bool). marks (cond b (s ∷ of_actor a ss) (of_actor a ss))) (ne_eqb s.actor a e)

  -- the crossings of the first n actors
  abbrev pub total : ℕ → List Step → ℕ
  total zero ss = 0
  total (suc n) ss = total n ss + marks (of_actor n ss)

  total_none : (n : ℕ) → total n [] ≡ 0
  total_none zero = refl
  total_none (suc n) = let r = total_none n in omega arith

  total_out : (n : ℕ) (s : Step) (ss : List Step) → n ≤ s.actor → total n (s ∷ ss) ≡ total n ss
  total_out zero s ss le = refl
  total_out (suc n) s ss le = let r = total_out n s ss (omega arith) in let a = of_other n s ss (λ w. omega arith) in omega arith

  total_in : (n : ℕ) (s : Step) (ss : List Step) → s.actor < n → total n (s ∷ ss) ≡ mark s + total n ss
  total_in zero s ss lt = absurd (omega arith)
  total_in (suc n) s ss lt = dite (ℕ_discrete s.actor n)
      (λ e. let r = total_out n s ss (omega arith) in let a = of_here n s ss e in omega arith)
      (λ ne. let r = total_in n s ss (omega arith) in let a = of_other n s ss ne in omega arith)

  mark_one : (b : Bool) → ¬ (let n : ℕ = cond b 1 0 in n ≡ 0) → b ≡ true
  mark_one true ne = refl
  mark_one false ne = absurd (ne refl)

  pub total_all : (n : ℕ) (ss : List Step) → AllByRecursion (λ s. is_crossing k s ≡ true → s.actor < n) ss → marks ss ≡ total n ss
  total_all n [] e = sym (total_none n)
  total_all n (s ∷ ss) e = let r = total_all n ss e.1 in dite (ℕ_discrete (mark s) 0)
      (λ z. small (s.actor) n (λ lt. let a = total_in n s ss lt in omega arith) (λ le. let a = total_out n s ss le in omega arith))
      (λ nz. let a = total_in n s ss (e.0 (mark_one (is_crossing k s) nz)) in omega arith)

  total_most : (n : ℕ) (ss : List Step) → ((c : ℕ) → c < n → marks (of_actor c ss) ≤ 1) → total n ss ≤ n
  total_most zero ss f = omega arith
  total_most (suc n) ss f = let a = f n (omega arith) in let r = total_most n ss (λ c lt. f c (omega arith)) in omega arith

  one_less : (n a : ℕ) (ss : List Step) → ((c : ℕ) → c < n → marks (of_actor c ss) ≤ 1) → a < n → marks (of_actor a ss) ≡ 0 → total n ss + 1 ≤ n
  one_less zero a ss f lt z = absurd (omega arith)
  one_less (suc n) a ss f lt z = let h = f n (omega arith) in dite (ℕ_discrete a n)
      (λ e. let w : marks (of_actor n ss) ≡ 0 = subst (λ (c : ℕ). marks (of_actor c ss) ≡ 0) e z in let r = total_most n ss (λ c l. f c (omega arith)) in omega arith)
      (λ ne. let r = one_less n a ss (λ c l. f c (omega arith)) (omega arith) z in omega arith)

  pub two_less : (n a b : ℕ) (ss : List Step) → ((c : ℕ) → c < n → marks (of_actor c ss) ≤ 1) → a < n → b < n → a ≢ b → marks (of_actor a ss) ≡ 0 → marks (of_actor b ss) ≡ 0 → total n ss + 2 ≤ n
  two_less zero a b ss f la lb ne za zb = absurd (omega arith)
  two_less (suc n) a b ss f la lb ne za zb = let h = f n (omega arith) in dite (ℕ_discrete a n)
      (λ e. let w : marks (of_actor n ss) ≡ 0 = subst (λ (c : ℕ). marks (of_actor c ss) ≡ 0) e za in let r = one_less n b ss (λ c l. f c (omega arith)) (omega arith) zb in omega arith)
      (λ na. dite (ℕ_discrete b n)
      (λ e. let w : marks (of_actor n ss) ≡ 0 = subst (λ (c : ℕ). marks (of_actor c ss) ≡ 0) e zb in let r = one_less n a ss (λ c l. f c (omega arith)) (omega arith) za in omega arith)
      (λ nb. let r = two_less n a b ss (λ c l. f c (omega arith)) (omega arith) (omega arith) ne za zb in omega arith))
