-- A list in which the steps of the CPUs stand between those of BEGIN and END, in its three parts.
use Rattle.std.proofs.Common.{◌≡◌, ℕ, zero, suc, ◌+◌, ◌<◌, ◌≤◌, Bool, true, false, cond, not, List, [], ◌∷◌, ◌++◌, length, map, take, sym, refl, ap, ◌∙◌, subst, arith, append_assoc, eq-eqb, ne_eqb, eqb-true, length-append}
use Rattle.std.specs.List.{AllByRecursion, filter}
use Rattle.std.proofs.lemmas.Bool.{eqb-false}
use Rattle.std.proofs.lemmas.List.Elements.{filter-append}
use mathlib.Core.Logic.{dite}
use native.Mathlib.Decide.{ℕ_discrete}
use Rattle.bt_core.specs.declared.step.Step.{Step}
use Rattle.bt_core.specs.Interaction.{Interaction, Ended, Asks, Runs}
use Rattle.bt_core.specs.Steps.{is_of, of_actor}
use Rattle.weave.specs.Woven.{StandsBetween}
use Rattle.bt_meaning.specs.Serial.{unstamped}

module _ (main begun : ℕ) (steps : List Step) (between : StandsBetween main begun steps) where
  abbrev pub not_main : List Step → List Step
  not_main ss = filter (λ s. not (is_of main s)) ss

  one_more : (before : List Step) (s : Step) (rest : List Step) → steps ≡ before ++ s ∷ rest → steps ≡ (before ++ s ∷ []) ++ rest
  one_more before s rest e = e ∙ sym (append_assoc before (s ∷ []) rest)

  own_more : (before : List Step) (s : Step) → s.actor ≡ main → of_actor main (before ++ s ∷ []) ≡ of_actor main before ++ s ∷ []
  own_more before s e = filter-append (is_of main) before (s ∷ []) ∙ ap (λ (b : Bool). of_actor main before ++ cond b (s ∷ []) []) (eq-eqb s.actor main e)

  long_more : (before : List Step) (s : Step) → length (of_actor main before) ≤ length (of_actor main (before ++ s ∷ []))
  long_more before s = let e = ap length (filter-append (is_of main) before (s ∷ [])) in let l = length-append (of_actor main before) (of_actor main (s ∷ [])) in omega arith

  long_own : (before : List Step) (s : Step) → s.actor ≡ main → length (of_actor main before) < length (of_actor main (before ++ s ∷ []))
  long_own before s e = let q = ap length (own_more before s e) in let l = length-append (of_actor main before) (s ∷ []) in omega arith

  -- the steps before so many are the main actor's
  first_own : (k : ℕ) (before rest : List Step) → steps ≡ before ++ rest → of_actor main before ≡ before → length before + k ≡ begun → of_actor main (take k rest) ≡ take k rest
  first_own zero before rest e own count = refl
  first_own (suc k) before [] e own count = refl
  first_own (suc k) before (s ∷ ss) e own count = dite (ℕ_discrete s.actor main)
      (λ is. ap (λ (b : Bool). cond b (s ∷ of_actor main (take k ss)) (of_actor main (take k ss))) (eq-eqb s.actor main is)
      ∙ ap (λ l. s ∷ l) (first_own k (before ++ s ∷ []) ss (one_more before s ss e) (own_more before s is ∙ ap (λ l. l ++ s ∷ []) own) (let l = length-append before (s ∷ []) in omega arith)))
      (λ ne. absurd (let q = between before s ss e ne in let l = ap length own in omega arith))

  pub begin_own : of_actor main (take begun steps) ≡ take begun steps
  begin_own = first_own begun [] steps refl refl (omega arith)

  -- after a step of END all steps are the main actor's
  after_end : (before rest : List Step) → steps ≡ before ++ rest → begun < length (of_actor main before) → (not_main rest ≡ []) × (of_actor main rest ≡ rest)
  after_end before [] e lt = (refl, refl)
  after_end before (s ∷ ss) e lt = dite (ℕ_discrete s.actor main)
      (λ is. let r = after_end (before ++ s ∷ []) ss (one_more before s ss e) (let l = long_more before s in omega arith) in (
        ap (λ (b : Bool). cond (not b) (s ∷ not_main ss) (not_main ss)) (eq-eqb s.actor main is) ∙ r.0,
        ap (λ (b : Bool). cond b (s ∷ of_actor main ss) (of_actor main ss)) (eq-eqb s.actor main is) ∙ ap (λ l. s ∷ l) r.1,
      ))
      (λ ne. absurd (let q = between before s ss e ne in omega arith))

  -- after BEGIN the steps of the CPUs come first
  pub two_parts : (before rest : List Step) → steps ≡ before ++ rest → begun ≤ length (of_actor main before) → rest ≡ not_main rest ++ of_actor main rest
  two_parts before [] e le = refl
  two_parts before (s ∷ ss) e le = dite (ℕ_discrete s.actor main)
      (λ is. let r = after_end (before ++ s ∷ []) ss (one_more before s ss e) (let l = long_own before s is in omega arith) in
      sym ((λ i. (ap (λ (b : Bool). cond (not b) (s ∷ not_main ss) (not_main ss)) (eq-eqb s.actor main is) ∙ r.0) i
      ++ (ap (λ (b : Bool). cond b (s ∷ of_actor main ss) (of_actor main ss)) (eq-eqb s.actor main is) ∙ ap (λ l. s ∷ l) r.1) i)))
      (λ ne. ap (λ l. s ∷ l) (two_parts (before ++ s ∷ []) ss (one_more before s ss e) (let l = long_more before s in omega arith))
      ∙ sym (λ i. ap (λ (b : Bool). cond (not b) (s ∷ not_main ss) (not_main ss)) (ne_eqb s.actor main ne) i
      ++ ap (λ (b : Bool). cond b (s ∷ of_actor main ss) (of_actor main ss)) (ne_eqb s.actor main ne) i))

-- ---- what is kept of an actor

own_by : (a : ℕ) (s : Step) (rest : List Step) (b : Bool) → is_of a s ≡ b → (b ≡ true → s.actor ≡ a) → AllByRecursion (λ (s : Step). s.actor ≡ a) rest → AllByRecursion (λ (s : Step). s.actor ≡ a) (cond b (s ∷ rest) rest)
own_by a s rest true e is all = (is refl, all)
own_by a s rest false e is all = all

pub own_are : (a : ℕ) (ss : List Step) → AllByRecursion (λ (s : Step). s.actor ≡ a) (of_actor a ss)
own_are a [] = tt
own_are a (s ∷ ss) = own_by a s (of_actor a ss) (is_of a s) refl (λ e. eqb-true s.actor a e) (own_are a ss)

cpus_by : (main : ℕ) (s : Step) (rest : List Step) (b : Bool) → is_of main s ≡ b → (b ≡ false → s.actor < main) → AllByRecursion (λ (s : Step). s.actor < main) rest
    → AllByRecursion (λ (s : Step). s.actor < main) (cond (not b) (s ∷ rest) rest)
cpus_by main s rest true e is all = all
cpus_by main s rest false e is all = (is refl, all)

pub cpus_are : (main : ℕ) (ss : List Step) → AllByRecursion (λ (s : Step). s.actor ≤ main) ss → AllByRecursion (λ (s : Step). s.actor < main) (filter (λ s. not (is_of main s)) ss)
cpus_are main [] h = tt
cpus_are main (s ∷ ss) h = cpus_by main s (filter (λ s. not (is_of main s)) ss) (is_of main s) refl (λ e. let ne = eqb-false s.actor main e in let le = h.0 in omega arith) (cpus_are main ss h.1)

-- ---- runs and appended lists

pub plain_runs : {A : Type 0} (t : Interaction A) (ss : List Step) (a : A) → Runs t (map unstamped ss) a → Runs t ss a
plain_runs (Ended v) [] a r = r
plain_runs (Ended v) (s ∷ ss) a r = absurd r
plain_runs (Asks c f) [] a r = absurd r
plain_runs (Asks c f) (s ∷ ss) a r = (r.0, plain_runs (f s.reply) ss a r.1)

-- two runs that begin one list are as long
pub same_runs : {A : Type 0} (t : Interaction A) (xs ys us vs : List Step) (a b : A) → Runs t xs a → Runs t ys b → xs ++ us ≡ ys ++ vs → length xs ≡ length ys
same_runs (Ended v) [] [] us vs a b h g e = refl
same_runs (Ended v) [] (y ∷ ys) us vs a b h g e = absurd g
same_runs (Ended v) (x ∷ xs) ys us vs a b h g e = absurd h
same_runs (Asks c f) [] ys us vs a b h g e = absurd h
same_runs (Asks c f) (x ∷ xs) [] us vs a b h g e = absurd g
same_runs (Asks c f) (x ∷ xs) (y ∷ ys) us vs a b h g e =
    let p : x ≡ y = cc in let q : xs ++ us ≡ ys ++ vs = cc in
    let r = same_runs (f x.reply) xs ys us vs a b h.1 (subst (λ (z : Step). Runs (f z.reply) ys b) (sym p) g.1) q in omega arith

pub same_parts : {A : Type 0} (xs ys us vs : List A) → length xs ≡ length ys → xs ++ us ≡ ys ++ vs → (xs ≡ ys) × (us ≡ vs)
same_parts [] [] us vs l e = (refl, e)
same_parts [] (y ∷ ys) us vs l e = absurd (omega arith)
same_parts (x ∷ xs) [] us vs l e = absurd (omega arith)
same_parts (x ∷ xs) (y ∷ ys) us vs l e =
    let p : x ≡ y = cc in let q : xs ++ us ≡ ys ++ vs = cc in let r = same_parts xs ys us vs (omega arith) q in (λ i. p i ∷ r.0 i, r.1)
