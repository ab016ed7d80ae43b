-- Cuts of lists of steps.
use Rattle.std.proofs.Common.{◌≡◌, ◌≢◌, ◌⊎◌, ℕ, zero, suc, ◌≤◌, List, [], ◌∷◌, ◌++◌, length, map, take, sym, refl, ap, ◌∙◌, subst, arith, inl, inr}
use Rattle.std.proofs.lemmas.List.{append_assoc, length-append}
use Rattle.std.specs.List.{AllByRecursion}
use mathlib.Core.Logic.{dite}
use native.Mathlib.Decide.{ℕ_discrete}
use Rattle.bt_core.specs.declared.step.Step.{Step}
use Rattle.bt_core.specs.Steps.{of_actor, AtEach}
use Rattle.bt_core.proofs.StepLists.{of_actor-own, of_actor-other}

pub AtEach-front : (P : List Step → Step → Type 0) (xs ys : List Step) → AtEach P (xs ++ ys) → AtEach P xs
AtEach-front P xs ys h before s after e = h before s (after ++ ys) (ap (λ l. l ++ ys) e ∙ append_assoc before (s ∷ after) ys)

pub each_of_cuts : (P : Step → Type 0) (bs xs : List Step) → AtEach (λ before s. P s) (bs ++ xs) → AllByRecursion P xs
each_of_cuts P bs [] h = tt
each_of_cuts P bs (x ∷ xs) h = (h bs x xs refl, each_of_cuts P (bs ++ x ∷ []) xs (subst (AtEach (λ before s. P s)) (sym (append_assoc bs (x ∷ []) xs)) h))

pub cuts_of_each : (P : Step → Type 0) (xs : List Step) → AllByRecursion P xs → AtEach (λ before s. P s) xs
cuts_of_each P xs h before s after e = at before (subst (AllByRecursion P) e h)
  where
    at : (bs : List Step) → AllByRecursion P (bs ++ s ∷ after) → P s
    at [] g = g.0
    at (b ∷ bs) g = at bs g.1

-- two cuts of a list, the second not before the first
pub cut_twice : (before : List Step) (s : Step) (after bs : List Step) (u : Step) (cs : List Step) → before ++ s ∷ after ≡ bs ++ u ∷ cs → length before ≤ length bs
    → (s ≡ u) ⊎ ((more : List Step) × (bs ≡ before ++ s ∷ more))
cut_twice [] s after [] u cs e le = let q : s ≡ u = cc in inl q
cut_twice [] s after (b ∷ bs) u cs e le = let q : b ≡ s = cc in inr (bs, ap (λ x. x ∷ bs) q)
cut_twice (z ∷ zs) s after [] u cs e le = absurd (omega arith)
cut_twice (z ∷ zs) s after (b ∷ bs) u cs e le =
    let head : b ≡ z = cc in
    let tail : zs ++ s ∷ after ≡ bs ++ u ∷ cs = cc in
    elim (cut_twice zs s after bs u cs tail (omega arith)) [
      | inl q ↦ inl q
      | inr q ↦ inr (q.0, (λ i. head i ∷ q.1 i))
    ]

-- where each step that is another's cannot be, all are the actor's
pub all_own : (main : ℕ) (bs xs : List Step) → ((before : List Step) (s : Step) (after : List Step) → bs ++ xs ≡ before ++ s ∷ after → s.actor ≢ main → ⊥) → of_actor main xs ≡ xs
all_own main bs [] none = refl
all_own main bs (x ∷ xs) none = dite (ℕ_discrete x.actor main)
    (λ own. of_actor-own main [] x xs own ∙ ap (λ l. x ∷ l) (all_own main (bs ++ x ∷ []) xs (λ before s after e ne. none before s after (sym (append_assoc bs (x ∷ []) xs) ∙ e) ne)))
    (λ ne. absurd (none bs x xs refl ne))

pub none_own : (a : ℕ) (bs xs : List Step) → ((before : List Step) (s : Step) (after : List Step) → bs ++ xs ≡ before ++ s ∷ after → length bs ≤ length before → s.actor ≡ a → ⊥) → of_actor a xs ≡ []
none_own a bs [] none = refl
none_own a bs (x ∷ xs) none = dite (ℕ_discrete x.actor a)
    (λ own. absurd (none bs x xs refl (omega arith) own))
    (λ ne. of_actor-other a [] x xs ne ∙ none_own a (bs ++ x ∷ []) xs (λ before s after e le own.
    none before s after (sym (append_assoc bs (x ∷ []) xs) ∙ e) (let k = length-append bs (x ∷ []) in omega arith) own))

pub take_again : {X : Type 0} (i j : ℕ) (xs : List X) → i ≤ j → take i (take j xs) ≡ take i xs
take_again zero j xs le = refl
take_again (suc i) zero xs le = absurd (omega arith)
take_again (suc i) (suc j) [] le = refl
take_again (suc i) (suc j) (x ∷ xs) le = ap (λ l. x ∷ l) (take_again i j xs (omega arith))

pub record LastApart {X Y : Type 0} (f : X → Y) (xs : List X) (ys : List Y) (y : Y) : Type 0 where
  pub front : List X
  pub last : X
  pub whole : xs ≡ front ++ last ∷ []
  pub fronts : map f front ≡ ys
  pub lasts : f last ≡ y

pub last_apart : {X Y : Type 0} (f : X → Y) (xs : List X) (ys : List Y) (y : Y) → map f xs ≡ ys ++ y ∷ [] → LastApart f xs ys y
last_apart f [] [] y e = absurd (let q : ⊥ = cc in q)
last_apart f [] (z ∷ zs) y e = absurd (let q : ⊥ = cc in q)
last_apart f (x ∷ []) [] y e = record { front = []; last = x; whole = refl; fronts = refl; lasts = cc }
last_apart f (x ∷ w ∷ ws) [] y e = absurd (let q : ⊥ = cc in q)
last_apart f (x ∷ xs) (z ∷ zs) y e =
    let head : f x ≡ z = cc in
    let tail : map f xs ≡ zs ++ y ∷ [] = cc in
    let r = last_apart f xs zs y tail in
    record { front = x ∷ r.front; last = r.last; whole = ap (λ l. x ∷ l) r.whole; fronts = (λ i. head i ∷ r.fronts i); lasts = r.lasts }
