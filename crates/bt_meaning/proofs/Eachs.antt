-- What holds of each member of a list.
use Rattle.std.proofs.Common.{◌≡◌, Bool, true, false, cond, List, [], ◌∷◌, ◌++◌, refl, ap, ◌∙◌, subst, inl, inr}
use Rattle.std.specs.List.{AllByRecursion, filter}
use Rattle.weave.proofs.Among.{Has}

module _ {A : Type 0} where
  pub each_has : (P : A → Type 0) (xs : List A) (z : A) → AllByRecursion P xs → Has xs z → P z
  each_has P [] z e h = absurd h
  each_has P (x ∷ xs) z e (inl q) = subst P q e.0
  each_has P (x ∷ xs) z e (inr h) = each_has P xs z e.1 h

  pub each_from : (P : A → Type 0) (xs : List A) → ((z : A) → Has xs z → P z) → AllByRecursion P xs
  each_from P [] f = tt
  each_from P (x ∷ xs) f = (f x (inl refl), each_from P xs (λ z h. f z (inr h)))

  pub each_so : (P Q : A → Type 0) → ((z : A) → P z → Q z) → (xs : List A) → AllByRecursion P xs → AllByRecursion Q xs
  each_so P Q so [] h = tt
  each_so P Q so (x ∷ xs) h = (so x h.0, each_so P Q so xs h.1)

  pub each_both : (P : A → Type 0) (xs ys : List A) → AllByRecursion P xs → AllByRecursion P ys → AllByRecursion P (xs ++ ys)
  each_both P [] ys h g = g
  each_both P (x ∷ xs) ys h g = (h.0, each_both P xs ys h.1 g)

  pub each_front : (P : A → Type 0) (xs ys : List A) → AllByRecursion P (xs ++ ys) → AllByRecursion P xs
  each_front P [] ys h = tt
  each_front P (x ∷ xs) ys h = (h.0, each_front P xs ys h.1)

  pub each_back : (P : A → Type 0) (xs ys : List A) → AllByRecursion P (xs ++ ys) → AllByRecursion P ys
  each_back P [] ys h = h
  each_back P (x ∷ xs) ys h = each_back P xs ys h.1

  pub each_kept : (P : A → Type 0) (p : A → Bool) (xs : List A) → AllByRecursion P xs → AllByRecursion P (filter p xs)
  each_kept P p [] h = tt
  each_kept P p (x ∷ xs) h = elim (p x) as (λ b. AllByRecursion P (cond b (x ∷ filter p xs) (filter p xs)))
      [ true ↦ (h.0, each_kept P p xs h.1) | false ↦ each_kept P p xs h.1 ]

  pub filter_all : (p : A → Bool) (xs : List A) → AllByRecursion (λ x. p x ≡ true) xs → filter p xs ≡ xs
  filter_all p [] e = refl
  filter_all p (x ∷ xs) e = ap (λ b. cond b (x ∷ filter p xs) (filter p xs)) e.0 ∙ ap (λ l. x ∷ l) (filter_all p xs e.1)

  pub filter_none : (p : A → Bool) (xs : List A) → AllByRecursion (λ x. p x ≡ false) xs → filter p xs ≡ []
  filter_none p [] e = refl
  filter_none p (x ∷ xs) e = ap (λ b. cond b (x ∷ filter p xs) (filter p xs)) e.0 ∙ filter_none p xs e.1
