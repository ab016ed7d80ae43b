-- What a list has of one actor stays where another's items change.
use Rattle.std.proofs.Common.{◌≡◌, ◌≢◌, ℕ, Bool, true, false, cond, List, [], ◌∷◌, map, take, drop, get_or, sym, refl, ap, ◌∙◌, ne_eqb}
use Rattle.std.proofs.lemmas.List.{take-map, drop-map}
use Rattle.std.proofs.Math.ListN.{get_or-map}
use mathlib.Core.Logic.{dite}
use native.Mathlib.Decide.{ℕ_discrete}
use Rattle.bt_core.specs.declared.step.Step.{Step}
use Rattle.bt_core.specs.Steps.{is_of, of_actor}
use Rattle.bt_core.proofs.StepLists.{of_actor-own, of_actor-other}
use Rattle.step_entries.specs.Blank.{blank_of, without_item}

module _ (b : ℕ) where
  blank_actor : (s : Step) → (blank_of b s).actor ≡ s.actor
  blank_actor s = by_test (is_of b s)
    where
      by_test : (c : Bool) → (cond c (without_item s) s).actor ≡ s.actor
      by_test true = refl
      by_test false = refl

  module _ (old new : List Step) (same : map (blank_of b) new ≡ map (blank_of b) old) where
    pub actor_same : (n : ℕ) (d : Step) → (get_or new n d).actor ≡ (get_or old n d).actor
    actor_same n d =
        sym (blank_actor (get_or new n d)) ∙ ap (λ (s : Step). s.actor) (sym (get_or-map (blank_of b) new n d) ∙ ap (λ l. get_or l n (blank_of b d)) same ∙ get_or-map (blank_of b) old n d)
        ∙ blank_actor (get_or old n d)

  module _ (a : ℕ) (ne : a ≢ b) where
    blank_other : (s : Step) → s.actor ≡ a → blank_of b s ≡ s
    blank_other s own = ap (λ (c : Bool). cond c (without_item s) s) (ne_eqb s.actor b (λ e. ne (sym own ∙ e)))

    seen_through : (xs : List Step) → of_actor a (map (blank_of b) xs) ≡ of_actor a xs
    seen_through [] = refl
    seen_through (x ∷ xs) = dite (ℕ_discrete x.actor a)
        (λ own. of_actor-own a [] (blank_of b x) (map (blank_of b) xs) (blank_actor x ∙ own) ∙ (λ i. blank_other x own i ∷ seen_through xs i) ∙ sym (of_actor-own a [] x xs own))
        (λ other. of_actor-other a [] (blank_of b x) (map (blank_of b) xs) (λ e. other (sym (blank_actor x) ∙ e)) ∙ seen_through xs ∙ sym (of_actor-other a [] x xs other))

    module _ (old new : List Step) (same : map (blank_of b) new ≡ map (blank_of b) old) where
      pub front_same : (n : ℕ) → of_actor a (take n new) ≡ of_actor a (take n old)
      front_same n =
          sym (seen_through (take n new)) ∙ ap (of_actor a) (sym (take-map (blank_of b) n new) ∙ ap (take n) same ∙ take-map (blank_of b) n old) ∙ seen_through (take n old)

      pub back_same : (n : ℕ) → of_actor a (drop n new) ≡ of_actor a (drop n old)
      back_same n =
          sym (seen_through (drop n new)) ∙ ap (of_actor a) (sym (drop-map (blank_of b) n new) ∙ ap (drop n) same ∙ drop-map (blank_of b) n old) ∙ seen_through (drop n old)
