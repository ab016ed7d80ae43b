-- The text of steps, step by step.
use Rattle.std.proofs.Common.{◌≡◌, ◌++◌, ◌+◌, ℕ, zero, suc, ◌<◌, ◌≤◌, List, [], ◌∷◌, length, take, get_or, sym, ap, ◌∙◌, subst, arith}
use Rattle.std.specs.List.{AllByRecursion, flat_map}
use Rattle.std.proofs.lemmas.List.{take_all, take_more}
use Rattle.std.proofs.lemmas.List.Concat.{flat_map-append}
use Rattle.std.proofs.lemmas.List.Elements.{filter_map-append}
use Rattle.bt_core.specs.declared.item.Item.{Item}
use Rattle.bt_core.specs.declared.step.Step.{Step}
use Rattle.bt_meaning.specs.Prints.{emitted, item_in}

pub at_place : (P : Step → Type 0) (steps : List Step) (i : ℕ) (s : Step) → i < length steps → s ≡ get_or steps i s → AllByRecursion P steps → P s
at_place P [] i s lt at h = absurd (omega arith)
at_place P (x ∷ xs) zero s lt at h = subst P (sym at) h.0
at_place P (x ∷ xs) (suc i) s lt at h = at_place P xs i s (omega arith) at h.1

module _ (f : Item → List ℕ) where
  -- with one step more
  pub next_text : (steps : List Step) (i : ℕ) (s : Step) (old new : List ℕ) → i < length steps → s ≡ get_or steps i s → old ≡ flat_map f (emitted (take i steps))
      → new ≡ old ++ flat_map f (emitted (s ∷ [])) → new ≡ flat_map f (emitted (take (i + 1) steps))
  next_text steps i s old new lt at was more =
      let one : take (i + 1) steps ≡ take i steps ++ s ∷ [] = take_more steps i s lt ∙ ap (λ x. take i steps ++ x ∷ []) (sym at) in
      more ∙ ap (λ l. l ++ flat_map f (emitted (s ∷ []))) was ∙ sym (flat_map-append f (emitted (take i steps)) (emitted (s ∷ [])))
      ∙ ap (flat_map f) (sym (filter_map-append (λ (z : Step). item_in z.op) (take i steps) (s ∷ []))) ∙ ap (λ l. flat_map f (emitted l)) (sym one)

  -- of all steps
  pub all_texts : (steps : List Step) (i : ℕ) (text : List ℕ) → length steps ≤ i → text ≡ flat_map f (emitted (take i steps)) → text ≡ flat_map f (emitted steps)
  all_texts steps i text done e = e ∙ ap (λ l. flat_map f (emitted l)) (take_all i steps done)
