-- What following one computation through a list tells.
use Rattle.std.proofs.Common.{◌≡◌, List, [], ◌∷◌, ◌++◌, sym, ap, ◌∙◌, subst}
use Rattle.std.proofs.lemmas.List.{append-nil}
use Rattle.bt_core.specs.declared.step.Step.{Step}
use Rattle.bt_core.specs.Interaction.{call_of, Interaction, Begins, Runs}
use Rattle.step_entries.specs.Blank.{blank_call}
use Rattle.step_entries.proofs.Computations.{Begins-front, Runs-Begins-all, whole_ends, next_is_one}
use Rattle.account_follow.specs.Followed.{Followed}

module _ {A : Type 0} (t : Interaction A) where
  pub followed_begins : (xs strays rest : List Step) → Followed t xs strays rest → Begins t xs
  followed_begins xs strays rest f = Begins-front t xs strays (Runs-Begins-all t (xs ++ strays) f.value f.runs)

  -- what the list has next, it does not do
  pub never_next : (xs strays : List Step) (n : Step) (rest : List Step) → Followed t xs strays (n ∷ rest) → (v : Step) → blank_call (call_of v) ≡ blank_call (call_of n)
      → Begins t (xs ++ v ∷ []) → ⊥
  never_next xs [] n rest f v e h = whole_ends t xs v [] f.value (subst (λ l. Runs t l f.value) (append-nil xs) f.runs) h
  never_next xs (s ∷ ss) n rest f v e h =
      f.off (sym e ∙ ap blank_call (sym (next_is_one t xs s v ss [] (Runs-Begins-all t (xs ++ s ∷ ss) f.value f.runs) h)))
