-- Items taken one after the other.
use Rattle.std.proofs.Common.{◌≡◌, ℕ, ◌+◌, Bool, true, false, List, [], ◌∷◌, refl, sym, ap, ◌∙◌, subst, add-zero}
use Rattle.bt_core.specs.declared.step.Step.{Step}
use Rattle.bt_core.specs.Interaction.{Interaction, and_then, Ended, Left, Whole, Part}
use Rattle.bt_core.proofs.InteractionLaws.{Left-here, Left-and_then, Left-is, Left-Part, Left-Whole, Part-after, Part-and_then, Whole-and_then, Whole-Ended, and_then_assoc, and_then-Ended}
use Rattle.actor_plan.specs.declared.outcome.Outcome.{Outcome}
use Rattle.actor_plan.specs.Programs.{after_count, goes_on, items_program, then_program}
use Rattle.actor_plan.proofs.ProgramLaws.{after_none, then_counted, join, going}

module _ {I : Type 0} (checks : Bool) (work : I → Interaction ℕ) where
  abbrev pub program : List I → Interaction Outcome
  program = items_program checks work

  -- ---- one item

  abbrev pub ended : Interaction Outcome
  ended = Ended (record { to_end = true; instructions = 0 })

  pub check_fails : (i : I) (old new : List Step) → Part (goes_on checks) old new → Part (program (i ∷ [])) old new
  check_fails i old new part = Part-and_then (goes_on checks) (going checks work i ended) old new part

  pub stops : (i : I) (old new : List Step) (on : Bool) → on ≡ false → Whole (goes_on checks) old new on → Whole (program (i ∷ [])) old new (record { to_end = false; instructions = 0 })
  stops i old new on off whole =
      Whole-and_then (goes_on checks) (going checks work i ended) old new new on (record { to_end = false; instructions = 0 }) whole
      (subst (λ (b : Bool). Whole (going checks work i ended b) new new (record { to_end = false; instructions = 0 })) (sym off)
      (Whole-Ended (record { to_end = false; instructions = 0 }) (record { to_end = false; instructions = 0 }) new refl))

  pub work_fails : (i : I) (old mid new : List Step) (on : Bool) → on ≡ true → Whole (goes_on checks) old mid on → Part (work i) mid new → Part (program (i ∷ [])) old new
  work_fails i old mid new on yes_on whole part =
      Part-after (goes_on checks) (going checks work i ended) old mid new on whole
      (subst (λ (b : Bool). Part (going checks work i ended b) mid new) (sym yes_on)
      (Part-and_then (work i) (λ count. and_then ended (λ q. Ended (after_count count q))) mid new part))

  pub works : (i : I) (old mid new : List Step) (on : Bool) (n : ℕ) → on ≡ true → Whole (goes_on checks) old mid on → Whole (work i) mid new n → Whole (program (i ∷ [])) old new (record { to_end = true; instructions = n })
  works i old mid new on n yes_on whole done =
      Whole-and_then (goes_on checks) (going checks work i ended) old mid new on (record { to_end = true; instructions = n }) whole
      (subst (λ (b : Bool). Whole (going checks work i ended b) mid new (record { to_end = true; instructions = n })) (sym yes_on)
      (Whole-and_then (work i) (λ count. and_then ended (λ q. Ended (after_count count q))) mid new new n (record { to_end = true; instructions = n }) done
      (Whole-Ended (record { to_end = true; instructions = n + 0 }) (record { to_end = true; instructions = n }) new (ap (λ k. record { to_end = true; instructions = k }) (add-zero n)))))

  -- ---- many items

  -- items behind others that took so many instructions
  abbrev pub counted : ℕ → List I → Interaction Outcome
  counted total items = then_program (program items) (record { to_end = true; instructions = total })

  pub none_taken : (items : List I) (old : List Step) → Left (program items) old old (counted 0 items)
  none_taken items old = Left-is (program items) (program items) (counted 0 items) old old (Left-here (program items) old)
      (sym (ap (and_then (program items)) (λ i q. Ended (after_none q i)) ∙ and_then-Ended (program items)))

  one_more : (total : ℕ) (i : I) (items : List I) → counted total (i ∷ items) ≡ and_then (program (i ∷ [])) (λ o. then_program (program items) (after_count total o))
  one_more total i items =
      ap (λ (p : Interaction Outcome). and_then p (λ q. Ended (after_count total q))) (join checks work (i ∷ []) items)
      ∙ and_then_assoc (program (i ∷ [])) (then_program (program items)) (λ q. Ended (after_count total q))
      ∙ ap (and_then (program (i ∷ []))) (λ k o. sym (then_counted (program items) total o) k)

  module _ (items todo : List I) (total : ℕ) (old mid : List Step) (left : Left (program items) old mid (counted total todo)) where
    module _ (i : I) (others : List I) (is : todo ≡ i ∷ others) where
      abbrev pub rest : Outcome → Interaction Outcome
      rest o = then_program (program others) (after_count total o)

      next : Left (program items) old mid (and_then (program (i ∷ [])) rest)
      next = Left-is (program items) (counted total todo) (and_then (program (i ∷ [])) rest) old mid left
          (ap (counted total) is ∙ one_more total i others)

      pub item_stops : (new : List Step) → Part (program (i ∷ [])) mid new → Part (program items) old new
      item_stops new part = Left-Part (program items) (and_then (program (i ∷ [])) rest) old mid new next (Part-and_then (program (i ∷ [])) rest mid new part)

      taken : (new : List Step) (o : Outcome) (b : Bool) → o.to_end ≡ b → Whole (program (i ∷ [])) mid new o
          → Left (program items) old new (then_program (program others) (record { to_end = b; instructions = total + o.instructions }))
      taken new o b ends whole = subst (λ (z : Bool). Left (program items) old new (then_program (program others) (record { to_end = z; instructions = total + o.instructions }))) ends
          (Left-and_then (program items) (program (i ∷ [])) rest old mid new o next whole)

      pub item_ends : (new : List Step) (o : Outcome) → o.to_end ≡ false → Whole (program (i ∷ [])) mid new o
          → Whole (program items) old new (record { to_end = false; instructions = total + o.instructions })
      item_ends new o off whole = let value : Outcome = record { to_end = false; instructions = total + o.instructions } in
          Left-Whole (program items) (Ended value) old new new value (taken new o false off whole) (Whole-Ended value value new refl)

      pub one_item : (new : List Step) (o : Outcome) → o.to_end ≡ true → Whole (program (i ∷ [])) mid new o → Left (program items) old new (counted (total + o.instructions) others)
      one_item new o on whole = taken new o true on whole

    pub all_taken : todo ≡ [] → Whole (program items) old mid (record { to_end = true; instructions = total })
    all_taken none = let value : Outcome = record { to_end = true; instructions = total } in
        Left-Whole (program items) (counted total todo) old mid mid value left
        (subst (λ t. Whole t mid mid value) (sym (ap (counted total) none))
        (Whole-Ended (record { to_end = true; instructions = total + 0 }) value mid (ap (λ k. record { to_end = true; instructions = k }) (add-zero total))))
