-- The program of some items and then others.
use Rattle.bt_core.specs.declared.step.Step.{Step}
use Rattle.std.proofs.Common.{◌≡◌, ℕ, ◌+◌, Bool, true, false, List, [], ◌∷◌, ◌++◌, refl, sym, ap, ◌∙◌, add_assoc, zero-add, if◌then◌else◌, length, arith, length-append, ◌<◌}
use Rattle.bt_core.specs.Interaction.{Interaction, Ended, and_then}
use Rattle.bt_core.proofs.InteractionLaws.{and_then_assoc, and_then-Ended}
use Rattle.actor_plan.specs.declared.outcome.Outcome.{Outcome}
use Rattle.actor_plan.specs.Programs.{after_count, goes_on, items_program, then_program}

pub after_none : (o : Outcome) → after_count 0 o ≡ o
after_none o = ap (λ n. record { to_end = o.to_end; instructions = n }) (zero-add o.instructions)

after_both : (m n : ℕ) (o : Outcome) → after_count (m + n) o ≡ after_count m (after_count n o)
after_both m n o = ap (λ k. record { to_end = o.to_end; instructions = k }) (add_assoc m n o.instructions)

-- with a count before it
then_counted_by : (rest : Interaction Outcome) (n m : ℕ) (b : Bool) → then_program rest (record { to_end = b; instructions = n + m }) ≡ and_then (then_program rest (record { to_end = b; instructions = m })) (λ q. Ended (after_count n q))
then_counted_by rest n m true =
    ap (and_then rest) (λ i q. Ended (after_both n m q i)) ∙ sym (and_then_assoc rest (λ q. Ended (after_count m q)) (λ q. Ended (after_count n q)))
then_counted_by rest n m false = refl

pub then_counted : (rest : Interaction Outcome) (n : ℕ) (o : Outcome) → then_program rest (after_count n o) ≡ and_then (then_program rest o) (λ q. Ended (after_count n q))
then_counted rest n o = then_counted_by rest n o.instructions o.to_end

module _ {I : Type 0} (checks : Bool) (work : I → Interaction ℕ) where
  abbrev pub program : List I → Interaction Outcome
  program = items_program checks work

  -- what follows the question whether to go on, where this is done behind the item
  abbrev pub going : I → Interaction Outcome → Bool → Interaction Outcome
  going i rest on = if on then and_then (work i) (λ count. and_then rest (λ q. Ended (after_count count q))) else Ended (record { to_end = false; instructions = 0 })

  going_then : (i : I) (first rest : Interaction Outcome) (on : Bool) → going i (and_then first (then_program rest)) on ≡ and_then (going i first on) (then_program rest)
  going_then i first rest true =
      ap (and_then (work i)) (λ k n. (and_then_assoc first (then_program rest) (λ q. Ended (after_count n q))
      ∙ ap (and_then first) (λ j o. sym (then_counted rest n o) j)
      ∙ sym (and_then_assoc first (λ q. Ended (after_count n q)) (then_program rest))) k)
      ∙ sym (and_then_assoc (work i) (λ n. and_then first (λ q. Ended (after_count n q))) (then_program rest))
  going_then i first rest false = refl

  pub join : (front back : List I) → program (front ++ back) ≡ and_then (program front) (then_program (program back))
  join [] back = sym (ap (and_then (program back)) (λ i q. Ended (after_none q i)) ∙ and_then-Ended (program back))
  join (i ∷ is) back =
      ap (λ (p : Interaction Outcome). and_then (goes_on checks) (going i p)) (join is back)
      ∙ ap (and_then (goes_on checks)) (λ k on. going_then i (program is) (program back) on k)
      ∙ sym (and_then_assoc (goes_on checks) (going i (program is)) (then_program (program back)))

-- where a step was made there is one
pub some_step : (old new : List Step) (step : Step) → new ≡ old ++ step ∷ [] → 0 < length new
some_step old new step grew = omega (arith, ap (λ (steps : List Step). length steps) grew, length-append old (step ∷ []))
