-- How far many actors were followed together.
use Rattle.std.proofs.Common.{◌≡◌, ◌↔◌, ◌+◌, ℕ, List, slice_index_or, sym, ap, ◌∙◌, subst, arith}
use mathlib.Core.Logic.{dite}
use native.Mathlib.Decide.{ℕ_discrete}
use Rattle.account_follow.specs.declared.follow.Reached.{Reached}
use Rattle.account_steps.specs.Stops.{ArePassed, IsPassed}

-- one more
pub passed_more : (each : List Reached) (n : ℕ) (all one both : Reached) (place : ℕ) → ((d : Reached) → slice_index_or each n d ≡ one)
    → IsPassed all place ↔ ArePassed n each place → IsPassed both place ↔ (IsPassed all place × IsPassed one place) → IsPassed both place ↔ ArePassed (n + 1) each place
passed_more each n all one both place is so parts = (
  (λ passed actor d lt. dite (ℕ_discrete actor n)
      (λ e. subst (λ r. IsPassed r place) (sym (is d) ∙ ap (λ k. slice_index_or each k d) (sym e)) (parts.0 passed).1)
      (λ ne. so.0 (parts.0 passed).0 actor d (omega arith))),
  λ passed. parts.1 (so.1 (λ actor d lt. passed actor d (omega arith)), subst (λ r. IsPassed r place) (is one) (passed n one (omega arith))),
)
