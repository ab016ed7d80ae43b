use Rattle.std.proofs.Common.{◌↔◌, ℕ}
use Rattle.account_steps.specs.Stops.{ArePassed, IsPassed}
use Rattle.account_steps.proofs.stops.reached_by_all.Given as goal

-- it is of those before this one
abbrev pub invariant-loop-reached : goal.invariant-loop-reached
invariant-loop-reached l = (place : ℕ) → IsPassed l.all place ↔ ArePassed l.reached-index l.each place
