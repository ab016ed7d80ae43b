use Rattle.account_steps.specs.Stops.{AllMayStand}
use Rattle.account_steps.proofs.stops.first_stop.Given as goal

-- all steps before this one may stand where they stand
abbrev pub invariant-loop-place : goal.invariant-loop-place
invariant-loop-place l = AllMayStand l.main l.each l.begin l.cpus l.place l.list
