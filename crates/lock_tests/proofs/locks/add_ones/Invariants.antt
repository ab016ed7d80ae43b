use Rattle.turn_lock.specs.Locks.{IsOf}
use Rattle.lock_tests.proofs.locks.add_ones.Given as goal

abbrev pub invariant-loop : goal.invariant-loop
invariant-loop g l = IsOf l.lock l.turn
