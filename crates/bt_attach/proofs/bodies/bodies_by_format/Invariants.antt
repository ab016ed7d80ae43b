use Rattle.std.proofs.Common.{◌≡◌}
use Rattle.bt_attach.specs.Attaching.{at_each}
use Rattle.bt_attach.proofs.bodies.bodies_by_format.Given as goal

abbrev pub invariant-loop-k : goal.invariant-loop-k
invariant-loop-k l = l.lists ≡ at_each l.bodies l.k
