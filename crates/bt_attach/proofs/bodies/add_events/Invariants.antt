use Rattle.std.proofs.Common.{◌≡◌, ◌++◌, drop}
use Rattle.bt_attach.specs.Steps.{with_probe, events_marked}
use Rattle.bt_attach.proofs.bodies.add_events.Given as goal

-- what there is, with what is to come, is the whole
abbrev pub invariant-loop-k : goal.invariant-loop-k
invariant-loop-k l = l.bodies ++ with_probe l.probe (events_marked l.k (drop l.k l.marks)) ≡ l.fn.bodies ++ with_probe l.probe (events_marked 0 l.marks)
