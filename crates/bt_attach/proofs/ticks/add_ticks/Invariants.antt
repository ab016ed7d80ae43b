use Rattle.std.proofs.Common.{◌≡◌, ◌++◌}
use Rattle.bt_attach.specs.Ticks.{first_ticks}
use Rattle.bt_attach.proofs.ticks.add_ticks.Given as goal

abbrev pub invariant-loop-k : goal.invariant-loop-k
invariant-loop-k l = l.ticks.items ≡ l.fn.ticks.items ++ first_ticks l.start l.period l.body l.k
