use Rattle.std.proofs.Common.{◌≡◌}
use Rattle.side_locks.specs.Turns.{clocks, outs}
use Rattle.side_locks.proofs.turns.parted.Given as goal

abbrev pub invariant-loop-turns : goal.invariant-loop-turns
invariant-loop-turns l = record {
  clock : l.clock_rows.items ≡ clocks l.yielded;
  out : l.out_rows.items ≡ outs l.yielded;
}
