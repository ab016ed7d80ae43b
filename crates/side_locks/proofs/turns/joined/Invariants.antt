use Rattle.std.proofs.Common.{◌≡◌, ◌++◌}
use Rattle.std.specs.Iterator.Adapters.{zip_first, zip_second}
use Rattle.std.specs.Vec.Iter.{into_iter_items, into_iter_len}
use Rattle.side_locks.specs.Turns.{clocks, outs}
use Rattle.side_locks.proofs.turns.joined.Given as goal

abbrev pub invariant-loop-at_clock : goal.invariant-loop-at_clock
invariant-loop-at_clock l = let clock_rows = zip_first l.at_clock-iterator in let out_rows = zip_second l.at_clock-iterator in record {
  count : into_iter_len out_rows ≡ into_iter_len clock_rows;
  clock : clocks l.all.items ++ into_iter_items clock_rows ≡ l.fn.clock_rows.items;
  out : outs l.all.items ++ into_iter_items out_rows ≡ l.fn.out_rows.items;
}
