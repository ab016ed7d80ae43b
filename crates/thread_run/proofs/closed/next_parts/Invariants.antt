use Rattle.std.proofs.Common.{◌≡◌, take, drop}
use Rattle.std.specs.Vec.Iter.{into_iter_items}
use Rattle.thread_run.proofs.closed.next_parts.Given as goal

abbrev pub invariant-loop : goal.invariant-loop
invariant-loop l = record {
  parts : l.parts.items ≡ take l.counter (into_iter_items l.fn.left);
  left : into_iter_items l.left ≡ drop l.counter (into_iter_items l.fn.left);
}
