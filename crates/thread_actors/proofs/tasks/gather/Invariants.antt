use Rattle.std.proofs.Common.{◌≡◌, ◌++◌, map, sum}
use Rattle.std.specs.Vec.Iter.{into_iter_items}
use Rattle.turn_lock.specs.History.{Each}
use Rattle.thread_actors.specs.Tasks.{turns_in, trace_in, count_in, HasEnded, HasEndedWell}
use Rattle.thread_actors.proofs.tasks.gather.Given as goal

abbrev pub invariant-loop-task : goal.invariant-loop-task
invariant-loop-task g l = record {
  turns : l.all.turns.items ≡ map turns_in l.yielded;
  traces : l.all.traces.items ≡ map trace_in l.yielded;
  instructions : l.all.instructions ≡ sum (map count_in l.yielded);
  well : Each HasEndedWell l.yielded;
  whole : l.yielded ++ into_iter_items l.task-iterator ≡ l.fn.tasks.items;
  left : Each HasEnded (into_iter_items l.task-iterator);
}
