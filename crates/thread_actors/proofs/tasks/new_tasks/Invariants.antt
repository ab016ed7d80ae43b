use Rattle.std.proofs.Common.{◌≡◌, ◌++◌, map}
use Rattle.std.specs.Iterator.Adapters.{zip_first, zip_second}
use Rattle.std.specs.Vec.Iter.{into_iter_items, into_iter_len}
use Rattle.turn_lock.specs.History.{Each}
use Rattle.thread_actors.specs.Tasks.{bodies_in, turns_in, IsFresh}
use Rattle.thread_actors.specs.Turns.{AreOneActors}
use Rattle.thread_actors.proofs.tasks.new_tasks.Given as goal

abbrev pub invariant-loop-own : goal.invariant-loop-own
invariant-loop-own g l = let own_left = zip_first l.own-iterator in let turns_left = zip_second l.own-iterator in record {
  count : into_iter_len turns_left ≡ into_iter_len own_left;
  bodies : map bodies_in l.tasks.items ++ into_iter_items own_left ≡ l.fn.bodies.items;
  turns : map turns_in l.tasks.items ++ into_iter_items turns_left ≡ l.fn.turns.items;
  fresh : Each (IsFresh l.clock) l.tasks.items;
  by : Each AreOneActors (into_iter_items turns_left);
}
