use Rattle.std.proofs.Common.{◌≡◌, ◌++◌, map}
use Rattle.std.specs.Vec.Iter.{into_iter_items}
use Rattle.thread_actors.specs.Turns.{at_maps, at_tables, at_sides}
use Rattle.thread_actors.proofs.turns.parted.Given as goal

abbrev pub invariant-loop-turns : goal.invariant-loop-turns
invariant-loop-turns l = record {
  maps : l.at_maps.items ≡ map at_maps l.yielded;
  tables : l.at_tables.items ≡ map at_tables l.yielded;
  sides : l.at_sides.items ≡ map at_sides l.yielded;
  whole : l.yielded ++ into_iter_items l.turns-iterator ≡ l.fn.all.items;
}
