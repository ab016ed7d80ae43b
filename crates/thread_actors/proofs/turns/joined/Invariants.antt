use Rattle.std.proofs.Common.{◌≡◌, ◌++◌, map}
use Rattle.std.specs.Iterator.Adapters.{zip_first, zip_second}
use Rattle.std.specs.Vec.Iter.{into_iter_items, into_iter_len}
use Rattle.thread_actors.specs.Turns.{at_maps, at_tables, at_sides}
use Rattle.thread_actors.proofs.turns.joined.Given as goal

abbrev pub invariant-loop-maps : goal.invariant-loop-maps
invariant-loop-maps l = let pairs = zip_first l.maps-iterator in let maps = zip_first pairs in let tables = zip_second pairs in let sides = zip_second l.maps-iterator in record {
  tables_count : into_iter_len tables ≡ into_iter_len maps;
  sides_count : into_iter_len sides ≡ into_iter_len maps;
  maps : map at_maps l.all.items ++ into_iter_items maps ≡ l.fn.maps.items;
  tables : map at_tables l.all.items ++ into_iter_items tables ≡ l.fn.tables.items;
  sides : map at_sides l.all.items ++ into_iter_items sides ≡ l.fn.sides.items;
}
