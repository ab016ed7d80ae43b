use Rattle.std.proofs.Common.{◌≡◌, ◌++◌, map, drop}
use Rattle.std.specs.Vec.Iter.{into_iter_items}
use Rattle.run_objects.specs.Closed.{part_list}
use Rattle.thread_run.specs.Closed.{parts_by}
use Rattle.thread_run.proofs.closed.by_maps.Given as goal

abbrev pub invariant-loop-decl : goal.invariant-loop-decl
invariant-loop-decl l = map part_list l.all.items ++ parts_by (drop l.decl-index l.maps) (into_iter_items l.left) ≡ parts_by l.maps l.fn.parts.items
