use Rattle.std.proofs.Common.{◌≡◌, map}
use Rattle.run_objects.specs.Closed.{objects_in, part_list}
use Rattle.run_objects.proofs.closed.parts_of.Given as goal

abbrev pub invariant-loop-held : goal.invariant-loop-held
invariant-loop-held l = map part_list l.all.items ≡ map objects_in l.yielded
