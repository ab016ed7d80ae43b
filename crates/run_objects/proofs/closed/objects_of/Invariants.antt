use Rattle.std.proofs.Common.{◌≡◌, map}
use Rattle.run_objects.specs.Closed.{object_of}
use Rattle.run_objects.proofs.closed.objects_of.Given as goal

abbrev pub invariant-loop-own : goal.invariant-loop-own
invariant-loop-own g l = l.list.items ≡ map object_of l.yielded
