use Rattle.std.proofs.Common.{◌≡◌, map}
use Rattle.thread_run.specs.Closed.{object_of}
use Rattle.thread_run.proofs.closed.objects_of.Given as goal

abbrev pub invariant-loop-object : goal.invariant-loop-object
invariant-loop-object g l = l.list.items ≡ map object_of l.yielded
