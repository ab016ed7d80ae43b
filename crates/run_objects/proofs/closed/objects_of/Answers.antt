use Rattle.run_objects.proofs.ClosedLemmas.{object_more}
use Rattle.run_objects.proofs.closed.objects_of.Goals as goal

pub loop-own-preserved : goal.loop-own-preserved
loop-own-preserved g c = object_more c.loop-own.yielded c.in-Some.own c.loop-own.list.items _ c.loop-own.invariant c.in_ok-push.ensures.items
