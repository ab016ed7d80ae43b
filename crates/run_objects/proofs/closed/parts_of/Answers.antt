use Rattle.run_objects.proofs.ClosedLemmas.{parts_more}
use Rattle.run_objects.proofs.closed.parts_of.Goals as goal

pub loop-held-preserved : goal.loop-held-preserved
loop-held-preserved c =
    parts_more c.loop-held.yielded c.in-Some.held c.loop-held.all.items _ c.in_ok-objects_of.field-0 c.loop-held.invariant c.in_ok-objects_of.ensures
    c.in_ok-push.ensures.items
