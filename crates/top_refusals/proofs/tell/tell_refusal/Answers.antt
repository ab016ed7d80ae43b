use Rattle.top_refusals.proofs.LineLaws.{kept}
use Rattle.top_refusals.proofs.tell.tell_refusal.Goals as goal

pub returns-in-None : goal.returns-in-None
returns-in-None g c = rw c.in-None.is (kept (g.E.Sink.taken c.args.err.now))

pub returns-in-Some : goal.returns-in-Some
returns-in-Some g c = rw c.in-Some.is c.tell.ensures
