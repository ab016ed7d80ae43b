use Rattle.std.proofs.Common.{refl}
use Rattle.top_refusals.proofs.LineLaws.{kept}
use Rattle.bt_top.proofs.Offered.{no_offers_both}
use Rattle.bt_top.proofs.outcome.write_refusal.Goals as goal

pub returns-in-None-clause-wrote : goal.returns-in-None-clause-wrote
returns-in-None-clause-wrote g c = rw c.in-None.is c.write_fault.ensures.wrote

pub returns-in-None-clause-offered : goal.returns-in-None-clause-offered
returns-in-None-clause-offered g c = c.write_fault.ensures.offered

pub returns-in-Some-clause-wrote : goal.returns-in-Some-clause-wrote
returns-in-Some-clause-wrote g c = rw c.in-Some.is (refl, kept (g.K.Sink.taken c.args.out.now))

pub returns-in-Some-clause-offered : goal.returns-in-Some-clause-offered
returns-in-Some-clause-offered g c = no_offers_both (g.K.Sink.offers c.args.out.now) _ _
