use Rattle.std.proofs.Common.{refl, inl, inr}
use Rattle.bt_top.proofs.outcome.write_fault.Goals as goal

pub returns-in-Ok-clause-wrote : goal.returns-in-Ok-clause-wrote
returns-in-Ok-clause-wrote g c = inl (refl, c.in-Ok.ensures.whole)

pub returns-in-Err-clause-wrote : goal.returns-in-Err-clause-wrote
returns-in-Err-clause-wrote g c = inr (refl, c.in-Err.ensures.failed, c.in-Err.ensures.part)
