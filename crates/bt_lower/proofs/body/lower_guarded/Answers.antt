use Rattle.std.proofs.Common.{refl}
use Rattle.bt_lower.proofs.Arms.{at-ok}
use Rattle.bt_lower.proofs.Bodies.{Guarded-none, Guarded-some}
use Rattle.bt_lower.proofs.body.lower_guarded.Goals as goal

pub returns-in-None : goal.returns-in-None
returns-in-None c = at-ok c.lower_block.result c.lower_block.ensures (Guarded-none _ _ _ _ _ c.in-None.is)

pub returns-in_ok-head-in-Some : goal.returns-in_ok-head-in-Some
returns-in_ok-head-in-Some c =
    at-ok c.begin.result c.begin.ensures
    (Guarded-some _ _ _ _ _ _ _ _ _ _ _ _ _ _ c.in-Some.is c.in_ok-after-in-Some.ensures.closed c.in_ok-after-in-Some.ensures.number c.in_ok-first-in-Some.ensures refl c.in_ok-lower_test-in-Some.ensures c.in_ok-head-in-Some.ensures.closed c.in_ok-head-in-Some.ensures.number)
