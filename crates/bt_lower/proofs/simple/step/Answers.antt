use Rattle.std.proofs.Common.{refl}
use Rattle.bt_lower.proofs.Arms.{at-ok}
use Rattle.bt_lower.proofs.Single.{T-Step}
use Rattle.bt_lower.proofs.simple.step.Goals as goal

pub returns : goal.returns
returns c = at-ok c.lower_number.result c.lower_number.ensures (λ lowered way. T-Step _ _ way _ _ _ refl c.in_ok-push.ensures lowered)
