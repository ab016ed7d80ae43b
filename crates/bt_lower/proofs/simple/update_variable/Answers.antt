use Rattle.std.proofs.Common.{refl}
use Rattle.bt_lower.proofs.Arms.{at-ok}
use Rattle.bt_lower.proofs.Single.{T-UpdateVar}
use Rattle.bt_lower.proofs.simple.update_variable.Goals as goal

pub returns : goal.returns
returns c = at-ok c.lower_number.result c.lower_number.ensures (λ lowered way. T-UpdateVar _ _ _ _ way _ _ _ refl c.in_ok-push.ensures lowered)
