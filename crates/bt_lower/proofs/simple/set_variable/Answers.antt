use Rattle.std.proofs.Common.{refl}
use Rattle.bt_lower.proofs.Arms.{at-ok}
use Rattle.bt_lower.proofs.Single.{T-SetVar}
use Rattle.bt_lower.proofs.simple.set_variable.Goals as goal

pub returns : goal.returns
returns c = at-ok c.lower_value.result c.lower_value.ensures (λ lowered way. T-SetVar _ _ _ _ way _ _ _ refl c.shape-shape.ensures c.in_ok-push.ensures lowered)
