use Rattle.std.proofs.Common.{refl}
use Rattle.bt_lower.proofs.Arms.{at-ok}
use Rattle.bt_lower.proofs.Single.{T-UpdateMap}
use Rattle.bt_lower.proofs.simple.update_map.Goals as goal

pub returns : goal.returns
returns c = at-ok c.lower_values.result c.lower_values.ensures (λ lowered way. T-UpdateMap _ _ _ _ _ _ _ way _ _ _ _ refl refl c.in_ok-key.ensures c.in_ok-push.ensures c.in_ok-lower_number.ensures lowered)
