use Rattle.std.proofs.Common.{refl}
use Rattle.bt_lower.proofs.Arms.{at-ok}
use Rattle.bt_lower.proofs.Single.{T-SetMap}
use Rattle.bt_lower.proofs.simple.set_map.Goals as goal

pub returns : goal.returns
returns c = at-ok c.lower_values.result c.lower_values.ensures (λ lowered way. T-SetMap _ _ _ _ _ _ _ way _ _ _ _ refl refl c.in_ok-key.ensures c.shape-shape.ensures c.in_ok-push.ensures c.in_ok-lower_value.ensures lowered)
