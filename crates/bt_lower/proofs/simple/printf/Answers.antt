use Rattle.std.proofs.Common.{refl}
use Rattle.bt_lower.proofs.Arms.{at-ok}
use Rattle.bt_lower.proofs.Single.{T-Printf}
use Rattle.bt_lower.proofs.simple.printf.Goals as goal

pub returns : goal.returns
returns c = at-ok c.lower_values.result c.lower_values.ensures (λ lowered way. T-Printf _ _ _ _ _ way _ _ _ refl refl c.in_ok-shapes.ensures c.in_ok-push.ensures lowered)
