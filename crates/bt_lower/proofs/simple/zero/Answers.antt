use Rattle.std.proofs.Common.{refl}
use Rattle.bt_lower.proofs.Arms.{at-ok}
use Rattle.bt_lower.proofs.Single.{T-Zero}
use Rattle.bt_lower.proofs.simple.zero.Goals as goal

pub returns : goal.returns
returns c = at-ok c.push.result c.push.ensures (λ made way. T-Zero _ _ way _ _ refl made)
