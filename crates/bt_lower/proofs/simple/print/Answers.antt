use Rattle.std.proofs.Common.{refl, SFits, w64, rules}
use Rattle.std.proofs.lemmas.Int.{to_z-of_z}
use Rattle.bt_lower.proofs.Arms.{at-ok}
use Rattle.bt_lower.proofs.Single.{T-Print}
use Rattle.bt_lower.proofs.simple.print.Goals as goal

pub returns : goal.returns
returns c =
    let fits : SFits w64 c.args.div = search rules in
    let made = simp to_z-of_z at c.push.ensures in
    at-ok c.push.result made (λ pushed way. T-Print _ _ _ _ way _ _ refl pushed)
