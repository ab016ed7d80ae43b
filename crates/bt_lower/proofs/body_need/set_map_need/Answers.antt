use Rattle.std.proofs.Common.{ap}
use Rattle.bt_lower.specs.Needs.{Valued}
use Rattle.bt_lower.proofs.Measured.{keyed-are, same, same-beyond}
use Rattle.bt_lower.proofs.body_need.set_map_need.Goals as goal

pub returns-clause-need : goal.returns-clause-need
returns-clause-need c = same _ _ _ c.and_code.ensures.need (keyed-are 24 _ _ _ _ _ _ _ c.in_ok-all.ensures.under c.in_ok-keys.ensures.need (ap (λ (v : Valued). v.need.frame) c.in_ok-value.ensures.need) (ap (λ (v : Valued). v.need.code) c.in_ok-value.ensures.need))

pub returns-clause-beyond : goal.returns-clause-beyond
returns-clause-beyond c = same-beyond _ _ _ c.and_code.ensures.beyond (keyed-are 24 _ _ _ _ _ _ _ c.in_ok-all.ensures.under c.in_ok-keys.ensures.need (ap (λ (v : Valued). v.need.frame) c.in_ok-value.ensures.need) (ap (λ (v : Valued). v.need.code) c.in_ok-value.ensures.need))
