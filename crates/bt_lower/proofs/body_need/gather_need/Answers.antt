use Rattle.std.proofs.Common.{ap, sym, ◌∙◌}
use Rattle.bt_lower.specs.Needs.{Need, gather_need, values_need}
use Rattle.bt_lower.proofs.Measured.{keyed-are, same, same-beyond}
use Rattle.bt_lower.proofs.body_need.gather_need.Goals as goal

pub returns-in_ok-all-in-Some-clause-need : goal.returns-in_ok-all-in-Some-clause-need
returns-in_ok-all-in-Some-clause-need c = same _ _ _ c.and_code.ensures.need (keyed-are 24 _ _ _ _ _ _ _ c.in_ok-all-in-Some.ensures.under c.in_ok-keys.ensures.need (ap (λ (n : Need). n.frame) c.in_ok-number-in-Some.ensures.need) (ap (λ (n : Need). n.code) c.in_ok-number-in-Some.ensures.need) ∙ ap (gather_need (values_need c.args.keys.now)) (sym c.in-Some.is))

pub returns-in_ok-all-in-Some-clause-beyond : goal.returns-in_ok-all-in-Some-clause-beyond
returns-in_ok-all-in-Some-clause-beyond c = same-beyond _ _ _ c.and_code.ensures.beyond (keyed-are 24 _ _ _ _ _ _ _ c.in_ok-all-in-Some.ensures.under c.in_ok-keys.ensures.need (ap (λ (n : Need). n.frame) c.in_ok-number-in-Some.ensures.need) (ap (λ (n : Need). n.code) c.in_ok-number-in-Some.ensures.need) ∙ ap (gather_need (values_need c.args.keys.now)) (sym c.in-Some.is))
