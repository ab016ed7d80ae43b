use Rattle.std.proofs.Common.{ap, sym, ◌∙◌}
use Rattle.bt_lower.specs.Needs.{more, predicate_need}
use Rattle.bt_lower.proofs.Measured.{same, same-beyond}
use Rattle.bt_lower.proofs.need.predicate_need.Goals as goal

pub returns-in_ok-need-in-Some-clause-need : goal.returns-in_ok-need-in-Some-clause-need
returns-in_ok-need-in-Some-clause-need c = same _ _ _ c.more.ensures.more (ap (more 8) c.in_ok-need-in-Some.ensures.need ∙ sym (ap predicate_need c.in-Some.is))

pub returns-in_ok-need-in-Some-clause-beyond : goal.returns-in_ok-need-in-Some-clause-beyond
returns-in_ok-need-in-Some-clause-beyond c = same-beyond _ _ _ c.more.ensures.beyond (ap (more 8) c.in_ok-need-in-Some.ensures.need ∙ sym (ap predicate_need c.in-Some.is))
