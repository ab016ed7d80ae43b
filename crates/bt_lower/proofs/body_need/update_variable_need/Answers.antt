use Rattle.std.proofs.Common.{ap}
use Rattle.bt_lower.specs.Needs.{more}
use Rattle.bt_lower.proofs.Measured.{same, same-beyond}
use Rattle.bt_lower.proofs.body_need.update_variable_need.Goals as goal

pub returns-clause-need : goal.returns-clause-need
returns-clause-need c = same _ _ _ c.more.ensures.more (ap (more 16) c.in_ok-value.ensures.need)

pub returns-clause-beyond : goal.returns-clause-beyond
returns-clause-beyond c = same-beyond _ _ _ c.more.ensures.beyond (ap (more 16) c.in_ok-value.ensures.need)
