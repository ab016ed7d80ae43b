use Rattle.std.proofs.Common.{ap}
use Rattle.bt_lower.specs.Needs.{more}
use Rattle.bt_lower.proofs.Measured.{same, same-beyond}
use Rattle.bt_lower.proofs.need.greater_and.Goals as goal

pub returns-clause-both : goal.returns-clause-both
returns-clause-both c = same _ _ _ c.more.ensures.more (ap (more c.args.slots) c.in_ok-both.ensures.greater)

pub returns-clause-beyond : goal.returns-clause-beyond
returns-clause-beyond c = same-beyond _ _ _ c.more.ensures.beyond (ap (more c.args.slots) c.in_ok-both.ensures.greater)
