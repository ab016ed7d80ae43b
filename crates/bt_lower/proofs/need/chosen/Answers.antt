use Rattle.std.proofs.Common.{ap, ◌∙◌}
use Rattle.bt_lower.specs.Needs.{more, greater}
use Rattle.bt_lower.proofs.Measured.{same, same-beyond}
use Rattle.bt_lower.proofs.need.chosen.Goals as goal

pub returns-clause-need : goal.returns-clause-need
returns-clause-need c = same _ _ _ c.more.ensures.more (ap (more 8) (c.in_ok-all.ensures.greater ∙ ap (greater c.args.test) c.in_ok-ways.ensures.greater))

pub returns-clause-beyond : goal.returns-clause-beyond
returns-clause-beyond c = same-beyond _ _ _ c.more.ensures.beyond (ap (more 8) (c.in_ok-all.ensures.greater ∙ ap (greater c.args.test) c.in_ok-ways.ensures.greater))
