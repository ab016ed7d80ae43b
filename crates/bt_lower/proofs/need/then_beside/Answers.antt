use Rattle.std.proofs.Common.{ℕ, ap, ◌∙◌}
use Rattle.bt_lower.specs.Needs.{need, greater}
use Rattle.bt_lower.proofs.Measured.{same, same-beyond}
use Rattle.bt_lower.proofs.need.then_beside.Goals as goal

pub returns-clause-beside : goal.returns-clause-beside
returns-clause-beside c = same _ _ _ c.greater.ensures.greater (ap (greater c.args.a) (c.figures.ensures ∙ ap (λ (frame : ℕ). need frame c.args.b.code) c.in_ok-frame.ensures.sum))

pub returns-clause-beyond : goal.returns-clause-beyond
returns-clause-beyond c = same-beyond _ _ _ c.greater.ensures.beyond (ap (greater c.args.a) (c.figures.ensures ∙ ap (λ (frame : ℕ). need frame c.args.b.code) c.in_ok-frame.ensures.sum))
