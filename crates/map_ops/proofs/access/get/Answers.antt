use Rattle.std.proofs.Common.{◌∙◌, ap, sym}
use Rattle.bt_core.proofs.InteractionLaws.{Whole-ask, Whole-value}
use Rattle.map_ops.specs.Values.{value_of}
use Rattle.map_ops.proofs.Replied.{value_served}
use Rattle.map_ops.proofs.access.get.Goals as goal

pub returns-clause-performed : goal.returns-clause-performed
returns-clause-performed g c =
    let made = rw c.part-object.ensures at c.in_ok-step.ensures.made in
    Whole-value _ _ _ _ _ (Whole-ask value_of _ _ _ _ _ made) (sym (c.value_of.ensures ∙ ap value_of c.last.ensures))

pub returns-clause-held : goal.returns-clause-held
returns-clause-held g c =
    let replied = rw c.part-object.ensures at c.in_ok-step.ensures.replied in
    rw (c.value_of.ensures ∙ ap value_of c.last.ensures) (value_served _ c.args.key _ replied)
