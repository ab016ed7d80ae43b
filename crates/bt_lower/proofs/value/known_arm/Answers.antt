use Rattle.std.proofs.Common.{ap, ◌∙◌, ◌∷◌, []}
use Rattle.ir_code.specs.declared.blocks.Exit.TheVariants.{Goto}
use Rattle.bt_lower.specs.Code.{begun}
use Rattle.bt_lower.proofs.Choices.{Lowers-arm}
use Rattle.bt_lower.proofs.Arms.{Lowers-known, with-number}
use Rattle.bt_lower.proofs.value.known_arm.Goals as goal

pub returns : goal.returns
returns c =
    with-number _ _ c.close.result c.close.ensures.closed c.close.ensures.number
    (λ closed number is. Lowers-arm _ _ _ _ _ _ _ _ _ _ (c.in_ok-begin.ensures ∙ ap (λ s. begun (Goto c.args.after) (s ∷ []) c.args.code.now) c.shape_of.ensures) (Lowers-known _ _ _ c.in_ok-push.ensures) closed is)
