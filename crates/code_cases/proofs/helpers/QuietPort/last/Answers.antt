use Rattle.std.proofs.Common.{◌≡◌, ◌-◌, suc, sym, ap, length, ◌∙◌, arith}
use Rattle.bt_core.specs.declared.step.Step.{Step}
use Rattle.bt_core.specs.Interaction.{last_reply}
use Rattle.code_cases.proofs.Quiet.{last_at}
use Rattle.code_cases.proofs.helpers.QuietPort.last.Goals as goal

pub returns : goal.returns
returns c =
    let xs = c.as_slice-steps.result.now in
    let long : length xs ≡ suc (length xs - 1) = omega (arith, ap length c.as_slice-steps.ensures, c.requires) in
    ap (λ (s : Step). s.reply) (sym c.index-steps-place.is) ∙ last_at xs c.index-steps-place.result (length xs - 1) long c.index-steps-place.is
    ∙ ap last_reply c.as_slice-steps.ensures
