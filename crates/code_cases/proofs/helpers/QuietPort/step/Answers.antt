use Rattle.std.proofs.Common.{ap, ◌∙◌}
use Rattle.bt_core.specs.Ports.{Setting}
use Rattle.code_cases.specs.Quiet.{reply_of}
use Rattle.code_cases.proofs.Quiet.{replied}
use Rattle.code_cases.proofs.helpers.QuietPort.step.Goals as goal

pub returns-clause-replied : goal.returns-clause-replied
returns-clause-replied c =
    let setting : Setting = record { actor = 1; actors = 2; ticks = 0; maps = c.args.self.now.maps } in
    replied setting c.args.object c.args.op.now _ _ _ c.keep_step.result c.requires c.keep_step.ensures.ok
    (c.reply_of-reply.ensures ∙ ap (λ l. reply_of l c.args.object c.args.op.now) c.as_slice.ensures)
