use Rattle.std.proofs.Common.{List, sym, ap, ◌∙◌, subst}
use Rattle.bt_core.specs.declared.map.MapDecl.{MapDecl}
use Rattle.bt_core.specs.declared.step.Reply.{Reply}
use Rattle.bt_core.specs.Interaction.{last_reply}
use Rattle.bt_core.specs.Ports.{IsReplyOf}
use Rattle.bt_core.proofs.InteractionLaws.{last_reply-append}
use Rattle.body_fixtures.proofs.port.WrittenPort.step.Goals as goal

pub returns-clause-replied : goal.returns-clause-replied
returns-clause-replied c =
    subst (λ (r : Reply). IsReplyOf c.args.self.now.maps c.args.object c.args.op.now r) (sym (ap last_reply c.in_ok-keep_step.ensures.ok ∙ last_reply-append c.args.self.now.steps (record { actor = c.args.self.now.actor; object = c.args.object; stamp = 0; op = c.args.op.now; reply = c.in_ok-reply.reply })))
    (subst (λ (m : List MapDecl). IsReplyOf m c.args.object c.args.op.now c.in_ok-reply.reply) c.as_slice.ensures c.in_ok-reply.ensures)
