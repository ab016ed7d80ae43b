use Rattle.std.proofs.Common.{sym, ap, ◌∙◌}
use Rattle.bt_core.proofs.InteractionLaws.{last_reply-append}
use Rattle.bt_core.specs.Interaction.{last_reply}
use Rattle.bt_run.proofs.port.last_of.Goals as goal

pub returns : goal.returns
returns c = let l = c.last.ensures in l.3 ∙ sym (ap last_reply l.2 ∙ last_reply-append l.0 l.1)
