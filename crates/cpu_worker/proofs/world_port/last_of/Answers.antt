use Rattle.std.proofs.Common.{sym, ap, ◌∙◌}
use Rattle.bt_core.specs.Interaction.{last_reply}
use Rattle.bt_core.proofs.InteractionLaws.{last_reply-append}
use Rattle.cpu_worker.proofs.world_port.last_of.Goals as goal

pub returns : goal.returns
returns c = let e = c.last.ensures in e.3 ∙ sym (ap last_reply e.2 ∙ last_reply-append e.0 e.1)
