use Rattle.std.proofs.Common.{ap, ◌∙◌}
use Rattle.event_record.specs.Contexts.{context_bytes}
use Rattle.event_record.proofs.contexts.ContextBytes.bytes.Goals as goal

pub returns : goal.returns
returns c = c.self.invariant ∙ ap context_bytes c.self.view_is
