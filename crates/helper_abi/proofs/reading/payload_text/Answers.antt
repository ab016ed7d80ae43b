use Rattle.std.proofs.Common.{◌∙◌}
use Rattle.helper_abi.proofs.ReadingLemmas.{inside_text}
use Rattle.helper_abi.proofs.reading.payload_text.Goals as goal

pub returns-then-count-length : goal.returns-then-count-length
returns-then-count-length c =
    c.of.ensures ∙ inside_text c.args.place c.args.count c.args.payload.now c.if-place-length.true c.if-count-length.true
