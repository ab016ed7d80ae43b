use Rattle.std.proofs.Common.{◌∙◌}
use Rattle.tracefs_format.specs.Classes.{is_in}
use Rattle.tracefs_format.proofs.BytesLemmas.{length-without_front, take-without_front}
use Rattle.tracefs_format.proofs.bytes.split_beginning.Goals as goal

pub overflow_sub-bytes : goal.overflow_sub-bytes
overflow_sub-bytes c = rw c.without_front-rest.ensures (length-without_front (is_in c.args.class) c.args.bytes.now)

pub returns-clause-beginning : goal.returns-clause-beginning
returns-clause-beginning c = c.split_at.ensures.front ∙ rw c.without_front-rest.ensures (take-without_front (is_in c.args.class) c.args.bytes.now)
