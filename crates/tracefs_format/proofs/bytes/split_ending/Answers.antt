use Rattle.std.proofs.Common.{◌∙◌}
use Rattle.tracefs_format.specs.Classes.{is_in}
use Rattle.tracefs_format.proofs.BytesLemmas.{length-without_end, drop-without_end, take-without_end}
use Rattle.tracefs_format.proofs.bytes.split_ending.Goals as goal

pub split_at-requires : goal.split_at-requires
split_at-requires c = rw c.without_end-stem.ensures (length-without_end (is_in c.args.class) c.args.bytes.now)

pub returns-clause-stem : goal.returns-clause-stem
returns-clause-stem c = c.split_at.ensures.front ∙ rw c.without_end-stem.ensures (take-without_end (is_in c.args.class) c.args.bytes.now)

pub returns-clause-ending : goal.returns-clause-ending
returns-clause-ending c = c.split_at.ensures.back ∙ rw c.without_end-stem.ensures (drop-without_end (is_in c.args.class) c.args.bytes.now)
