use Rattle.std.proofs.lemmas.Slice.Eq.{strip_prefix_is}
use Rattle.std.proofs.lemmas.Bool.Decides.{Decides-eqb}
use Rattle.tracefs_format.proofs.BytesLemmas.{after-Finds}
use Rattle.tracefs_format.proofs.bytes.after.Goals as goal

pub returns : goal.returns
returns c = after-Finds c.args.label.now c.args.bytes.now c.strip_prefix.result (strip_prefix_is Decides-eqb c.args.bytes.now c.args.label.now c.strip_prefix.result c.strip_prefix.ensures.cases)
