use Rattle.std.proofs.Common.{◌∙◌, sym, arith}
use Rattle.tracefs_format.specs.Classes.{is_in}
use Rattle.tracefs_format.proofs.BytesLemmas.{without_end-last_yes, without_end-last_no}
use Rattle.tracefs_format.proofs.bytes.without_end.Goals as goal

pub returns-then-not-has : goal.returns-then-not-has
returns-then-not-has c = sym (without_end-last_no (is_in c.args.class) c.loop-rest.rest.now c.in-len1-up.len_at_least (grind arith)) ∙ c.loop-rest.invariant

pub loop-rest-preserved : goal.loop-rest-preserved
loop-rest-preserved c = without_end-last_yes (is_in c.args.class) c.loop-rest.rest.now c.in-len1-up.len_at_least (grind arith) ∙ c.loop-rest.invariant
