use Rattle.std.proofs.Common.{arith}
use Rattle.bt_parser.proofs.Parts.{cut_none, cut_some}
use Rattle.bt_parser.proofs.attach.cut.Goals as goal

pub returns-in-empty-clause-none : goal.returns-in-empty-clause-none
returns-in-empty-clause-none c = cut_none c.args.bytes.now c.split_at.result.1.now c.colon_at.result c.colon_at.ensures.value c.split_at.ensures.back (omega (arith, c.in-empty.len_below))

pub returns-in-len1-up-clause-some : goal.returns-in-len1-up-clause-some
returns-in-len1-up-clause-some c = cut_some c.args.bytes.now c.split_at.result.0.now c.split_at.result.1.now c.colon_at.result c.colon_at.ensures.value c.split_at.ensures.front c.split_at.ensures.back (omega (arith, c.in-len1-up.len_at_least))
