use Rattle.std.proofs.Common.{false, refl}
use Rattle.bt_attach.specs.Rows.{starred}
use Rattle.bt_attach.proofs.Rounds.{starred_more, at_end}
use Rattle.bt_attach.proofs.pattern.starred.Goals as goal

pub loop-here-preserved : goal.loop-here-preserved
loop-here-preserved c =
    starred_more c.args.row.now c.loop-here.here-index false c.loop-here.reached _ c.loop-here.next.items c.push.new.self.items _
    c.loop-here-test.true c.loop-here.invariant refl c.in_ok-push.ensures.items

pub returns : goal.returns
returns c = at_end (starred c.loop-here.reached) c.args.row.now c.loop-here.here-index c.loop-here.next.items _ refl c.loop-here-test.false c.loop-here.invariant
