use Rattle.std.proofs.Common.{false, drop, refl}
use Rattle.bt_attach.proofs.Rounds.{met_more, met_end}
use Rattle.bt_attach.proofs.pattern.met.Goals as goal

pub loop-i-preserved : goal.loop-i-preserved
loop-i-preserved c =
    met_more c.args.byte c.args.name.now c.args.row.now c.loop-i.i 0 false c.loop-i.reached _ c.loop-i.next.items c.push.new.self.items _
    c.loop-i-test.true c.requires c.loop-i.invariant refl c.in_ok-push.ensures.items

pub returns : goal.returns
returns c =
    met_end c.args.byte c.args.name.now (drop c.loop-i.i c.args.row.now) c.loop-i.i c.loop-i.reached c.loop-i.next.items c.push-2.new.self.items _
    c.loop-i-test.false c.loop-i.invariant c.in_ok-push-2.ensures.items
