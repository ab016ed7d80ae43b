use Rattle.std.proofs.Common.{arith}
use Rattle.bt_attach.proofs.Rounds.{tick_more, time_within}
use Rattle.bt_attach.proofs.ticks.add_ticks.Goals as goal

pub overflow_mul-time : goal.overflow_mul-time
overflow_mul-time c = let within = time_within c.args.period c.loop-k.k c.args.count c.loop-k-test.true in omega (arith, within, c.requires)

pub overflow_add-time-in-loop-k : goal.overflow_add-time-in-loop-k
overflow_add-time-in-loop-k c = let within = time_within c.args.period c.loop-k.k c.args.count c.loop-k-test.true in omega (arith, within, c.requires)

pub loop-k-preserved : goal.loop-k-preserved
loop-k-preserved c =
    tick_more c.args.start c.args.period c.args.body c.loop-k.k c.args.ticks.now.items c.loop-k.ticks.items c.push.new.self.items c.loop-k.invariant c.in_ok-push.ensures.items
