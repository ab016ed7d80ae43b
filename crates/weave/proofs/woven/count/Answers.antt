use Rattle.std.proofs.Common.{arith}
use Rattle.weave.proofs.Listing.{listed_within}
use Rattle.weave.proofs.woven.count.Goals as goal

pub returns-in_err-sum-clause-beyond : goal.returns-in_err-sum-clause-beyond
returns-in_err-sum-clause-beyond c =
    let within = listed_within c.args.lists.now c.loop-list.list-index c.list-item.result c.loop-list-test.true c.list-item.is in
    grind (arith, within)
