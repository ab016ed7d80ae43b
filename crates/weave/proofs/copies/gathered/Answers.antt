use Rattle.weave.proofs.Listing.{one_more_copied}
use Rattle.weave.proofs.copies.gathered.Goals as goal

pub loop-list-preserved : goal.loop-list-preserved
loop-list-preserved c = one_more_copied c.args.lists.now c.loop-list.list-index c.list-item.result c.loop-list.steps.items c.copy_to.new.steps.items
    c.loop-list-test.true c.list-item.is c.loop-list.invariant c.in_ok-copy_to.ensures
