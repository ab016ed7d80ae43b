use Rattle.weave.proofs.Spotted.{spots_stand, steps_told}
use Rattle.weave.proofs.woven.Woven.in_order.Goals as goal

pub invariant_of-result : goal.invariant_of-result
invariant_of-result c = spots_stand c.lists-lists.result.now c.in_ok-spots.spots.items c.in_ok-spots.ensures

pub returns : goal.returns
returns c = steps_told c.args.self.now c.lists-lists.result.now c.in_ok-spots.spots.items c.lists-lists.ensures c.in_ok-spots.ensures
