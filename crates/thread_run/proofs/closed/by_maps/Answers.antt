use Rattle.std.proofs.Common.{arith}
use Rattle.std.specs.Vec.Iter.{into_iter_items}
use Rattle.run_objects.specs.Closed.{part_list}
use Rattle.thread_run.proofs.Closing.{map_more, none_left}
use Rattle.thread_actors.proofs.Rowing.{one_made, all_made}
use Rattle.thread_run.proofs.closed.by_maps.Goals as goal

pub loop-decl-preserved : goal.loop-decl-preserved
loop-decl-preserved c =
    let left = into_iter_items c.loop-decl.left in
    one_made part_list c.loop-decl.all.items _ c.in_ok-next_parts.field-0 _ _ _ _ c.in_ok-push.ensures.items
    (map_more c.args.maps.now c.loop-decl.decl-index c.decl-item.result left _ c.loop-decl-test.true c.decl-item.is c.in_ok-next_parts.ensures.left) c.in_ok-next_parts.ensures.parts c.loop-decl.invariant

pub returns : goal.returns
returns c = let f = c.loop-decl-test.false in
    all_made part_list c.loop-decl.all.items _ _ (none_left c.args.maps.now c.loop-decl.decl-index (into_iter_items c.loop-decl.left) (omega arith)) c.loop-decl.invariant
