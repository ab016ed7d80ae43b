use Rattle.std.proofs.Common.{refl}
use Rattle.bt_attach.specs.Attaching.{point_ticks}
use Rattle.std.specs.List.{flat_map}
use Rattle.bt_attach.proofs.Rounds.{piece_more, at_end}
use Rattle.bt_attach.proofs.ticks.add_points.Goals as goal

pub loop-point-preserved : goal.loop-point-preserved
loop-point-preserved c =
    piece_more (point_ticks c.args.start c.args.span c.args.body) c.args.points.now c.loop-point.point-index c.point-item.result c.loop-point.ticks.items c.add_point.new.ticks.items _
    c.loop-point-test.true c.point-item.is c.loop-point.invariant c.in_ok-add_point.ensures

pub returns : goal.returns
returns c =
    at_end (flat_map (point_ticks c.args.start c.args.span c.args.body)) c.args.points.now c.loop-point.point-index c.loop-point.ticks.items _ refl c.loop-point-test.false c.loop-point.invariant
