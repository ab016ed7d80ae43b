use Rattle.std.proofs.Common.{◌≡◌, ◌++◌, drop}
use Rattle.std.specs.List.{flat_map}
use Rattle.bt_attach.specs.Attaching.{point_ticks}
use Rattle.bt_attach.proofs.ticks.add_points.Given as goal

-- what there is, with what is to come, is the whole
abbrev pub invariant-loop-point : goal.invariant-loop-point
invariant-loop-point l =
    l.ticks.items ++ flat_map (point_ticks l.start l.span l.body) (drop l.point-index l.points) ≡ l.fn.ticks.items ++ flat_map (point_ticks l.start l.span l.body) l.points
