use Rattle.bt_attach.specs.Steps.{NoneBroken}
use Rattle.bt_attach.proofs.probe.check_points.Given as goal

abbrev pub invariant-loop-point : goal.invariant-loop-point
invariant-loop-point l = NoneBroken l.formats l.span l.ticks l.bodies l.points l.point-index l.seen
