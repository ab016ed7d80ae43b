use Rattle.std.proofs.Common.{map}
use Rattle.fmt_text.specs.Arguments.{argument_shapes}
use Rattle.bt_lower.specs.Bodies.{LoweredSoFar}
use Rattle.bt_lower.proofs.lower.lower.Given as goal

abbrev pub invariant-loop-body : goal.invariant-loop-body
invariant-loop-body l = LoweredSoFar l.script.maps (map argument_shapes l.script.formats) l.script.bodies l.body-index l.probes
