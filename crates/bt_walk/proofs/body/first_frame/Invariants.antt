use Rattle.std.proofs.Common.{◌≡◌, take, map}
use Rattle.map_ops.specs.Values.{unassigned}
use Rattle.bt_walk.proofs.body.first_frame.Given as goal

abbrev pub invariant-loop-shape : goal.invariant-loop-shape
invariant-loop-shape l = l.variables ≡ map unassigned (take l.shape-index l.shapes)
