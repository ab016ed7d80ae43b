use Rattle.std.proofs.Common.{◌≡◌, ◌+◌, ◌*◌, ◌≤◌, drop}
use Rattle.helper_abi.specs.Reading.{bytes_of_shapes}
use Rattle.helper_abi.proofs.reading.bytes_of_shapes.Given as goal

abbrev pub invariant-loop-shape : goal.invariant-loop-shape
invariant-loop-shape l = record {
  same : l.total + bytes_of_shapes (drop l.shape-index l.shapes) ≡ bytes_of_shapes l.shapes;
  few : l.total ≤ 64 * l.shape-index;
}
