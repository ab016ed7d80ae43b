use Rattle.std.proofs.Common.{◌≡◌, ◌++◌, drop, length}
use Rattle.helper_abi.specs.Reading.{bytes_of_shapes, values_in}
use Rattle.helper_abi.proofs.reading.values_in.Given as goal

abbrev pub invariant-loop-shape : goal.invariant-loop-shape
invariant-loop-shape l = record {
  same : l.values ++ values_in (drop l.shape-index l.shapes) l.rest ≡ values_in l.shapes l.bytes;
  long : length l.rest ≡ bytes_of_shapes (drop l.shape-index l.shapes);
}
