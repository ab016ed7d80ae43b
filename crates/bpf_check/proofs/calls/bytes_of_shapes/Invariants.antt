use Rattle.std.proofs.Common.{◌≡◌, ◌+◌, ◌≤◌, drop}
use Rattle.bt_core.specs.declared.limits.TheConstants.{FRAME_BYTES}
use Rattle.helper_abi.specs.Reading.{bytes_of_shapes}
use Rattle.bpf_check.proofs.calls.bytes_of_shapes.Given as goal

abbrev pub invariant-loop-shape : goal.invariant-loop-shape
invariant-loop-shape l = record {
  same : l.total + bytes_of_shapes (drop l.shape-index l.shapes) ≡ bytes_of_shapes l.shapes;
  few : l.total ≤ FRAME_BYTES;
}
