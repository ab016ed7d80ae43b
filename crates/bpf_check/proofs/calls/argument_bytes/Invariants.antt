use Rattle.std.proofs.Common.{◌≡◌, ◌+◌, ◌≤◌, drop}
use Rattle.bt_core.specs.declared.limits.TheConstants.{FRAME_BYTES}
use Rattle.fmt_text.specs.Arguments.{argument_shapes}
use Rattle.helper_abi.specs.Reading.{bytes_of_shapes}
use Rattle.bpf_check.proofs.calls.argument_bytes.Given as goal

abbrev pub invariant-loop-piece : goal.invariant-loop-piece
invariant-loop-piece l = record {
  same : l.total + bytes_of_shapes (argument_shapes (drop l.piece-index l.pieces)) ≡ bytes_of_shapes (argument_shapes l.pieces);
  few : l.total ≤ FRAME_BYTES;
}
