use Rattle.std.proofs.Common.{◌≡◌, ◌+◌, ◌≤◌, drop, length}
use Rattle.fmt_text.specs.Arguments.{argument_shapes}
use Rattle.helper_abi.specs.Reading.{bytes_of_shapes}
use Rattle.helper_abi.proofs.arguments.argument_room.Given as goal

abbrev pub invariant-loop-piece : goal.invariant-loop-piece
invariant-loop-piece l = record {
  counted : l.count + length (argument_shapes (drop l.piece-index l.pieces)) ≡ length (argument_shapes l.pieces);
  same : l.bytes + bytes_of_shapes (argument_shapes (drop l.piece-index l.pieces)) ≡ bytes_of_shapes (argument_shapes l.pieces);
  few : l.count ≤ l.piece-index;
  within : l.bytes ≤ l.most;
}
