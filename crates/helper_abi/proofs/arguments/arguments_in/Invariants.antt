use Rattle.std.proofs.Common.{◌≡◌, ◌++◌, drop, length}
use Rattle.fmt_text.specs.Arguments.{argument_shapes}
use Rattle.helper_abi.specs.Reading.{bytes_of_shapes, values_in}
use Rattle.helper_abi.proofs.arguments.arguments_in.Given as goal

abbrev pub invariant-loop-piece : goal.invariant-loop-piece
invariant-loop-piece l = record {
  same : l.values ++ values_in (argument_shapes (drop l.piece-index l.pieces)) l.rest ≡ values_in (argument_shapes l.pieces) l.bytes;
  long : length l.rest ≡ bytes_of_shapes (argument_shapes (drop l.piece-index l.pieces));
}
