use Rattle.std.proofs.Common.{◌≡◌, take}
use Rattle.fmt_text.specs.Arguments.{argument_shapes}
use Rattle.fmt_text.proofs.arguments.argument_shapes.Given as goal

-- the types that the pieces so far want
abbrev pub invariant-loop-piece : goal.invariant-loop-piece
invariant-loop-piece l = l.shapes ≡ argument_shapes (take l.piece-index l.pieces)
