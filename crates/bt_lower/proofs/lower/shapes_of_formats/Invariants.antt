use Rattle.std.proofs.Common.{◌≡◌, take, map}
use Rattle.fmt_text.specs.Arguments.{argument_shapes}
use Rattle.bt_lower.proofs.lower.shapes_of_formats.Given as goal

abbrev pub invariant-loop-pieces : goal.invariant-loop-pieces
invariant-loop-pieces l = l.shapes ≡ map argument_shapes (take l.pieces-index l.formats)
