use Rattle.std.proofs.Common.{◌≡◌, length, ◌+◌}
use Rattle.bt_io.specs.Parts.{joined}
use Rattle.bt_io.proofs.spans.whole_parts.Given as goal

abbrev pub invariant-loop-part : goal.invariant-loop-part
invariant-loop-part l = length (joined l.parts.items) + l.left ≡ l.limit
