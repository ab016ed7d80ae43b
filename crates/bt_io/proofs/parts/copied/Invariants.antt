use Rattle.std.proofs.Common.{◌≡◌, take}
use Rattle.bt_io.specs.Parts.{joined}
use Rattle.bt_io.proofs.parts.copied.Given as goal

abbrev pub invariant-loop-part : goal.invariant-loop-part
invariant-loop-part l = l.bytes.items ≡ joined (take l.part-index l.parts)
