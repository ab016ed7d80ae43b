use Rattle.std.proofs.Common.{◌≡◌, take}
use Rattle.bt_io.specs.Parts.{joined}
use Rattle.rec_format.specs.Parted.{shared_bytes}
use Rattle.rec_format.proofs.parted.whole.Given as goal

abbrev pub invariant-loop-part : goal.invariant-loop-part
invariant-loop-part l = l.bytes.items ≡ joined (shared_bytes (take l.part-index l.parts))
