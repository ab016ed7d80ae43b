use Rattle.std.proofs.Common.{◌≡◌}
use Rattle.rec_format.specs.Parted.{shared_bytes}
use Rattle.rec_format.proofs.parted.shared.Given as goal

abbrev pub invariant-loop-part : goal.invariant-loop-part
invariant-loop-part l = shared_bytes l.files.items ≡ l.yielded
