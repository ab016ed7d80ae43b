use Rattle.std.proofs.Common.{take}
use Rattle.bt_io.specs.Parts.{joined}
use Rattle.recordings.specs.Places.{AreBytes}
use Rattle.top_jobs.proofs.judge.parts_are_bytes.Given as goal

abbrev pub invariant-loop-part : goal.invariant-loop-part
invariant-loop-part l = AreBytes (joined (take l.part-index l.parts))
