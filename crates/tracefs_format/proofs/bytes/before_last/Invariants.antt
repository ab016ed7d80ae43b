use Rattle.std.proofs.Common.{◌≡◌, length}
use Rattle.event_layout.specs.Bytes.{before_last}
use Rattle.tracefs_format.proofs.bytes.before_last.Given as goal

abbrev pub invariant-loop-rest : goal.invariant-loop-rest
invariant-loop-rest l = before_last l.byte l.rest ≡ before_last l.byte l.bytes

abbrev pub decreases-loop-rest : goal.decreases-loop-rest
decreases-loop-rest l = length l.rest
