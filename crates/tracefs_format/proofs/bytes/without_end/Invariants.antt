use Rattle.std.proofs.Common.{◌≡◌, length}
use Rattle.event_layout.specs.Bytes.{without_end}
use Rattle.tracefs_format.specs.Classes.{is_in}
use Rattle.tracefs_format.proofs.bytes.without_end.Given as goal

abbrev pub invariant-loop-rest : goal.invariant-loop-rest
invariant-loop-rest l = without_end (is_in l.class) l.rest ≡ without_end (is_in l.class) l.bytes

abbrev pub decreases-loop-rest : goal.decreases-loop-rest
decreases-loop-rest l = length l.rest
