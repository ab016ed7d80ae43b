use Rattle.std.proofs.Common.{◌≡◌, ◌≤◌, length}
use Rattle.fmt_text.specs.Reading.{width_after}
use Rattle.fmt_text.proofs.conversion.digits_at.Given as goal

-- what is read from here is what is read from the front
abbrev pub invariant-loop-rest : goal.invariant-loop-rest
invariant-loop-rest l = record {
  left : width_after l.width l.rest ≡ width_after 0 l.bytes;
  narrow : l.width ≤ 255;
}

abbrev pub decreases-loop-rest : goal.decreases-loop-rest
decreases-loop-rest l = length l.rest
