use Rattle.std.proofs.Common.{length}
use Rattle.fmt_text.proofs.Uniqueness.{Reached}
use Rattle.fmt_text.proofs.read.read.Given as goal

abbrev pub invariant-loop-front : goal.invariant-loop-front
invariant-loop-front l = Reached l.text l.rest l.pieces.done l.pieces.literal

abbrev pub decreases-loop-front : goal.decreases-loop-front
decreases-loop-front l = length l.rest
