use Rattle.account_format.proofs.KeyLoop.{SoFar}
use Rattle.account_format.proofs.value.key_at.Given as goal

abbrev pub invariant-loop-shape : goal.invariant-loop-shape
invariant-loop-shape l = SoFar l.shapes l.bytes l.shape-index l.parts.items l.rest
