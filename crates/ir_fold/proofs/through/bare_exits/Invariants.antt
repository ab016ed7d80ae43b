use Rattle.std.proofs.Common.{◌≡◌, map, take}
use Rattle.ir_fold.specs.Folded.{bare_in}
use Rattle.ir_fold.proofs.through.bare_exits.Given as goal

abbrev pub invariant-loop-block : goal.invariant-loop-block
invariant-loop-block l = l.bares ≡ map bare_in (take l.block-index l.blocks)
