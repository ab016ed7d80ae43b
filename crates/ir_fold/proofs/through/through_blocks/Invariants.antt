use Rattle.ir_fold.specs.Folded.{AllShorten, BlocksVary}
use Rattle.ir_fold.proofs.through.through_blocks.Given as goal

abbrev pub invariant-loop-block : goal.invariant-loop-block
invariant-loop-block l = record {
  short : AllShorten l.fn.blocks l.yielded l.short;
  varies : BlocksVary l.yielded → BlocksVary l.short;
}
