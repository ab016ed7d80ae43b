use Rattle.std.proofs.Common.{◌++◌, ◌∷◌, [], sym, subst, List, map, Bool, ap, ◌∙◌}
use Rattle.ir_code.specs.declared.blocks.Block.{Block}
use Rattle.ir_fold.specs.Folded.{AllBetter, BlocksVary, BettersBlock, block_ends}
use Rattle.ir_fold.proofs.Blocked.{better-append, vary-append}
use Rattle.ir_fold.proofs.fold.fold_blocks.Goals as goal

pub loop-block-preserved : goal.loop-block-preserved
loop-block-preserved c =
    let inv = c.loop-block.invariant in
    let q = c.in_ok-fold_block.ensures in
    let flags = map block_ends c.args.blocks in
    let same = c.as_slice-in-loop-block.ensures ∙ c.in_ok-flags.ensures ∙ ap (map block_ends) c.as_slice.ensures in
    record {
      better = subst (λ (l : List Block). AllBetter flags (c.loop-block.yielded ++ c.in-Some.block ∷ []) l) (sym c.in_ok-push.ensures.ok)
          (better-append flags c.loop-block.yielded c.loop-block.folded c.in-Some.block c.in_ok-fold_block.field-0 inv.better
          (subst (λ (l : List Bool). BettersBlock l c.in-Some.block c.in_ok-fold_block.field-0) same q.better));
      varies = subst (λ (l : List Block). BlocksVary l) (sym c.in_ok-push.ensures.ok)
          (vary-append c.loop-block.folded c.in_ok-fold_block.field-0 inv.varies q.varies);
    }
