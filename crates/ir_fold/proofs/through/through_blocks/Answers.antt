use Rattle.std.proofs.Common.{◌++◌, ◌∷◌, [], sym, subst, List, map, ap, ◌∙◌}
use Rattle.ir_code.specs.declared.blocks.Block.{Block}
use Rattle.ir_fold.specs.Folded.{AllShorten, BlocksVary, bare_in}
use Rattle.ir_fold.proofs.Blocked.{vary-append}
use Rattle.ir_fold.proofs.Shortening.{shorten-append, short-vary}
use Rattle.ir_fold.proofs.through.through_blocks.Goals as goal

pub loop-block-preserved : goal.loop-block-preserved
loop-block-preserved c =
    let inv = c.loop-block.invariant in
    let q = c.through_block.ensures in
    let same = c.as_slice-in-loop-block.ensures ∙ c.in_ok-bares.ensures ∙ ap (map bare_in) c.as_slice.ensures in
    record {
      short = subst (λ (l : List Block). AllShorten c.args.blocks (c.loop-block.yielded ++ c.in-Some.block ∷ []) l) (sym c.in_ok-push.ensures.ok)
          (shorten-append c.args.blocks c.loop-block.yielded c.loop-block.short c.in-Some.block c.through_block.result inv.short (q.short c.args.blocks same));
      varies = λ h.
          (let v = short-vary c.loop-block.yielded c.in-Some.block h in
          subst (λ (l : List Block). BlocksVary l) (sym c.in_ok-push.ensures.ok) (vary-append c.loop-block.short c.through_block.result (inv.varies v.0) (q.varies v.1)));
    }
