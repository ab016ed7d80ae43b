use Rattle.std.proofs.Common.{map, List, Option, subst, sym, ap, ◌∙◌}
use Rattle.ir_code.specs.declared.blocks.Block.{Block}
use Rattle.ir_code.specs.declared.blocks.Exit.{Exit}
use Rattle.ir_fold.specs.Folded.{BlockVaries, Shortens, bare_in, ways_on}
use Rattle.ir_fold.proofs.Shortening.{shortens-then, shortens-ways, vary-ways}
use Rattle.ir_fold.proofs.through.through_block.Goals as goal

pub returns-clause-short : goal.returns-clause-short
returns-clause-short c bs e =
    let b : Block = c.test_block-tested.result in
    subst (λ (x : Exit). Shortens bs c.args.block (record b { exit = x })) (ap (λ (l : List (Option Exit)). ways_on l b.exit) (sym e) ∙ sym c.ways_on.ensures)
    (shortens-then bs c.args.block b (record b { exit = ways_on (map bare_in bs) b.exit }) (c.test_block-tested.ensures.short bs e) (shortens-ways bs b))

pub returns-clause-varies : goal.returns-clause-varies
returns-clause-varies c h =
    let b : Block = c.test_block-tested.result in
    subst (λ (x : Exit). BlockVaries (record b { exit = x })) (sym c.ways_on.ensures) (vary-ways c.args.bares.now b (c.test_block-tested.ensures.varies h))
