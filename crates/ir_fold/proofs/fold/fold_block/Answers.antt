use Rattle.std.proofs.Common.{subst}
use Rattle.ir_code.specs.declared.blocks.Exit.{Exit}
use Rattle.ir_fold.specs.Folded.{BettersBlock, threaded_exit}
use Rattle.ir_fold.proofs.Blocked.{block-then, block-instrs, block-thread, with_instrs}
use Rattle.ir_fold.proofs.fold.fold_block.Goals as goal

pub returns-clause-better : goal.returns-clause-better
returns-clause-better c =
    let flags = c.args.flags.now in
    let b = c.args.block in
    let d = with_instrs b c.in_ok-instrs.instrs in
    block-then flags b d c.settle.result (block-instrs flags b c.in_ok-instrs.instrs c.in_ok-instrs.ensures.better)
    (block-then flags d (record d { exit = threaded_exit flags c.args.number b.exit }) c.settle.result (block-thread flags c.args.number d)
    (subst (λ (x : Exit). BettersBlock flags (record d { exit = x }) c.settle.result) c.threaded_exit.ensures (c.settle.ensures.better flags)))
