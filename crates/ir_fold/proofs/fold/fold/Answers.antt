use Rattle.ir_fold.proofs.Shortening.{folds-then}
use Rattle.ir_fold.proofs.fold.fold.Goals as goal

pub returns : goal.returns
returns c =
    let once = folds-then c.args.probe c.in_ok-folded.folded c.in_ok-tested.tested c.in_ok-folded.ensures (c.in_ok-tested.ensures c.in_ok-folded.ensures.varies) in
    folds-then c.args.probe c.in_ok-tested.tested c.in_ok-short.short once (c.in_ok-short.ensures once.varies)
