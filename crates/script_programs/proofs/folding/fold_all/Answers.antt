use Rattle.std.proofs.Common.{◌++◌, ◌∷◌, [], sym, subst, List}
use Rattle.std.specs.List.{AllZip}
use Rattle.ir_code.specs.declared.probe.IrProbe.{IrProbe}
use Rattle.ir_fold.specs.Folded.{IsFoldOf}
use Rattle.script_programs.proofs.StillLowered.{one_more}
use Rattle.script_programs.proofs.folding.fold_all.Goals as goal

pub loop-probe-preserved : goal.loop-probe-preserved
loop-probe-preserved c =
    subst (λ (l : List IrProbe). AllZip IsFoldOf (c.loop-probe.yielded ++ c.in-Some.probe ∷ []) l) (sym c.in_ok-push.ensures.ok)
    (one_more c.loop-probe.yielded c.loop-probe.folded c.in-Some.probe c.in_ok-fold.field-0 c.loop-probe.invariant c.in_ok-fold.ensures)
