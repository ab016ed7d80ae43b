use Rattle.std.proofs.Common.{List, sym, subst}
use Rattle.ir_code.specs.declared.instr.Instr.{Instr}
use Rattle.ir_fold.specs.Folded.{Adds}
use Rattle.ir_fold.proofs.Adding.{adds-other}
use Rattle.ir_fold.proofs.instrs.add.Goals as goal

pub returns-in_ok-push-in_default : goal.returns-in_ok-push-in_default
returns-in_ok-push-in_default c = subst (λ (l : List Instr). Adds c.args.instrs.now c.args.instr l) (sym c.in_ok-push-in_default.ensures.ok)
    (adds-other c.args.instrs.now c.args.instr c.in_default.not-Binary c.in_default.not-Unary)
