use Rattle.std.proofs.Common.{List, sym, ◌∙◌, subst}
use Rattle.ir_code.specs.declared.instr.Instr.{Instr}
use Rattle.ir_code.specs.declared.instr.Instr.TheVariants as i
use Rattle.ir_fold.specs.Folded.{Adds}
use Rattle.ir_fold.proofs.Adding.{adds-push, adds-pop}
use Rattle.ir_fold.proofs.instrs.add_pop.Goals as goal

pub returns-in-Some : goal.returns-in-Some
returns-in-Some c = subst (λ (l : List Instr). Adds c.args.instrs.now i.Pop l) (sym c.take_off.ensures)
    (adds-pop c.args.instrs.now c.in-Some.field-0 (sym c.literal_before.ensures ∙ c.in-Some.is))

pub returns-in_ok-push-in-None : goal.returns-in_ok-push-in-None
returns-in_ok-push-in-None c = subst (λ (l : List Instr). Adds c.args.instrs.now i.Pop l) (sym c.in_ok-push-in-None.ensures.ok)
    (adds-push c.args.instrs.now i.Pop tt)
