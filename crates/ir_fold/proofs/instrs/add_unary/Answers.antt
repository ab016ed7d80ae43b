use Rattle.std.proofs.Common.{◌++◌, ◌-◌, ◌∷◌, [], take, length, List, sym, ap, ◌∙◌, subst}
use Rattle.ir_code.specs.declared.instr.Instr.{Instr}
use Rattle.ir_code.specs.declared.instr.Instr.TheVariants as i
use Rattle.ir_fold.specs.Folded.{Adds}
use Rattle.ir_fold.proofs.Adding.{adds-push, adds-unary}
use Rattle.ir_fold.proofs.instrs.add_unary.Goals as goal

pub returns-in_ok-put_over-in-Some : goal.returns-in_ok-put_over-in-Some
returns-in_ok-put_over-in-Some c = subst (λ (l : List Instr). Adds c.args.instrs.now (i.Unary c.args.op) l) (sym (c.in_ok-put_over-in-Some.ensures
    ∙ ap (λ (x : Instr). take (length c.args.instrs.now - 1) c.args.instrs.now ++ x ∷ []) c.unary_literal.ensures))
    (adds-unary c.args.instrs.now c.args.op c.in-Some.a (sym c.literal_before.ensures ∙ c.in-Some.is))

pub returns-in_ok-push-in-None : goal.returns-in_ok-push-in-None
returns-in_ok-push-in-None c = subst (λ (l : List Instr). Adds c.args.instrs.now (i.Unary c.args.op) l) (sym c.in_ok-push-in-None.ensures.ok)
    (adds-push c.args.instrs.now (i.Unary c.args.op) (sym c.literal_before.ensures ∙ c.in-None.is))
