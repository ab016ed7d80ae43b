use Rattle.std.proofs.Common.{◌++◌, ◌-◌, ◌∷◌, [], take, length, List, sym, ap, ◌∙◌, subst, inl, inr}
use Rattle.ir_code.specs.declared.instr.Instr.{Instr}
use Rattle.ir_code.specs.declared.instr.Instr.TheVariants as i
use Rattle.ir_fold.specs.Folded.{Adds}
use Rattle.ir_fold.proofs.Adding.{adds-push, adds-binary}
use Rattle.ir_fold.proofs.instrs.add_binary.Goals as goal

pub returns-in_default : goal.returns-in_default
returns-in_default c = subst (λ (l : List Instr). Adds c.args.instrs.now (i.Binary c.args.op) l) (sym c.in_ok-push.ensures.ok)
    (adds-push c.args.instrs.now (i.Binary c.args.op) (inl (sym c.literal_before.ensures ∙ c.in_default.is)))

pub returns-in_default-literal_before : goal.returns-in_default-literal_before
returns-in_default-literal_before c = subst (λ (l : List Instr). Adds c.args.instrs.now (i.Binary c.args.op) l) (sym c.in_ok-push-2.ensures.ok)
    (adds-push c.args.instrs.now (i.Binary c.args.op) (inr (sym c.literal_before-2.ensures ∙ c.in_default-literal_before.is)))

pub returns : goal.returns
returns c =
    subst (λ (l : List Instr). Adds c.args.instrs.now (i.Binary c.args.op) l) (sym (c.in_ok-put_over.ensures
    ∙ ap (λ (x : Instr). take (length c.args.instrs.now - 2) c.args.instrs.now ++ x ∷ []) c.binary_literal.ensures))
    (adds-binary c.args.instrs.now c.args.op c.in-Some.a c.in-Some-literal_before.b (sym c.literal_before.ensures
    ∙ c.in-Some.is) (sym c.literal_before-2.ensures ∙ c.in-Some-literal_before.is))
