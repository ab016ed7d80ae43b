use Rattle.std.proofs.Common.{◌-◌, length, List, sym, ◌∙◌, subst}
use Rattle.ir_code.specs.declared.instr.Instr.{Instr}
use Rattle.ir_fold.specs.Folded.{AllVary}
use Rattle.ir_fold.proofs.Adding.{vary-take}
use Rattle.ir_fold.proofs.Blocked.{settles}
use Rattle.ir_fold.proofs.branches.settle.Goals as goal

pub returns-in-Some-clause-better : goal.returns-in-Some-clause-better
returns-in-Some-clause-better c = λ flags.
    settles flags c.args.block c.in-Branch.first c.in-Branch.second c.in-Some.value c.take_off.new.instrs c.chosen-to.result c.in-Branch.is
    (sym c.literal_before.ensures ∙ c.in-Some.is) c.take_off.ensures c.chosen-to.ensures

pub returns-in-Some-clause-varies : goal.returns-in-Some-clause-varies
returns-in-Some-clause-varies c vary = record {
  operators = subst (λ (l : List Instr). AllVary l) (sym c.take_off.ensures) (vary-take (length c.args.block.instrs - 1) c.args.block.instrs vary);
  branch = tt;
}
