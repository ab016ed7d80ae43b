use Rattle.std.proofs.Common.{◌-◌, length, List, [], sym, ◌∙◌, subst, inr}
use Rattle.ir_code.specs.declared.instr.Instr.{Instr}
use Rattle.ir_fold.specs.Folded.{AllVary}
use Rattle.ir_fold.proofs.Adding.{vary-take}
use Rattle.ir_fold.proofs.Shortening.{tests-literal, tests-truth}
use Rattle.ir_fold.proofs.through.test_here.Goals as goal

pub returns-in-Some-clause-tests : goal.returns-in-Some-clause-tests
returns-in-Some-clause-tests c =
    inr (tests-literal c.args.block c.args.first c.args.second c.in-Some.value c.take_off.new.instrs c.chosen-to.result (sym c.literal_before.ensures ∙ c.in-Some.is) c.take_off.ensures c.chosen-to.ensures)

pub returns-in-Some-clause-varies : goal.returns-in-Some-clause-varies
returns-in-Some-clause-varies c h = record {
  operators = subst (λ (l : List Instr). AllVary l) (sym c.take_off.ensures) (vary-take (length c.args.block.instrs - 1) c.args.block.instrs h.operators);
  branch = tt;
}

pub returns-then-ends_in_truth-clause-tests : goal.returns-then-ends_in_truth-clause-tests
returns-then-ends_in_truth-clause-tests c =
    inr (tests-truth c.args.block c.settle.result c.args.first c.args.second c.take_off-then-ends_in_truth.new.instrs (sym c.ends_in_truth.ensures ∙ c.if-ends_in_truth.true) c.take_off-then-ends_in_truth.ensures (c.settle.ensures.better []))

pub returns-then-ends_in_truth-clause-varies : goal.returns-then-ends_in_truth-clause-varies
returns-then-ends_in_truth-clause-varies c h =
    c.settle.ensures.varies (subst (λ (l : List Instr). AllVary l) (sym c.take_off-then-ends_in_truth.ensures) (vary-take (length c.args.block.instrs - 1) c.args.block.instrs h.operators))
