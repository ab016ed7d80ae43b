use Rattle.ir_fold.proofs.Better.{betters-one}
use Rattle.ir_fold.proofs.instrs.fold_instrs.Goals as goal

pub loop-instr-preserved : goal.loop-instr-preserved
loop-instr-preserved c =
    let q = c.in_ok-add.ensures in
    record {
      better = betters-one c.loop-instr.yielded c.loop-instr.folded c.add.new.instrs c.in-Some.instr c.loop-instr.invariant.better q.better;
      varies = q.varies c.loop-instr.invariant.varies;
    }
