use Rattle.std.proofs.Common.{refl, arith}
use Rattle.ir_fold.proofs.Blocked.{lead-too, typed-too, better-slots, folds}
use Rattle.ir_fold.proofs.fold.fold_literals.Goals as goal

pub invariant_of-result : goal.invariant_of-result
invariant_of-result c = record { led = lead-too _ c.args.probe.blocks.list c.in_ok-list.list c.in_ok-list.ensures.better c.args.probe.blocks.led }

pub invariant_of-result-2 : goal.invariant_of-result-2
invariant_of-result-2 c = record {
  typed = typed-too _ c.args.probe.blocks.list c.in_ok-list.list c.in_ok-list.ensures.better _ c.args.probe.typed;
  covered = (let all = better-slots _ c.args.probe.blocks.list c.in_ok-list.list c.in_ok-list.ensures.better in let within = c.args.probe.covered in omega
      (arith, all, within));
}

pub returns : goal.returns
returns c = folds c.args.probe _ c.in_ok-list.ensures.better refl refl refl refl refl c.in_ok-list.ensures.varies
