use Rattle.std.proofs.Common.{refl, arith}
use Rattle.ir_fold.proofs.Shortening.{short-led, short-typed, shorten-slots, short-folds}
use Rattle.ir_fold.proofs.through.through.Goals as goal

pub invariant_of-result : goal.invariant_of-result
invariant_of-result c = record { led = short-led c.args.probe.blocks.list c.in_ok-list.list c.in_ok-list.ensures.short c.args.probe.blocks.led }

pub invariant_of-result-2 : goal.invariant_of-result-2
invariant_of-result-2 c = record {
  typed = short-typed c.args.probe.blocks.list c.in_ok-list.list c.in_ok-list.ensures.short _ c.args.probe.typed;
  covered = (let all = shorten-slots _ c.args.probe.blocks.list c.in_ok-list.list c.in_ok-list.ensures.short in let within = c.args.probe.covered in omega
      (arith, all, within));
}

pub returns : goal.returns
returns c h = short-folds c.args.probe _ c.in_ok-list.ensures.short refl refl refl refl refl (c.in_ok-list.ensures.varies h)
