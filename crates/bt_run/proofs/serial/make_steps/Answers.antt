use Rattle.std.proofs.Common.{◌+◌, ap, ◌∙◌}
use Rattle.step_list.specs.Lists.{steps_in}
use Rattle.run_output.specs.Jobs.{plans_by}
use Rattle.bt_run.proofs.TakeLemmas.{all_made}
use Rattle.bt_run.proofs.serial.make_steps.Goals as goal

pub returns : goal.returns
returns c =
    let b = c.in_ok-begun.ensures in let m = c.in_ok-taken.ensures in let f = c.in_ok-ended.ensures in
    all_made c.args.job.now (plans_by c.args.job.now c.args.codes.now) c.args.schedule c.into_parts-objects.result.0 c.in_ok-closed.closed c.end.new.port c.begin.new.port.steps c.take_all.new.port.steps (steps_in c.into_parts-objects.result.1)
    c.in_ok-begun.begun c.in_ok-taken.taken c.in_ok-ended.ended c.in_ok-sum-2.field-0
    c.requires.order b.serial b.counted m.serial m.counted f.serial f.counted (c.in_ok-sum-2.ensures.both ∙ ap (λ n. n + c.in_ok-ended.ended) c.in_ok-sum.ensures.both)
    (f.begun ∙ m.begun ∙ b.begun) f.world c.into_parts-objects.ensures c.in_ok-closed.ensures
