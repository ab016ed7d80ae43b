use Rattle.std.proofs.Common.{[], subst}
use Rattle.std.specs.Prelude.{IfOk}
use Rattle.run_objects.specs.Objects.{Stand}
use Rattle.run_objects.specs.Worlds.{World}
use Rattle.bt_run.proofs.run.job_objects.Goals as goal

pub returns : goal.returns
returns c =
    subst (λ (w : World). IfOk c.new_objects.result (λ objects. Stand w [] objects))
    (λ i. record { cpus = c.len-cpus.ensures i; ticks = c.len-ticks.ensures i; maps = c.args.job.now.typed.maps }) c.new_objects.ensures
