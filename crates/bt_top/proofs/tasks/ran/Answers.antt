use Rattle.run_output.specs.declared.job.Work.{Work}
use Rattle.bt_top.specs.Outcomes.{stats_line}
use Rattle.bt_top.proofs.Performing.{ran_with}
use Rattle.bt_top.proofs.tasks.ran.Goals as goal

pub returns : goal.returns
returns g c =
    ran_with c.args.form c.args.serial c.args.job.now c.in_ok-work.work (λ (work : Work). stats_line c.args.form c.args.stats work.instructions) c.in_ok-rest.rest
    c.in_ok-work.ensures c.in_ok-rest.ensures
