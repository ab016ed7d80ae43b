use Rattle.top_jobs.specs.Jobs.{IsJobFor}
use Rattle.top_refusals.specs.Orders.{on_script}
use Rattle.bt_words.specs.declared.order.Order.TheVariants.{Run}
use Rattle.run_output.specs.declared.job.Work.{Work}
use Rattle.run_output.specs.declared.form.Form.{Form}
use Rattle.std.proofs.Common.{subst}
use Rattle.bt_top.specs.Outcomes.{ComesTo, IsOutcomeOfRun, stats_line}
use Rattle.bt_top.proofs.Performing.{goes_on}
use Rattle.bt_top.proofs.tasks.run_files.Goals as goal

pub returns-clause-performs : goal.returns-clause-performs
returns-clause-performs g c =
    goes_on _ (IsJobFor (on_script c.args.script.now c.args.recording.now)) (ComesTo (Run c.args.serial c.args.stats c.args.json c.args.script.now c.args.recording.now)) _ c.in_ok-job.job c.in_ok-run_outcome.field-0
    (rw (c.as_str.ensures, c.as_str-2.ensures) at c.in_ok-job.ensures.performs)
    (λ contents is. (
      c.in_ok-job.job,
      is,
      subst (λ (form : Form). IsOutcomeOfRun form c.args.serial c.in_ok-job.job (λ (work : Work). stats_line form c.args.stats work.instructions)
          c.in_ok-run_outcome.field-0) c.form_of.ensures c.in_ok-run_outcome.ensures,
    ))
