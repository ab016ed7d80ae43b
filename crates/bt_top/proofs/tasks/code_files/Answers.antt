use Rattle.top_jobs.specs.Jobs.{IsJobFor}
use Rattle.top_refusals.specs.Orders.{on_script}
use Rattle.bt_words.specs.declared.order.Order.TheVariants.{Code}
use Rattle.bt_top.specs.Outcomes.{ComesTo}
use Rattle.bt_top.proofs.Performing.{goes_on}
use Rattle.bt_top.proofs.tasks.code_files.Goals as goal

pub returns-clause-performs : goal.returns-clause-performs
returns-clause-performs g c =
    goes_on _ (IsJobFor (on_script c.args.script.now c.args.recording.now)) (ComesTo (Code c.args.script.now c.args.recording.now)) _ c.in_ok-job.job c.in_ok-code_outcome.field-0
    (rw (c.as_str.ensures, c.as_str-2.ensures) at c.in_ok-job.ensures.performs)
    (λ contents is. (c.in_ok-job.job, is, c.in_ok-code_outcome.ensures))
