use Rattle.std.proofs.Common.{false, length, ap, ◌∙◌}
use Rattle.run_output.specs.declared.job.Work.{Work}
use Rattle.run_output.specs.declared.form.Form.TheVariants.{Text}
use Rattle.bt_top.specs.Outcomes.{summary_line}
use Rattle.bt_top.proofs.Performing.{ran_with}
use Rattle.bt_top.proofs.made.summed_up.Goals as goal

pub returns : goal.returns
returns g c =
    ran_with Text false c.args.job.now c.in_ok-work.work (λ (work : Work). summary_line c.args.n (length work.steps)) c.in_ok-rest.rest
    c.in_ok-work.ensures (c.in_ok-rest.ensures ∙ ap (λ steps. summary_line c.args.n steps) c.len.ensures)
