use Rattle.std.proofs.Common.{List, length, false, true, Some, None, sym, subst}
use Rattle.bpf_encode.specs.declared.program.Program.{Program}
use Rattle.run_output.specs.declared.job.Work.{Work}
use Rattle.run_output.specs.declared.form.Form.TheVariants.{Text}
use Rattle.bt_top.specs.Outcomes.{IsOutcomeOfRun, summary_line}
use Rattle.bt_top.proofs.made.big_outcome.Goals as goal

pub returns-clause-comes : goal.returns-clause-comes
returns-clause-comes g c = (
  c.in_ok-job.job,
  c.in_ok-job.ensures.job,
  subst (λ (l : List Program). IsOutcomeOfRun Text false c.in_ok-job.job (λ (work : Work). summary_line c.args.n (length work.steps))
      (record { work = Some c.in_ok-work.work; programs = l; refused = None; prints = true; rest = c.in_ok-work.rest }))
      (sym c.programs_of.ensures) c.in_ok-work.ensures,
)
