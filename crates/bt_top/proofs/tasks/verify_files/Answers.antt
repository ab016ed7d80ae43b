use Rattle.std.proofs.Common.{List, ℕ, sym, subst}
use Rattle.std.proofs.lemmas.Result.{err_from_is_err_and}
use Rattle.bt_words.specs.declared.order.Order.TheVariants.{Verify}
use Rattle.top_jobs.specs.Doing.{IsAccountJob}
use Rattle.top_refusals.specs.Orders.{on_account}
use Rattle.bt_top.specs.Outcomes.{ComesTo, IsOutcomeOfVerify}
use Rattle.bt_top.proofs.Performing.{goes_on, runs_out, stays_refused}
use Rattle.bt_top.proofs.tasks.verify_files.Goals as goal

pub returns-clause-performs : goal.returns-clause-performs
returns-clause-performs g c =
    goes_on _ (IsAccountJob (on_account c.args.script.now c.args.recording.now c.args.account.now))
    (ComesTo (Verify c.args.script.now c.args.recording.now c.args.account.now)) _ c.in_ok-both.both c.in_ok-verified.field-0
    (rw (c.as_str.ensures, c.as_str-2.ensures, c.as_str-3.ensures) at c.in_ok-both.ensures.performs)
    (λ contents is. (
      c.in_ok-both.both.job,
      is.job,
      subst (λ (bytes : List ℕ). IsOutcomeOfVerify c.in_ok-both.both.job bytes c.in_ok-verified.field-0) (sym is.account) c.in_ok-verified.ensures,
    ))

pub returns-in_err-both-clause-performs : goal.returns-in_err-both-clause-performs
returns-in_err-both-clause-performs g c =
    let p = err_from_is_err_and c.from_residual.result c.from_residual.ensures.1 in
    rw (p.1, p.2)
    (stays_refused (on_account c.args.script.now c.args.recording.now c.args.account.now)
    (IsAccountJob (on_account c.args.script.now c.args.recording.now c.args.account.now))
    (ComesTo (Verify c.args.script.now c.args.recording.now c.args.account.now)) _ c.in_err-both.field-0.0
    (rw (c.as_str.ensures, c.as_str-2.ensures, c.as_str-3.ensures) at c.in_err-both.ensures.performs))

pub returns-in_err-verified-clause-performs : goal.returns-in_err-verified-clause-performs
returns-in_err-verified-clause-performs g c =
    let p = err_from_is_err_and c.from_residual-in_err-verified.result c.from_residual-in_err-verified.ensures.1 in
    rw (p.1, p.2)
    (runs_out _ _ (IsAccountJob (on_account c.args.script.now c.args.recording.now c.args.account.now))
    (ComesTo (Verify c.args.script.now c.args.recording.now c.args.account.now)) _ c.in_ok-both.both
    (rw (c.as_str.ensures, c.as_str-2.ensures, c.as_str-3.ensures) at c.in_ok-both.ensures.performs))
