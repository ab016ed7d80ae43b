use Rattle.std.proofs.Common.{ap, ◌∙◌}
use Rattle.std.specs.Prelude.{Ok}
use Rattle.bt_top.specs.Outcomes.{verified_line}
use Rattle.bt_top.proofs.Performing.{denied_verified, ok_known, plain_with, verified_by}
use Rattle.bt_top.proofs.accounts.verify_outcome.Goals as goal

pub returns-in_ok-verified_line-in-Ok : goal.returns-in_ok-verified_line-in-Ok
returns-in_ok-verified_line-in-Ok c =
    verified_by c.args.job.now c.args.account.now (Ok c.in-Ok.steps) _ (ok_known c.in-Ok.steps) c.in-Ok.ensures.answer c.in-Ok.ensures.only
    (plain_with c.new.result c.in_ok-verified_line-in-Ok.field-0 _ c.new.ensures
    (c.in_ok-verified_line-in-Ok.ensures ∙ ap (λ n. verified_line n) c.len.ensures))

pub returns-in-Err : goal.returns-in-Err
returns-in-Err c =
    denied_verified c.args.job.now c.args.account.now c.in-Err.error c.denied_outcome.result c.in-Err.ensures.answer c.in-Err.ensures.only
    c.denied_outcome.ensures.known c.denied_outcome.ensures.outcome
