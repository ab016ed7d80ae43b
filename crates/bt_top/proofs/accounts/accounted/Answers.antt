use Rattle.std.proofs.Common.{ap, refl, sym, subst, ◌∙◌}
use Rattle.bt_top.specs.Outcomes.{account_outcome}
use Rattle.bt_top.proofs.Performing.{accounted_for}
use Rattle.bt_top.proofs.accounts.accounted.Goals as goal

pub returns : goal.returns
returns g c =
    accounted_for c.args.serial c.args.job.now c.in_ok-work.work c.as_slice.result.now c.of.result c.in_ok-work.ensures c.as_slice.ensures
    (c.of.ensures ∙ c.in_ok-account.ensures.bytes) c.in_ok-account.ensures.fits c.in_ok-account.ensures.few c.in_ok-account.ensures.short
