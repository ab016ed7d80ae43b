use Rattle.std.proofs.Common.{List, ℕ, subst}
use Rattle.std.specs.Prelude.{IfOk}
use Rattle.bt_top.specs.Outcomes.{IsOutcomeOfVerify}
use Rattle.bt_top.proofs.tasks.verified.Goals as goal

pub returns : goal.returns
returns c =
    subst (λ (bytes : List ℕ). IfOk c.verify_outcome-outcome.result (IsOutcomeOfVerify c.args.both.job bytes)) c.as_slice.ensures.value c.verify_outcome-outcome.ensures
