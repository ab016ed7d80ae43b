use Rattle.std.proofs.Common.{refl}
use Rattle.std.proofs.lemmas.Result.{err_from_is_err_and}
use Rattle.bt_walk.proofs.Binds.{Part-first, Whole-next, Given-done, Lifted-done, Lifted-begun, Stopped}
use Rattle.bt_walk.proofs.stmt.cut.Goals as goal

pub returns-in_err-tell-clause-made : goal.returns-in_err-tell-clause-made
returns-in_err-tell-clause-made g c scene frame =
    let p = err_from_is_err_and c.from_residual.result c.from_residual.ensures.1 in
    Stopped _ _ _ _ p.1 (Part-first _ _ _ _ _ _ (Lifted-begun _ scene frame _ _ c.in_err-tell.ensures.performed))

pub returns-clause-made : goal.returns-clause-made
returns-clause-made g c scene frame = (Whole-next _ _ _ _ _ _ _ _ (Lifted-done _ scene frame _ _ _ c.in_ok-tell.ensures.performed) _ _ (Given-done _ _ _ _ _ _ refl refl))

pub returns-clause-kept : goal.returns-clause-kept
returns-clause-kept g c = c.in_ok-tell.ensures.kept
