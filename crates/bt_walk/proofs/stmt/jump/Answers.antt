use Rattle.std.proofs.Common.{refl}
use Rattle.std.proofs.lemmas.Result.{err_from_is_err_and}
use Rattle.bt_walk.proofs.Binds.{Part-first, Whole-next, Given-done, Lifted-done, Lifted-begun}
use Rattle.bt_walk.proofs.stmt.jump.Goals as goal

pub returns-in_err-tell-in-Exit-clause-made : goal.returns-in_err-tell-in-Exit-clause-made
returns-in_err-tell-in-Exit-clause-made g c scene frame =
    let p = err_from_is_err_and c.from_residual.result c.from_residual.ensures.1 in
    rw (p.1, c.in-Exit.is) ((Part-first _ _ _ _ _ _ (Lifted-begun _ scene frame _ _ c.in_err-tell-in-Exit.ensures.performed)))

pub returns-in-Break-clause-made : goal.returns-in-Break-clause-made
returns-in-Break-clause-made g c scene frame = rw c.in-Break.is (Given-done _ _ _ _ _ _ refl refl)

pub returns-in-Continue-clause-made : goal.returns-in-Continue-clause-made
returns-in-Continue-clause-made g c scene frame = rw c.in-Continue.is (Given-done _ _ _ _ _ _ refl refl)

pub returns-in-Return-clause-made : goal.returns-in-Return-clause-made
returns-in-Return-clause-made g c scene frame = rw c.in-Return.is (Given-done _ _ _ _ _ _ refl refl)

pub returns-in_ok-tell-in-Exit-clause-made : goal.returns-in_ok-tell-in-Exit-clause-made
returns-in_ok-tell-in-Exit-clause-made g c scene frame = rw c.in-Exit.is (Whole-next _ _ _ _ _ _ _ _ (Lifted-done _ scene frame _ _ _ c.in_ok-tell-in-Exit.ensures.performed) _ _ (Given-done _ _ _ _ _ _ refl refl))
