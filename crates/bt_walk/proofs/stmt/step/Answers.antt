use Rattle.std.proofs.Common.{refl}
use Rattle.std.proofs.lemmas.Result.{err_from_is_err_and}
use Rattle.bt_walk.proofs.Binds.{Part-first, Whole-next, Given-done, Stopped}
use Rattle.bt_walk.proofs.stmt.step.Goals as goal

pub returns-in_err-number-clause-walked : goal.returns-in_err-number-clause-walked
returns-in_err-number-clause-walked g c =
    let p = err_from_is_err_and c.from_residual.result c.from_residual.ensures.1 in
    Stopped _ _ _ _ p.1 (Part-first _ _ _ _ _ _ c.in_err-number.ensures.walked)

pub returns-clause-walked : goal.returns-clause-walked
returns-clause-walked g c = (Whole-next _ _ _ _ _ _ _ _ c.in_ok-number.ensures.walked _ _ (Given-done _ _ _ _ _ _ refl refl))

pub returns-in_err-number-clause-kept : goal.returns-in_err-number-clause-kept
returns-in_err-number-clause-kept g c = c.in_err-number.ensures.kept

pub returns-clause-kept : goal.returns-clause-kept
returns-clause-kept g c = c.in_ok-number.ensures.kept

pub returns-in_err-number-clause-turns : goal.returns-in_err-number-clause-turns
returns-in_err-number-clause-turns g c = c.in_err-number.ensures.turns

pub returns-clause-turns : goal.returns-clause-turns
returns-clause-turns g c = c.in_ok-number.ensures.turns

pub number-requires-clause-served : goal.number-requires-clause-served
number-requires-clause-served g c = c.requires.served

pub number-requires-clause-fits : goal.number-requires-clause-fits
number-requires-clause-fits g c = c.requires.fits
