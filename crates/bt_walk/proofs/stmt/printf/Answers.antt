use Rattle.std.proofs.Common.{◌∙◌}
use Rattle.std.proofs.lemmas.Result.{err_from_is_err_and}
use Rattle.bt_walk.proofs.Binds.{Part-first, Walked-next, Walked-given, Lifted-walked, Stopped}
use Rattle.bt_walk.proofs.stmt.printf.Goals as goal

pub returns-in_err-values-clause-walked : goal.returns-in_err-values-clause-walked
returns-in_err-values-clause-walked g c =
    let p = err_from_is_err_and c.from_residual.result c.from_residual.ensures.1 in
    Stopped _ _ _ _ p.1 (Part-first _ _ _ _ _ _ c.in_err-values.ensures.walked)

pub returns-clause-walked : goal.returns-clause-walked
returns-clause-walked g c =
    Walked-next _ _ _ _ _ _ _ _ c.in_ok-values.ensures.walked _ _ _ (Walked-given _ _ _ _ _ _ _ _ _ c.next_after.ensures (Lifted-walked _ _ _ _ _ _ c.tell.ensures.performed))

pub returns-in_err-values-clause-kept : goal.returns-in_err-values-clause-kept
returns-in_err-values-clause-kept g c = c.in_err-values.ensures.kept

pub returns-clause-kept : goal.returns-clause-kept
returns-clause-kept g c = c.tell.ensures.kept ∙ c.in_ok-values.ensures.kept

pub returns-in_err-values-clause-turns : goal.returns-in_err-values-clause-turns
returns-in_err-values-clause-turns g c = c.in_err-values.ensures.turns

pub returns-clause-turns : goal.returns-clause-turns
returns-clause-turns g c = c.in_ok-values.ensures.turns

pub values-requires-clause-served : goal.values-requires-clause-served
values-requires-clause-served g c = c.requires.served

pub values-requires-clause-fits : goal.values-requires-clause-fits
values-requires-clause-fits g c = c.requires.fits
