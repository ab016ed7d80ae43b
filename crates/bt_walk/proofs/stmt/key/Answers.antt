use Rattle.std.proofs.Common.{◌≤◌, length, arith}
use Rattle.std.proofs.lemmas.Result.{err_from_is_err_and}
use Rattle.walk_meaning.proofs.Declared.{HasShape-length}
use Rattle.bt_walk.proofs.Binds.{Stopped}
use Rattle.bt_walk.proofs.stmt.key.Goals as goal

pub returns-in_err-parts-clause-walked : goal.returns-in_err-parts-clause-walked
returns-in_err-parts-clause-walked g c =
    let p = err_from_is_err_and c.from_residual.result c.from_residual.ensures.1 in
    Stopped _ _ _ _ p.1 c.in_err-parts.ensures.walked

pub of-requires : goal.of-requires
of-requires g c =
    rw c.into_vec.ensures (let few : length c.in_ok-parts.parts ≤ 4 = omega (arith, c.requires.few, HasShape-length _ _ c.in_ok-parts.ensures.shaped) in few)

pub returns-clause-walked : goal.returns-clause-walked
returns-clause-walked g c = rw (c.of.ensures, c.into_vec.ensures) c.in_ok-parts.ensures.walked

pub returns-clause-shaped : goal.returns-clause-shaped
returns-clause-shaped g c = rw (c.of.ensures, c.into_vec.ensures) c.in_ok-parts.ensures.shaped

pub returns-in_err-parts-clause-kept : goal.returns-in_err-parts-clause-kept
returns-in_err-parts-clause-kept g c = c.in_err-parts.ensures.kept

pub returns-clause-kept : goal.returns-clause-kept
returns-clause-kept g c = c.in_ok-parts.ensures.kept

pub returns-in_err-parts-clause-turns : goal.returns-in_err-parts-clause-turns
returns-in_err-parts-clause-turns g c = c.in_err-parts.ensures.turns

pub returns-clause-turns : goal.returns-clause-turns
returns-clause-turns g c = c.in_ok-parts.ensures.turns

pub values-requires-clause-served : goal.values-requires-clause-served
values-requires-clause-served g c = c.requires.served

pub values-requires-clause-fits : goal.values-requires-clause-fits
values-requires-clause-fits g c = c.requires.fits
