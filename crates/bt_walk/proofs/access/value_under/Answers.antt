use Rattle.std.proofs.Common.{refl}
use Rattle.std.proofs.lemmas.Result.{err_from_is_err_and}
use Rattle.walk_meaning.specs.Maps.{get}
use Rattle.bt_walk.proofs.Binds.{Lifted-walked, Part-none, Stopped}
use Rattle.bt_walk.proofs.access.value_under.Goals as goal

pub get-requires : goal.get-requires
get-requires g c = rw c.in_ok-again.ensures c.requires

pub returns-in_err-again-clause-made : goal.returns-in_err-again-clause-made
returns-in_err-again-clause-made g c scene frame =
    let p = err_from_is_err_and c.from_residual.result c.from_residual.ensures.1 in
    Stopped _ _ _ _ p.1 (Part-none (get c.args.map c.args.key.now) scene frame _ _ refl)

pub returns-clause-made : goal.returns-clause-made
returns-clause-made g c scene frame =
    let got = rw c.in_ok-again.ensures at c.get.ensures.performed in
    Lifted-walked _ scene frame _ _ _ got
