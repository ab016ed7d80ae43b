use Rattle.bt_walk.proofs.Binds.{Lifted-walked}
use Rattle.bt_walk.proofs.access.set.Goals as goal

pub returns-clause-made : goal.returns-clause-made
returns-clause-made g c scene frame =
    let told = rw c.part-object.ensures at c.tell.ensures.performed in
    Lifted-walked _ scene frame _ _ _ told
