use Rattle.bt_attach.proofs.BodyLemmas.{bodies_there}
use Rattle.bt_attach.proofs.laws.bodies_are_there.Goals as goal

pub returns : goal.returns
returns c = bodies_there
