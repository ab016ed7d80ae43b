use Rattle.bt_attach.proofs.OneAttached.{one_attached}
use Rattle.bt_attach.proofs.laws.attachments_are_one.Goals as goal

pub returns : goal.returns
returns c = one_attached
