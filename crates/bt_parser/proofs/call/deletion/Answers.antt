use Rattle.std.proofs.Common.{refl}
use Rattle.bt_parser.proofs.call.deletion.Goals as goal

pub returns-in-Key : goal.returns-in-Key
returns-in-Key c = rw (c.in-Key.is, c.new-keys.ensures) refl

pub returns-in-Keys : goal.returns-in-Keys
returns-in-Keys c = rw c.in-Keys.is refl
