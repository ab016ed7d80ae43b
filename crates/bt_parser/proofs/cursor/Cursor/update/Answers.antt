use Rattle.std.proofs.Common.{refl}
use Rattle.bt_parser.proofs.cursor.Cursor.update.Goals as goal

pub returns-in-Some-UpdateMark-clause-some : goal.returns-in-Some-UpdateMark-clause-some
returns-in-Some-UpdateMark-clause-some c = λ _. c.in-Some-UpdateMark.ensures.some refl
