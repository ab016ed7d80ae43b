use Rattle.std.proofs.Common.{refl}
use Rattle.bt_parser.proofs.cursor.Cursor.sees.Goals as goal

pub returns-in-Some-clause-some : goal.returns-in-Some-clause-some
returns-in-Some-clause-some c = λ _. c.in-Some.ensures.some refl
