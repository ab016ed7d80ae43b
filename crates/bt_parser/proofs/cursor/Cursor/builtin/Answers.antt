use Rattle.std.proofs.Common.{refl}
use Rattle.std.proofs.lemmas.Bool.{false≢true}
use Rattle.bt_parser.proofs.cursor.Cursor.builtin.Goals as goal

pub returns-in-Some-BuiltinWord-clause-some : goal.returns-in-Some-BuiltinWord-clause-some
returns-in-Some-BuiltinWord-clause-some c = λ _. c.in-Some-BuiltinWord.ensures.some refl

pub returns-in_default-2-clause-some : goal.returns-in_default-2-clause-some
returns-in_default-2-clause-some c = λ h. absurd (false≢true h)
