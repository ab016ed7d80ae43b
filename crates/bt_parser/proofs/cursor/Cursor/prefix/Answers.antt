use Rattle.std.proofs.Common.{refl}
use Rattle.std.proofs.lemmas.Bool.{false≢true}
use Rattle.bt_parser.proofs.cursor.Cursor.prefix.Goals as goal

pub returns-in-Some-Bang-clause-some : goal.returns-in-Some-Bang-clause-some
returns-in-Some-Bang-clause-some c = λ _. c.in-Some-Bang.ensures.some refl

pub returns-in-Some-Tilde-clause-some : goal.returns-in-Some-Tilde-clause-some
returns-in-Some-Tilde-clause-some c = λ _. c.in-Some-Tilde.ensures.some refl

pub returns-in-Some-Operator-Sub-clause-some : goal.returns-in-Some-Operator-Sub-clause-some
returns-in-Some-Operator-Sub-clause-some c = λ _. c.in-Some-Operator-Sub.ensures.some refl

pub returns-in_default-3-clause-some : goal.returns-in_default-3-clause-some
returns-in_default-3-clause-some c = λ h. absurd (false≢true h)
