use Rattle.std.proofs.Common.{refl}
use Rattle.std.proofs.lemmas.Bool.{false≢true}
use Rattle.bt_parser.proofs.cursor.Cursor.step.Goals as goal

pub returns-in-Some-Increment-clause-some : goal.returns-in-Some-Increment-clause-some
returns-in-Some-Increment-clause-some c = λ _. c.in-Some-Increment.ensures.some refl

pub returns-in-Some-Decrement-clause-some : goal.returns-in-Some-Decrement-clause-some
returns-in-Some-Decrement-clause-some c = λ _. c.in-Some-Decrement.ensures.some refl

pub returns-in_default-2-clause-some : goal.returns-in_default-2-clause-some
returns-in_default-2-clause-some c = λ h. absurd (false≢true h)
