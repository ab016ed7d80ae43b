use Rattle.std.proofs.Common.{refl}
use Rattle.std.proofs.lemmas.Bool.{false≢true}
use Rattle.bt_parser.proofs.cursor.Cursor.gathering.Goals as goal

pub returns-in-Some-GatherWord-clause-some : goal.returns-in-Some-GatherWord-clause-some
returns-in-Some-GatherWord-clause-some c = λ _. c.in-Some-GatherWord.ensures.some refl

pub returns-in_default-2-clause-some : goal.returns-in_default-2-clause-some
returns-in_default-2-clause-some c = λ h. absurd (false≢true h)
