use Rattle.std.proofs.Common.{sym, ◌∙◌}
use Rattle.std.proofs.lemmas.Bool.{false≢true}
use Rattle.bt_parser.proofs.cursor.Cursor.sees_else_if.Goals as goal

pub returns-then-sees-clause-some : goal.returns-then-sees-clause-some
returns-then-sees-clause-some c = c.sees_second.ensures.some

pub returns-else-sees-clause-some : goal.returns-else-sees-clause-some
returns-else-sees-clause-some c = λ h. absurd (false≢true (sym c.if-sees.false ∙ h))
