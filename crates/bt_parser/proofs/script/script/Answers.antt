use Rattle.bt_parser.proofs.Ends.{refused_short, syntax_gives}
use Rattle.bt_parser.proofs.script.script.Goals as goal

pub returns-in-Err-Syntax-clause-outcome : goal.returns-in-Err-Syntax-clause-outcome
returns-in-Err-Syntax-clause-outcome c = syntax_gives _ _ (rw c.in-Err-Syntax.field-0-is at c.in-Err-Syntax.ensures.outcome)

pub returns-in-Err-Syntax-clause-no_longer : goal.returns-in-Err-Syntax-clause-no_longer
returns-in-Err-Syntax-clause-no_longer c = refused_short _ _ (syntax_gives _ _ (rw c.in-Err-Syntax.field-0-is at c.in-Err-Syntax.ensures.outcome)).0
