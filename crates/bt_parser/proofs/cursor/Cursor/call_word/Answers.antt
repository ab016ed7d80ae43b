use Rattle.std.proofs.Common.{refl}
use Rattle.bt_grammar.specs.Tables.{is_call}
use Rattle.bt_parser.proofs.Fronts.{when_is}
use Rattle.bt_parser.proofs.cursor.Cursor.call_word.Goals as goal

pub returns-in-Some-clause-some : goal.returns-in-Some-clause-some
returns-in-Some-clause-some c = λ _. c.in-Some.ensures.some refl

pub returns-in-Some-clause-call : goal.returns-in-Some-clause-call
returns-in-Some-clause-call c = when_is c.is_call.result c.in-Some.class c.when.result is_call c.when.ensures c.is_call.ensures
