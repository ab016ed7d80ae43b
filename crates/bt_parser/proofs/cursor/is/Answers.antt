use Rattle.std.proofs.Common.{◌∙◌}
use Rattle.bt_grammar.proofs.SameClass.{equals_is}
use Rattle.bt_parser.proofs.cursor.is.Goals as goal

pub returns : goal.returns
returns c = c.eq.ensures ∙ equals_is c.args.class c.args.expected
