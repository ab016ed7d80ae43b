use Rattle.std.proofs.Common.{◌∙◌, ap, refl}
use Rattle.bt_grammar.specs.Classes.{joins}
use Rattle.bt_grammar.specs.Tokens.{items}
use Rattle.bt_parser.specs.Mirror.{when}
use Rattle.bt_parser.proofs.Fronts.{operator_is}
use Rattle.bt_parser.proofs.cursor.Cursor.operator.Goals as goal

pub returns-in-Some-clause-class : goal.returns-in-Some-clause-class
returns-in-Some-clause-class c = c.when.ensures ∙ ap (λ b. when b c.in-Some.class) (c.joins.ensures ∙ ap (joins c.args.in_predicate c.args.tier c.in-Some.class) c.is_before_brace.ensures)
    ∙ operator_is c.args.in_predicate c.args.tier (items c.args.self.now) c.in-Some.class c.in-Some.ensures.class

pub returns-in-Some-clause-some : goal.returns-in-Some-clause-some
returns-in-Some-clause-some c = λ _. c.in-Some.ensures.some refl
