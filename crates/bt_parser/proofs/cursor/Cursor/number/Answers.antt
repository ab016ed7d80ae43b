use Rattle.bt_grammar.specs.declared.class.Class.TheVariants.{NumberLiteral}
use Rattle.bt_parser.proofs.Fronts.{token_class, a_counted, no_token}
use Rattle.bt_parser.proofs.WordKinds.{number_found}
use Rattle.std.proofs.Common.{ap, arith, length, ◌≡◌, rules, refl}
use Rattle.bt_grammar.specs.Tokens.{items}
use Rattle.bt_parser.proofs.cursor.Cursor.number.Goals as goal

pub number_of-number-requires : goal.number_of-number-requires
number_of-number-requires c =
    number_found c.token-item.result.kind
    (token_class c.self.inside.rest.now c.args.self.now c.token-item.result NumberLiteral c.sees.result c.self.view_is c.in-len1-up.len_at_least c.token-item.is c.if-not-sees.false c.sees.ensures.class)

pub skip-requires : goal.skip-requires
skip-requires c = let h : length c.self.inside.rest.now ≡ length c.args.self.now = ap length c.self.view_is in omega arith

pub returns-clause-reads : goal.returns-clause-reads
returns-clause-reads c =
    let e = a_counted c.self.inside.rest.now c.args.self.now c.token-item.result c.number_of-number.result (items c.skip.new.self)
    c.self.view_is c.in-len1-up.len_at_least c.token-item.is
    (token_class c.self.inside.rest.now c.args.self.now c.token-item.result NumberLiteral c.sees.result c.self.view_is c.in-len1-up.len_at_least
    c.token-item.is c.if-not-sees.false c.sees.ensures.class)
    c.number_of-number.ensures c.skip.ensures.items in rw e (search rules)

pub returns-in_default-clause-reads : goal.returns-in_default-clause-reads
returns-in_default-clause-reads c = λ _. rw (no_token c.self.inside.rest.now c.args.self.now c.self.view_is c.in_default.len_below) refl

pub returns-clause-shorter : goal.returns-clause-shorter
returns-clause-shorter c = c.skip.ensures.shorter
