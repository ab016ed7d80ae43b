use Rattle.std.proofs.Common.{◌≡◌, length, ap, ◌∙◌, arith, refl}
use Rattle.bt_grammar.specs.Tokens.{items}
use Rattle.bt_parser.proofs.Fronts.{a_named, token_class, no_token}
use Rattle.bt_parser.proofs.WordKinds.{no_number}
use Rattle.bt_parser.proofs.cursor.Cursor.named.Goals as goal

pub bytes_of-requires : goal.bytes_of-requires
bytes_of-requires c =
    no_number c.args.class c.token-item.result.kind c.requires
    (token_class c.self.inside.rest.now c.args.self.now c.token-item.result c.args.class c.sees.result c.self.view_is c.in-len1-up.len_at_least c.token-item.is c.if-not-sees.false c.sees.ensures.class)

pub skip-place-requires : goal.skip-place-requires
skip-place-requires c = let h : length c.self.inside.rest.now ≡ length c.args.self.now = ap length c.self.view_is in omega arith

pub returns-clause-reads : goal.returns-clause-reads
returns-clause-reads c =
    a_named c.self.inside.rest.now c.args.self.now c.token-item.result c.args.class c.in_ok-bytes.bytes c.skip-place.result (items c.skip-place.new.self)
    c.self.view_is c.in-len1-up.len_at_least c.token-item.is
    (token_class c.self.inside.rest.now c.args.self.now c.token-item.result c.args.class c.sees.result c.self.view_is c.in-len1-up.len_at_least c.token-item.is c.if-not-sees.false c.sees.ensures.class)
    (c.in_ok-bytes.ensures ∙ c.bytes_of.ensures) c.skip-place.ensures.place c.skip-place.ensures.items

pub returns-in_default-clause-reads : goal.returns-in_default-clause-reads
returns-in_default-clause-reads c = λ _. rw (no_token c.self.inside.rest.now c.args.self.now c.self.view_is c.in_default.len_below) refl

pub returns-clause-shorter : goal.returns-clause-shorter
returns-clause-shorter c = c.skip-place.ensures.shorter
