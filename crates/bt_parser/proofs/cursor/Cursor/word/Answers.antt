use Rattle.bt_parser.proofs.Fronts.{a_word, no_word, no_token}
use Rattle.bt_grammar.specs.Tokens.{items}
use Rattle.std.proofs.Common.{refl}
use Rattle.std.proofs.Common.{◌≡◌, length, ap, arith}
use Rattle.bt_parser.proofs.cursor.Cursor.word.Goals as goal

pub returns-in_default-kind-clause-reads : goal.returns-in_default-kind-clause-reads
returns-in_default-kind-clause-reads c = λ _. no_word c.self.inside.rest.now c.args.self.now c.token-item.result c.self.view_is c.in-len1-up.len_at_least c.token-item.is c.in_default-kind.not-Word

pub returns-clause-reads : goal.returns-clause-reads
returns-clause-reads c =
    a_word c.self.inside.rest.now c.args.self.now c.token-item.result c.in-Word.word c.in_ok-bytes.bytes c.skip-place.result (items c.skip-place.new.self)
    c.self.view_is c.in-len1-up.len_at_least c.token-item.is c.in-Word.is c.in_ok-bytes.ensures c.skip-place.ensures.place c.skip-place.ensures.items

pub returns-in_default-clause-reads : goal.returns-in_default-clause-reads
returns-in_default-clause-reads c = λ _. rw (no_token c.self.inside.rest.now c.args.self.now c.self.view_is c.in_default.len_below) refl

pub skip-place-requires : goal.skip-place-requires
skip-place-requires c = let h : length c.self.inside.rest.now ≡ length c.args.self.now = ap length c.self.view_is in omega arith

pub returns-clause-shorter : goal.returns-clause-shorter
returns-clause-shorter c = c.skip-place.ensures.shorter
