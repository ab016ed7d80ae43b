use Rattle.std.proofs.Common.{refl}
use Rattle.bt_grammar.specs.Tokens.{items}
use Rattle.bt_parser.proofs.Fronts.{a_point, class_there, front_kind, no_point, no_token}
use Rattle.std.proofs.Common.{◌≡◌, length, ap, arith}
use Rattle.bt_parser.proofs.cursor.Cursor.point.Goals as goal

pub point_of-requires-clause-class : goal.point_of-requires-clause-class
point_of-requires-clause-class c = front_kind c.self.inside.rest.now c.self.inside.classes.now c.token-item.result _ c.self.invariant c.in-len1-up.len_at_least c.token-item.is

pub returns-clause-reads : goal.returns-clause-reads
returns-clause-reads c = a_point c.self.inside.rest.now c.args.self.now c.token-item.result _ c.in_ok-point.point (items c.skip.new.self) c.self.view_is c.in-len1-up.len_at_least c.token-item.is (front_kind c.self.inside.rest.now c.self.inside.classes.now c.token-item.result _ c.self.invariant c.in-len1-up.len_at_least c.token-item.is) c.if-not-is_point.ensures c.in_ok-point.ensures c.skip.ensures.items

pub returns-then-not-is_point-clause-reads : goal.returns-then-not-is_point-clause-reads
returns-then-not-is_point-clause-reads c = λ _. no_point c.self.inside.rest.now c.args.self.now c.token-item.result _ c.self.view_is c.in-len1-up.len_at_least c.token-item.is (front_kind c.self.inside.rest.now c.self.inside.classes.now c.token-item.result _ c.self.invariant c.in-len1-up.len_at_least c.token-item.is) c.if-not-is_point.ensures

pub returns-in_default-clause-reads : goal.returns-in_default-clause-reads
returns-in_default-clause-reads c = λ _. rw (no_token c.self.inside.rest.now c.args.self.now c.self.view_is c.in_default.len_below) refl

pub skip-requires : goal.skip-requires
skip-requires c = let h : length c.self.inside.rest.now ≡ length c.args.self.now = ap length c.self.view_is in omega arith

pub returns-clause-shorter : goal.returns-clause-shorter
returns-clause-shorter c = c.skip.ensures.shorter

pub bounds-self-inside-0 : goal.bounds-self-inside-0
bounds-self-inside-0 c = class_there c.self.inside.rest.now c.self.inside.classes.now c.self.invariant c.in-len1-up.len_at_least
