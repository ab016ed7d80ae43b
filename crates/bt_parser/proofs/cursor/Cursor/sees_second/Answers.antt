use Rattle.std.proofs.Common.{◌∙◌}
use Rattle.bt_parser.proofs.Fronts.{second_there, second_is, second_none}
use Rattle.bt_parser.proofs.cursor.Cursor.sees_second.Goals as goal

pub returns-in_default-clause-class : goal.returns-in_default-clause-class
returns-in_default-clause-class c = second_none c.self.inside.rest.now c.args.self.now c.self.inside.classes.now c.args.expected c.self.invariant c.self.view_is c.in_default.len_below

pub returns-in-len2-up-clause-class : goal.returns-in-len2-up-clause-class
returns-in-len2-up-clause-class c = c.is.ensures ∙ second_is c.self.inside.rest.now c.args.self.now c.self.inside.classes.now c.args.expected _ c.self.invariant c.self.view_is c.in-len2-up.len_at_least

pub returns-in-len2-up-clause-some : goal.returns-in-len2-up-clause-some
returns-in-len2-up-clause-some c = λ _. second_there c.self.inside.rest.now c.args.self.now c.self.inside.classes.now c.self.invariant c.self.view_is c.in-len2-up.len_at_least
