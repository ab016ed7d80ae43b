use Rattle.std.proofs.Common.{◌∙◌}
use Rattle.bt_parser.proofs.Fronts.{second_class, no_second}
use Rattle.bt_parser.proofs.cursor.Cursor.is_before_brace.Goals as goal

pub returns-in_default : goal.returns-in_default
returns-in_default c = no_second c.self.inside.rest.now c.args.self.now c.self.inside.classes.now c.self.invariant c.self.view_is c.in_default.len_below

pub returns-in-len2-up : goal.returns-in-len2-up
returns-in-len2-up c = c.is.ensures ∙ second_class c.self.inside.rest.now c.args.self.now c.self.inside.classes.now _ c.self.invariant c.self.view_is c.in-len2-up.len_at_least
