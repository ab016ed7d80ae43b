use Rattle.bt_parser.proofs.Fronts.{front_there, front_class}
use Rattle.bt_parser.proofs.cursor.Cursor.peek.Goals as goal

pub returns-in-len1-up-clause-class : goal.returns-in-len1-up-clause-class
returns-in-len1-up-clause-class c = front_class c.self.inside.rest.now c.args.self.now c.self.inside.classes.now _ c.self.invariant c.self.view_is c.in-len1-up.len_at_least

pub returns-in-len1-up-clause-some : goal.returns-in-len1-up-clause-some
returns-in-len1-up-clause-some c = λ _. front_there c.self.inside.rest.now c.args.self.now c.self.inside.classes.now c.self.invariant c.self.view_is c.in-len1-up.len_at_least
