use Rattle.std.proofs.Common.{ℕ, List, Vec, Global}
use Rattle.std.specs.Str.{bytes_eq}
use Rattle.expr_types.proofs.Indexing.{bytes_eq-sym, var_pushed}
use Rattle.expr_types.proofs.variables.Variables.push.Goals as goal

name_of : Vec ℕ Global → List ℕ
name_of k = k.items

pub returns : goal.returns
unfolding name_of
returns c =
    let k = c.in_ok-name.name in
    var_pushed name_of (λ a b. bytes_eq a.items b.items) k c.args.name.now c.args.shape c.self.inside.shapes.entries c.insert.new.self.entries c.args.self.now (λ j. bytes_eq-sym k.items j.items) c.self.view_is c.requires
    c.in_ok-name.ensures.items c.in_ok-insert.ensures.entries
