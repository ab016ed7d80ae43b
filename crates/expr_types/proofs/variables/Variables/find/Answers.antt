use Rattle.std.proofs.Common.{ℕ, List, Vec, Global}
use Rattle.std.specs.Str.{bytes_eq}
use Rattle.expr_types.proofs.Indexing.{bytes_eq-sym, var_there, var_not_there}
use Rattle.expr_types.proofs.variables.Variables.find.Goals as goal

name_of : Vec ℕ Global → List ℕ
name_of k = k.items

pub returns-in-None : goal.returns-in-None
unfolding name_of
returns-in-None c =
    let name = c.args.name.now in
    var_not_there name_of (λ k. bytes_eq name k.items) name c.self.inside.shapes.entries c.args.self.now (λ k. bytes_eq-sym name k.items) c.self.view_is c.in-None.ensures.value

pub returns-in-Some : goal.returns-in-Some
unfolding name_of
returns-in-Some c =
    let name = c.args.name.now in
    var_there name_of (λ k. bytes_eq name k.items) name c.self.inside.shapes.entries c.args.self.now c.in-Some.place c.in-Some.field-0-1.now c.in-Some.shape.now
    (λ k. bytes_eq-sym name k.items) c.self.view_is c.in-Some.ensures.value c.in-Some.ensures.key c.in-Some.ensures.entry
