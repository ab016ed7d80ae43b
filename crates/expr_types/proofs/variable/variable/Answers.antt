use Rattle.std.proofs.lemmas.Grind.{common_steps}
use Rattle.std.proofs.Common.{◌≡◌, ◌∷◌, [], ℕ, List, Some, slice_get, ap, sym, subst, ◌∙◌, arith, rules}
use Rattle.typed_tree.specs.Parts.{Made}
use Rattle.expr_types.specs.declared.known.Var.{Var}
use Rattle.expr_types.specs.Known.{var_in}
use Rattle.expr_types.specs.Mentions.{ReadsVar, OfVar, VarWord}
use Rattle.expr_types.specs.Walk.{at, seen}
use Rattle.expr_types.specs.Checked.{Checked}
use Rattle.expr_types.proofs.Constructs.{var_checked, var_refused}
use Rattle.expr_types.proofs.variable.variable.Goals as goal

pub returns-in_ok-number-in-Some-clause-checks : goal.returns-in_ok-number-in-Some-clause-checks
returns-in_ok-number-in-Some-clause-checks c =
    let k = c.args.known.now in
    let v = c.args.var.now in
    let shape = c.in-Some.shape in
    let found = subst (λ (n : List ℕ). (var_in n k.vars ≡ Some shape) × (slice_get k.vars c.in-Some.place ≡ Some (let x : Var = record { name = n; shape = shape } in x))) c.as_slice.ensures c.in-Some.ensures in
    let numbered = ap (λ n. slice_get k.vars n) c.in_ok-number-in-Some.ensures.number ∙ found.1 in
    subst (λ (m : Made). Checked (seen (at v.place (ReadsVar v.name) ∷ []) (OfVar v.name) (VarWord v.name ∷ [])) k k m) (sym c.variable_of.ensures)
    (var_checked k v.name v.place c.in_ok-number-in-Some.number shape found.0 numbered)

pub returns-in-None-clause-checks : goal.returns-in-None-clause-checks
returns-in-None-clause-checks c = search (rules, var_refused, var_checked)

pub returns-in_ok-number-in-Some-clause-beyond : goal.returns-in_ok-number-in-Some-clause-beyond
returns-in_ok-number-in-Some-clause-beyond c = grind (arith, common_steps)

pub returns-in-None-clause-beyond : goal.returns-in-None-clause-beyond
returns-in-None-clause-beyond c = grind (arith, common_steps)
