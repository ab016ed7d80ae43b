use Rattle.std.proofs.lemmas.Grind.{common_steps}
use Rattle.std.proofs.Common.{◌≡◌, ℕ, List, Some, slice_get, ap, sym, subst, ◌∙◌, arith, rules}
use Rattle.bt_core.specs.declared.map.Shape.{Shape}
use Rattle.bt_core.specs.declared.map.Shape.TheVariants.{Int}
use Rattle.typed_tree.specs.Parts.{TreePart, made}
use Rattle.expr_types.specs.declared.known.Var.{Var}
use Rattle.expr_types.specs.Known.{var_in}
use Rattle.expr_types.specs.Walk.{OnVar, step_seen}
use Rattle.expr_types.specs.Checked.{Checked}
use Rattle.expr_types.proofs.Constructs.{step_var_checked, step_unset, step_text}
use Rattle.expr_types.proofs.variable.step_variable.Goals as goal

pub returns-in_ok-number-in-Int-clause-checks : goal.returns-in_ok-number-in-Int-clause-checks
returns-in_ok-number-in-Int-clause-checks c =
    let k = c.args.known.now in
    let v = c.args.var.now in
    let found =
    subst (λ (s : Shape). (var_in v.name k.vars ≡ Some s) × (slice_get k.vars c.in-Some.at ≡ Some (let x : Var = record { name = v.name; shape = s } in x))) c.in-Int.is
    (subst (λ (n : List ℕ). (var_in n k.vars ≡ Some c.in-Some.shape) × (slice_get k.vars c.in-Some.at ≡ Some (let x : Var = record { name = n; shape = c.in-Some.shape } in x))) c.as_slice.ensures c.in-Some.ensures) in
    let numbered = ap (λ n. slice_get k.vars n) c.in_ok-number-in-Int.ensures.number ∙ found.1 in
    subst (λ (ps : List TreePart). Checked (step_seen c.args.plus c.args.prefix c.args.place (OnVar v.name v.place)) k k (made Int ps)) (sym c.stepped.ensures)
    (step_var_checked k v.name v.place c.args.place c.in_ok-number-in-Int.number c.args.plus c.args.prefix found.0 numbered)

pub returns-in-None-clause-beyond : goal.returns-in-None-clause-beyond
returns-in-None-clause-beyond c = grind (arith, common_steps)

pub returns-in-None-clause-checks : goal.returns-in-None-clause-checks
returns-in-None-clause-checks c = search (rules, step_unset, step_text, step_var_checked)

pub returns-in-Str-clause-checks : goal.returns-in-Str-clause-checks
returns-in-Str-clause-checks c = search (rules, step_unset, step_text, step_var_checked)

pub returns-in-Str-clause-beyond : goal.returns-in-Str-clause-beyond
returns-in-Str-clause-beyond c = grind (arith, common_steps)

pub returns-in_ok-number-in-Int-clause-beyond : goal.returns-in_ok-number-in-Int-clause-beyond
returns-in_ok-number-in-Int-clause-beyond c = grind (arith, common_steps)
