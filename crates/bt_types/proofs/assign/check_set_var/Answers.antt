use Rattle.std.proofs.Common.{◌≡◌, Bool, Some, None, ap, subst, ◌∙◌}
use Rattle.std.proofs.lemmas.Result.{IfOk-at_ok, MatchResult-at_err, MatchResult-at_ok}
use Rattle.bt_core.specs.declared.map.Shape.{Shape}
use Rattle.expr_types.specs.declared.known.Var.{Var}
use Rattle.expr_types.specs.Judge.{IsBreach}
use Rattle.expr_types.specs.Join.{set_breaks}
use Rattle.expr_types.specs.Known.{var_in, with_var}
use Rattle.expr_types.specs.Walk.{OnVar, of_expr}
use Rattle.typed_tree.specs.Parts.{made_of, stmt_parts}
use Rattle.bt_types.specs.Told.{set_told}
use Rattle.bt_types.proofs.Turns.{does_in_err, fault_first}
use Rattle.bt_types.proofs.Numbers.{set_var_done, set_var_refused}
use Rattle.bt_types.proofs.StmtLayers.{var_stmt}
use Rattle.bt_types.proofs.assign.check_set_var.Goals as goal

pub returns-in_err-value : goal.returns-in_err-value
returns-in_err-value c =
    does_in_err (set_told (OnVar c.args.var.now.name c.args.var.now.place) (of_expr c.args.value.now)) stmt_parts c.args.known.now _ _ c.in_err-value.field-0.0 c.from_residual.ensures.1
    (fault_first (of_expr c.args.value.now).points _ c.args.known.now _ c.in_err-value.ensures)

pub returns-in_err-value-2 : goal.returns-in_err-value-2
returns-in_err-value-2 c =
    let e = c.in_err-value-2.field-0.0 in
    let breach = MatchResult-at_err _ _ e c.in_err-value-2.ensures c.assign-number.ensures.refuses in
    does_in_err (set_told (OnVar c.args.var.now.name c.args.var.now.place) (of_expr c.args.value.now)) stmt_parts c.args.known.now _ _ e c.from_residual-in_err-value-2.ensures.1
    (set_var_refused c.args.var.now.name c.args.var.now.place (of_expr c.args.value.now) c.args.known.now c.check_expr.new.known (made_of c.in_ok-value.value) e c.in_ok-value.ensures
    (subst (λ (s : Shape). IsBreach (set_breaks (var_in c.args.var.now.name c.check_expr.new.known.vars) s) c.args.var.now.place e) c.shape.ensures breach))

pub returns : goal.returns
returns c = λ (inside : Bool).
    let allowed = MatchResult-at_ok _ _ _ c.in_ok-value-2.ensures.1 c.assign-number.ensures.refuses in
    let learned = IfOk-at_ok _ c.in_ok-value-2.ensures.1 c.assign-number.ensures.learned in
    let numbered = IfOk-at_ok _ c.in_ok-value-2.ensures.1 c.assign-number.ensures.numbered in
    rw (c.in_ok-value-2.ensures.0, var_stmt c.in_ok-value-2.number c.in_ok-value.value inside)
    (set_var_done c.args.var.now.name c.args.var.now.place (of_expr c.args.value.now) c.args.known.now c.check_expr.new.known c.assign-number.new.known c.in_ok-value-2.number (made_of c.in_ok-value.value) c.in_ok-value.ensures
    (subst (λ (s : Shape). set_breaks (var_in c.args.var.now.name c.check_expr.new.known.vars) s ≡ None) c.shape.ensures allowed)
    (learned ∙ ap (λ (s : Shape). with_var c.check_expr.new.known (record { name = c.args.var.now.name; shape = s })) c.shape.ensures)
    (numbered ∙ ap (λ (s : Shape). Some (let v : Var = record { name = c.args.var.now.name; shape = s } in v)) c.shape.ensures))
