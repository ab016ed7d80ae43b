use Rattle.std.proofs.Common.{Bool}
use Rattle.std.proofs.lemmas.Result.{IfOk-at_ok, MatchResult-at_err, MatchResult-at_ok}
use Rattle.expr_types.specs.Walk.{OnVar, of_expr}
use Rattle.typed_tree.specs.Parts.{made_of, stmt_parts}
use Rattle.expr_types.specs.Checked.{Checked}
use Rattle.bt_types.proofs.Turns.{does_in_err, fault_first}
use Rattle.bt_types.specs.Told.{update_told}
use Rattle.bt_types.proofs.Numbers.{update_var_done, update_var_missing, update_var_refused}
use Rattle.bt_types.proofs.StmtLayers.{update_var_stmt}
use Rattle.bt_types.proofs.assign.check_update_var.Goals as goal

pub returns-in_err-value : goal.returns-in_err-value
returns-in_err-value c =
    does_in_err (update_told c.args.op (OnVar c.args.var.now.name c.args.var.now.place) (of_expr c.args.value.now) c.args.place) stmt_parts c.args.known.now _ _ c.in_err-value.field-0.0 c.from_residual.ensures.1
    (fault_first (of_expr c.args.value.now).points _ c.args.known.now _ c.in_err-value.ensures)

pub returns-in_err-value-2 : goal.returns-in_err-value-2
returns-in_err-value-2 c =
    let e = c.in_err-value-2.field-0.0 in
    let fault = MatchResult-at_err _ _ e c.in_err-value-2.ensures c.number_var-number.ensures.says in
    does_in_err (update_told c.args.op (OnVar c.args.var.now.name c.args.var.now.place) (of_expr c.args.value.now) c.args.place) stmt_parts c.args.known.now _ _ e c.from_residual-in_err-value-2.ensures.1
    (update_var_missing c.args.op c.args.var.now.name c.args.var.now.place c.args.place (of_expr c.args.value.now) c.args.known.now c.check_expr.new.known (made_of c.in_ok-value.value) e c.in_ok-value.ensures fault)

pub returns-in_err-value-3 : goal.returns-in_err-value-3
returns-in_err-value-3 c =
    let checked : Checked (of_expr c.args.value.now) c.args.known.now c.check_expr.new.known (made_of c.in_ok-value-2.value) = rw c.in_ok-value-2.ensures.0 c.in_ok-value.ensures in
    let says = MatchResult-at_ok _ _ _ c.in_ok-value-2.ensures.1 c.number_var-number.ensures.says in
    does_in_err (update_told c.args.op (OnVar c.args.var.now.name c.args.var.now.place) (of_expr c.args.value.now) c.args.place) stmt_parts c.args.known.now _ _ c.in_err-value-3.field-0.0 c.from_residual-in_err-value-3.ensures.1
    (update_var_refused c.args.op c.args.var.now.name c.args.var.now.place c.args.place (of_expr c.args.value.now) c.args.known.now c.check_expr.new.known (made_of c.in_ok-value-2.value) _ checked says c.in_err-value-3.ensures.refuses)

pub returns : goal.returns
returns c = λ (inside : Bool).
    let checked : Checked (of_expr c.args.value.now) c.args.known.now c.check_expr.new.known (made_of c.in_ok-value-2.value) = rw c.in_ok-value-2.ensures.0 c.in_ok-value.ensures in
    let says = MatchResult-at_ok _ _ _ c.in_ok-value-2.ensures.1 c.number_var-number.ensures.says in
    let numbered = IfOk-at_ok _ c.in_ok-value-2.ensures.1 c.number_var-number.ensures.numbered in
    rw (update_var_stmt c.in_ok-value-2.number c.args.op c.in_ok-value-3.value inside)
    (update_var_done c.args.op c.args.var.now.name c.args.var.now.place c.args.place (of_expr c.args.value.now) c.args.known.now c.check_expr.new.known c.in_ok-value-2.number (made_of c.in_ok-value-2.value) _ checked
    says numbered c.in_ok-value-3.ensures.refuses c.in_ok-value-3.ensures.made)
