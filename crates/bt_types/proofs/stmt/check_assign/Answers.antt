use Rattle.std.proofs.Common.{◌≡◌, Option, None, Some, Result, sym, ap, subst, ◌∙◌}
use Rattle.bt_core.specs.declared.operator.BinOp.{BinOp}
use Rattle.bt_core.specs.declared.place.Place.{Place}
use Rattle.bt_ast.specs.declared.expr.Target.{Target}
use Rattle.bt_ast.specs.declared.expr.Target.TheVariants as targets
use Rattle.typed_tree.specs.declared.stmt.TypedStmt.{TypedStmt}
use Rattle.typed_tree.specs.Parts.{stmt_parts}
use Rattle.expr_types.specs.declared.fault.TypeError.{TypeError}
use Rattle.expr_types.specs.declared.known.Known.{Known}
use Rattle.expr_types.specs.Walk.{Seen, TargetSeen, OnMap, OnVar, of_expr, of_map, of_target}
use Rattle.expr_types.proofs.Layers.{on_map, on_var}
use Rattle.bt_types.specs.Told.{Told, assign_told}
use Rattle.bt_types.specs.Done.{DoesIn}
use Rattle.bt_types.proofs.stmt.check_assign.Goals as goal

arm_assigns : (op o : Option BinOp) (target x : Target) (s : TargetSeen) (value : Seen) (place : Place) (before now : Known) (r : Result TypedStmt TypeError) → op ≡ o → target ≡ x
    → of_target x ≡ s → DoesIn (assign_told o s value place) stmt_parts before now r → DoesIn (assign_told op (of_target target) value place) stmt_parts before now r
arm_assigns op o target x s value place before now r p q tells h =
    let e : of_target target ≡ s = ap of_target q ∙ tells in
    subst (λ (t : Told). DoesIn t stmt_parts before now r) (sym (λ i. assign_told (p i) (e i) value place)) h

pub returns-in-Var-None : goal.returns-in-Var-None
returns-in-Var-None c =
    arm_assigns c.args.op None c.args.target.now (targets.Var c.in-Var-None.var) (OnVar c.in-Var-None.var.name c.in-Var-None.var.place) (of_expr c.args.value.now) c.args.place
    c.args.known.now c.check_set_var.new.known c.check_set_var.result c.in-Var-None.is-1 c.in-Var-None.is-0 (on_var c.in-Var-None.var) c.check_set_var.ensures

pub returns-in-Var-Some : goal.returns-in-Var-Some
returns-in-Var-Some c =
    arm_assigns c.args.op (Some c.in-Var-Some.op) c.args.target.now (targets.Var c.in-Var-Some.var) (OnVar c.in-Var-Some.var.name c.in-Var-Some.var.place) (of_expr c.args.value.now) c.args.place
    c.args.known.now c.check_update_var.new.known c.check_update_var.result c.in-Var-Some.is-1 c.in-Var-Some.is-0 (on_var c.in-Var-Some.var) c.check_update_var.ensures

pub returns-in-Map-None : goal.returns-in-Map-None
returns-in-Map-None c =
    arm_assigns c.args.op None c.args.target.now (targets.Map c.in-Map-None.map) (OnMap (of_map c.in-Map-None.map)) (of_expr c.args.value.now) c.args.place
    c.args.known.now c.check_set_map.new.known c.check_set_map.result c.in-Map-None.is-1 c.in-Map-None.is-0 (on_map c.in-Map-None.map) c.check_set_map.ensures

pub returns-in-Map-Some : goal.returns-in-Map-Some
returns-in-Map-Some c =
    arm_assigns c.args.op (Some c.in-Map-Some.op) c.args.target.now (targets.Map c.in-Map-Some.map) (OnMap (of_map c.in-Map-Some.map)) (of_expr c.args.value.now) c.args.place
    c.args.known.now c.check_update_map.new.known c.check_update_map.result c.in-Map-Some.is-1 c.in-Map-Some.is-0 (on_map c.in-Map-Some.map) c.check_update_map.ensures
