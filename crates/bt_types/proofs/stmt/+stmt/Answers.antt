use Rattle.std.proofs.Common.{◌+◌, ◌∷◌, [], List, Bool, true, Ok, Option, map, take, option_map, FitsSigned, w64, arith, refl, sym, subst}
use Rattle.std.proofs.lemmas.Int.{to_z-of_z}
use Rattle.std.proofs.lemmas.Result.{MatchResult-at_err, MatchResult-at_ok, MatchResult-weaker}
use Rattle.bt_ast.specs.declared.expr.Expr.{Expr}
use Rattle.bt_ast.specs.declared.stmt.Block.{Block, out-Block}
use Rattle.bt_ast.specs.declared.stmt.Stmt.{Stmt}
use Rattle.typed_tree.specs.declared.expr.NumExpr.{NumExpr}
use Rattle.typed_tree.specs.declared.stmt.TypedStmt.{TypedStmt}
use Rattle.typed_tree.specs.declared.stmt.TypedBlock.{TypedBlock}
use Rattle.expr_types.specs.Mentions.{ArmWord, ElseWord, WhileWord, EndWord, JumpWord}
use Rattle.expr_types.specs.Walk.{of_expr, of_map, of_step, of_target}
use Rattle.bt_ast.specs.declared.stmt.StmtKind.TheVariants as kinds
use Rattle.typed_tree.specs.declared.stmt.Jump.TheVariants.{Exit, Return}
use Rattle.typed_tree.specs.declared.stmt.TypedStmt.TheVariants as typed
use Rattle.expr_types.specs.Judge.{judged, SaysFault}
use Rattle.typed_tree.specs.Parts.{TreePart, Arm, Otherwise, Looped, Ending, num_parts, joined, arm_parts, otherwise_parts, stmt_parts, block_parts}
use Rattle.bt_types.specs.Told.{Told, assign_told, clear_told, delete_told, gather_told, gathered_told, kind_of_call, number_of_call, printf_told, value_told, zero_told}
use Rattle.bt_types.specs.Told.{says, told_in_turn, condition_told, arm_told, otherwise_told, if_told, while_told, unroll_told, block_told, of_block, of_stmt}
use Rattle.bt_types.specs.Done.{Done, DoesIn}
use Rattle.bt_types.proofs.Turns.{nothing_done, done_in, done_next, done_says, fault_in, refused_front, refused_next, does_err, does_in_err}
use Rattle.bt_types.proofs.Runs.{run_more, run_refused, run_ends}
use Rattle.bt_types.proofs.Closing.{told_beside}
use Rattle.bt_types.proofs.Loops.{worded_done, worded_first, worded_second, unroll_done, unroll_first, unroll_refused}
use Rattle.bt_types.proofs.Arms.{arm_does, arm_does_in, jump_does, gather_is, assign_is, step_is, printf_is, clear_is, zero_is, delete_is, delete_key_is, exit_is, return_is}
use Rattle.bt_types.proofs.StmtLayers.{block_is, if_is, while_is, while_stmt, unroll_stmt, block_of, if_stmt}
use Rattle.bt_types.proofs.stmt.+stmt.Goals as goal

pub check_stmts-returns-in_err-typed : goal.check_stmts-returns-in_err-typed
check_stmts-returns-in_err-typed t c =
    does_err (told_in_turn (map (λ s. of_stmt s c.args.inside) c.args.stmts.now)) (λ all. joined (map (λ s. stmt_parts s c.args.inside) all)) c.args.known.now _ _ c.in_err-typed.field-0.0 c.from_residual.ensures.1
    (run_refused (λ s. of_stmt s c.args.inside) c.args.stmts.now c.loop-stmt.stmt-index c.stmt-item.result c.args.known.now c.loop-stmt.known (joined (map (λ s. stmt_parts s c.args.inside) c.loop-stmt.all)) c.in_err-typed.field-0.0
    c.loop-stmt-test.true c.stmt-item.is c.loop-stmt.invariant c.in_err-typed.ensures)

pub check_stmts-loop-stmt-preserved : goal.check_stmts-loop-stmt-preserved
check_stmts-loop-stmt-preserved t c =
    subst (λ (all : List TypedStmt). Done (told_in_turn (map (λ s. of_stmt s c.args.inside) (take (c.loop-stmt.stmt-index + 1) c.args.stmts.now))) c.args.known.now c.check_stmt.new.known (joined (map (λ s. stmt_parts s c.args.inside) all))) (sym c.in_ok-push.ensures.ok)
    (run_more (λ s. of_stmt s c.args.inside) (λ s. stmt_parts s c.args.inside) c.args.stmts.now c.loop-stmt.stmt-index c.stmt-item.result c.args.known.now c.loop-stmt.known c.check_stmt.new.known c.loop-stmt.all c.in_ok-typed.typed
    c.loop-stmt-test.true c.stmt-item.is c.loop-stmt.invariant c.in_ok-typed.ensures)

pub check_block-returns-in_err-stmts : goal.check_block-returns-in_err-stmts
check_block-returns-in_err-stmts t c =
    let b = c.args.block.now in
    let stmts = subst (λ (ss : List Stmt). SaysFault (judged (told_in_turn (map (λ s. of_stmt s c.args.inside) ss)).points c.args.known.now) c.in_err-stmts.field-0.0) c.as_slice.ensures c.in_err-stmts.ensures in
    rw (block_is b c.args.inside) (does_err (block_told (map (λ s. of_stmt s c.args.inside) (out-Block b).stmts)) (λ b. block_parts b c.args.inside) c.args.known.now _ _ c.in_err-stmts.field-0.0 c.from_residual.ensures.1
    (refused_front (told_in_turn (map (λ s. of_stmt s c.args.inside) (out-Block b).stmts)) (says EndWord) c.args.known.now c.in_err-stmts.field-0.0 stmts))

pub check_block-returns : goal.check_block-returns
check_block-returns t c =
    let b = c.args.block.now in
    let parts = joined (map (λ s. stmt_parts s c.args.inside) c.in_ok-stmts.stmts) in
    let stmts = subst (λ (ss : List Stmt). Done (told_in_turn (map (λ s. of_stmt s c.args.inside) ss)) c.args.known.now c.check_stmts.new.known parts) c.as_slice.ensures c.in_ok-stmts.ensures in
    rw (block_is b c.args.inside, block_of c.in_ok-stmts.stmts c.args.inside)
    (done_next (told_in_turn (map (λ s. of_stmt s c.args.inside) (out-Block b).stmts)) (says EndWord) c.args.known.now c.check_stmts.new.known c.check_stmts.new.known parts (Ending ∷ []) stmts (done_says EndWord Ending c.check_stmts.new.known tt refl))

pub check_arm-returns-in_err-condition : goal.check_arm-returns-in_err-condition
check_arm-returns-in_err-condition t c =
    does_err (arm_told (c.args.condition.now, of_block c.args.block.now c.args.inside)) (λ arm. arm_parts (arm.0, block_parts arm.1 c.args.inside)) c.args.known.now _ _ c.in_err-condition.field-0.0 c.from_residual.ensures.1
    (worded_first ArmWord Arm (condition_told c.args.condition.now) (of_block c.args.block.now c.args.inside) c.args.known.now c.in_err-condition.field-0.0 tt refl c.in_err-condition.ensures)

pub check_arm-returns : goal.check_arm-returns
check_arm-returns t c =
    let inside = c.args.inside in
    let told = arm_told (c.args.condition.now, of_block c.args.block.now inside) in
    let k = c.check_condition.new.known in
    let condition = num_parts c.in_ok-condition.condition in
    told_beside (λ (n : NumExpr) (b : TypedBlock). Done told c.args.known.now c.check_block-block.new.known (arm_parts (n, block_parts b inside))) (λ e. SaysFault (judged told.points c.args.known.now) e)
    c.in_ok-condition.condition c.check_block-block.result c.beside.result c.beside.ensures
    (MatchResult-weaker c.check_block-block.result c.check_block-block.ensures
    (λ b done. worded_done ArmWord Arm (condition_told c.args.condition.now) (of_block c.args.block.now inside) c.args.known.now k c.check_block-block.new.known condition (block_parts b inside) tt refl c.in_ok-condition.ensures done)
    (λ e fault. worded_second ArmWord Arm (condition_told c.args.condition.now) (of_block c.args.block.now inside) c.args.known.now k condition e tt refl c.in_ok-condition.ensures fault))

pub check_while-returns-in_err-condition : goal.check_while-returns-in_err-condition
check_while-returns-in_err-condition t c =
    does_in_err (while_told c.args.place c.args.condition.now (of_block c.args.block.now true)) (stmt_parts) c.args.known.now _ _ c.in_err-condition.field-0.0 c.from_residual.ensures.1
    (worded_first (WhileWord c.args.place.line) (Looped c.args.place.line) (condition_told c.args.condition.now) (of_block c.args.block.now true) c.args.known.now c.in_err-condition.field-0.0 tt refl c.in_err-condition.ensures)

pub check_while-returns-in_err-condition-2 : goal.check_while-returns-in_err-condition-2
check_while-returns-in_err-condition-2 t c =
    let e = c.in_err-condition-2.field-0.0 in
    let fault = MatchResult-at_err _ _ e c.in_err-condition-2.ensures c.check_block-block.ensures in
    does_in_err (while_told c.args.place c.args.condition.now (of_block c.args.block.now true)) (stmt_parts) c.args.known.now _ _ e c.from_residual-in_err-condition-2.ensures.1
    (worded_second (WhileWord c.args.place.line) (Looped c.args.place.line) (condition_told c.args.condition.now) (of_block c.args.block.now true) c.args.known.now c.check_condition.new.known (num_parts c.in_ok-condition.condition) e tt refl c.in_ok-condition.ensures fault)

pub check_while-returns : goal.check_while-returns
check_while-returns t c = λ (inside : Bool).
    let done = MatchResult-at_ok _ _ _ c.in_ok-condition-2.ensures.1 c.check_block-block.ensures in
    rw (c.in_ok-condition-2.ensures.0, while_stmt c.in_ok-condition.condition c.in_ok-condition-2.block c.args.place.line inside)
    (worded_done (WhileWord c.args.place.line) (Looped c.args.place.line) (condition_told c.args.condition.now) (of_block c.args.block.now true) c.args.known.now c.check_condition.new.known c.check_block-block.new.known (num_parts c.in_ok-condition.condition) (block_parts c.in_ok-condition-2.block true) tt refl
    c.in_ok-condition.ensures done)

pub check_unroll-returns-in_err-block : goal.check_unroll-returns-in_err-block
check_unroll-returns-in_err-block t c =
    does_in_err (unroll_told c.args.place c.args.turns (of_block c.args.block.now true)) (stmt_parts) c.args.known.now _ _ c.in_err-block.field-0.0 c.from_residual.ensures.1
    (unroll_first c.args.place c.args.turns (of_block c.args.block.now true) c.args.known.now c.in_err-block.field-0.0 c.in_err-block.ensures)

pub check_unroll-returns-in_err-turns : goal.check_unroll-returns-in_err-turns
check_unroll-returns-in_err-turns t c =
    let fits : FitsSigned w64 c.args.turns = c.ranges.turns in
    does_in_err (unroll_told c.args.place c.args.turns (of_block c.args.block.now true)) (stmt_parts) c.args.known.now _ _ c.in_err-turns.field-0.0 c.from_residual-in_err-turns.ensures.1
    (unroll_refused c.args.place c.args.turns (of_block c.args.block.now true) c.args.known.now c.check_block.new.known (block_parts c.in_ok-block.block true) c.in_err-turns.field-0.0 c.in_ok-block.ensures (simp to_z-of_z at c.in_err-turns.ensures.refuses))

pub check_unroll-returns : goal.check_unroll-returns
check_unroll-returns t c = λ (inside : Bool).
    let fits : FitsSigned w64 c.args.turns = c.ranges.turns in
    let same = simp to_z-of_z at c.in_ok-turns.ensures.same in
    rw (unroll_stmt c.in_ok-turns.turns c.in_ok-block.block c.args.place.line inside)
    (unroll_done c.args.place c.args.turns (of_block c.args.block.now true) c.args.known.now c.check_block.new.known (block_parts c.in_ok-block.block true) c.in_ok-turns.turns c.in_ok-block.ensures (simp to_z-of_z at c.in_ok-turns.ensures.refuses) same.0 same.1 same.2)

-- what is told of an arm
abbrev arm_at : Bool → Expr × Block → Told
arm_at inside arm = arm_told (arm.0, of_block arm.1 inside)

abbrev parts_at : Bool → NumExpr × TypedBlock → List TreePart
parts_at inside arm = arm_parts (arm.0, block_parts arm.1 inside)

pub check_kind-returns-in_err-typed-in-If : goal.check_kind-returns-in_err-typed-in-If
check_kind-returns-in_err-typed-in-If t c =
    let arms = c.as_slice-arm-items.result.now in
    let other = option_map (λ b. of_block b c.args.inside) c.in-If.otherwise in
    let fault = run_refused (arm_at c.args.inside) arms c.loop-arm.arm-index c.arm-item.result c.args.known.now c.loop-arm.known (joined (map (parts_at c.args.inside) c.loop-arm.all)) c.in_err-typed-in-If.field-0.0
    c.loop-arm-test.true c.arm-item.is c.loop-arm.invariant c.in_err-typed-in-If.ensures in
    let here = subst (λ (l : List (Expr × Block)). SaysFault (judged (told_in_turn (map (arm_at c.args.inside) l)).points c.args.known.now) c.in_err-typed-in-If.field-0.0) c.as_slice-arm-items.ensures fault in
    rw c.in-If.is (rw (if_is c.in-If.arms c.in-If.otherwise c.args.inside c.args.place)
    (does_err (if_told (map (arm_at c.args.inside) c.in-If.arms) other) (λ s. stmt_parts s c.args.inside) c.args.known.now _ _ c.in_err-typed-in-If.field-0.0 c.from_residual.ensures.1
    (refused_front (told_in_turn (map (arm_at c.args.inside) c.in-If.arms)) (otherwise_told other) c.args.known.now c.in_err-typed-in-If.field-0.0 here)))

pub check_kind-loop-arm-preserved : goal.check_kind-loop-arm-preserved
check_kind-loop-arm-preserved t c =
    let arms = c.as_slice-arm-items.result.now in
    subst (λ (all : List (NumExpr × TypedBlock)). Done (told_in_turn (map (arm_at c.args.inside) (take (c.loop-arm.arm-index + 1) arms))) c.args.known.now c.check_arm.new.known (joined (map (parts_at c.args.inside) all))) (sym c.in_ok-push-in-If.ensures.ok)
    (run_more (arm_at c.args.inside) (parts_at c.args.inside) arms c.loop-arm.arm-index c.arm-item.result c.args.known.now c.loop-arm.known c.check_arm.new.known c.loop-arm.all c.in_ok-typed-in-If.typed
    c.loop-arm-test.true c.arm-item.is c.loop-arm.invariant c.in_ok-typed-in-If.ensures)

pub check_kind-returns-in_err-arms-in-If : goal.check_kind-returns-in_err-arms-in-If
check_kind-returns-in_err-arms-in-If t c =
    let parts = joined (map (parts_at c.args.inside) c.loop-arm.all) in
    let other = option_map (λ b. of_block b c.args.inside) c.in-If.otherwise in
    let arms = subst (λ (l : List (Expr × Block)). Done (told_in_turn (map (arm_at c.args.inside) l)) c.args.known.now c.loop-arm.known parts) c.as_slice-arm-items.ensures
    (run_ends (arm_at c.args.inside) c.as_slice-arm-items.result.now c.loop-arm.arm-index c.args.known.now c.loop-arm.known parts (omega arith) c.loop-arm.invariant) in
    let fault = fault_in (otherwise_told other) (λ b. otherwise_parts (option_map (λ b. block_parts b c.args.inside) b)) c.loop-arm.known c.check_otherwise-otherwise.new.known c.check_otherwise-otherwise.result c.in_err-arms-in-If.field-0.0 c.in_err-arms-in-If.ensures c.check_otherwise-otherwise.ensures in
    rw c.in-If.is (rw (if_is c.in-If.arms c.in-If.otherwise c.args.inside c.args.place)
    (does_err (if_told (map (arm_at c.args.inside) c.in-If.arms) other) (λ s. stmt_parts s c.args.inside) c.args.known.now _ _ c.in_err-arms-in-If.field-0.0 c.from_residual-in_err-arms-in-If.ensures.1
    (refused_next (told_in_turn (map (arm_at c.args.inside) c.in-If.arms)) (otherwise_told other) c.args.known.now c.loop-arm.known parts c.in_err-arms-in-If.field-0.0 arms fault)))

pub check_kind-returns-in_ok-arms-in-If : goal.check_kind-returns-in_ok-arms-in-If
check_kind-returns-in_ok-arms-in-If t c =
    let parts = joined (map (parts_at c.args.inside) c.loop-arm.all) in
    let other = option_map (λ b. of_block b c.args.inside) c.in-If.otherwise in
    let arms = subst (λ (l : List (Expr × Block)). Done (told_in_turn (map (arm_at c.args.inside) l)) c.args.known.now c.loop-arm.known parts) c.as_slice-arm-items.ensures
    (run_ends (arm_at c.args.inside) c.as_slice-arm-items.result.now c.loop-arm.arm-index c.args.known.now c.loop-arm.known parts (omega arith) c.loop-arm.invariant) in
    let done = done_in (otherwise_told other) (λ b. otherwise_parts (option_map (λ b. block_parts b c.args.inside) b)) c.loop-arm.known c.check_otherwise-otherwise.new.known c.check_otherwise-otherwise.result c.in_ok-arms-in-If.otherwise c.in_ok-arms-in-If.ensures.1 c.check_otherwise-otherwise.ensures in
    rw c.in-If.is (rw (if_is c.in-If.arms c.in-If.otherwise c.args.inside c.args.place, c.in_ok-arms-in-If.ensures.0, if_stmt c.loop-arm.all c.in_ok-arms-in-If.otherwise c.args.inside)
    (done_next (told_in_turn (map (arm_at c.args.inside) c.in-If.arms)) (otherwise_told other) c.args.known.now c.loop-arm.known c.check_otherwise-otherwise.new.known parts (otherwise_parts (option_map (λ b. block_parts b c.args.inside) c.in_ok-arms-in-If.otherwise)) arms done))

pub check_kind-returns-in-SetAgg : goal.check_kind-returns-in-SetAgg
check_kind-returns-in-SetAgg t c =
    arm_does_in c.args.kind.now (kinds.SetAgg c.in-SetAgg.map c.in-SetAgg.agg c.in-SetAgg.agg_place) (gather_told (of_map c.in-SetAgg.map) (kind_of_call c.in-SetAgg.agg) (gathered_told (number_of_call c.in-SetAgg.agg) c.in-SetAgg.agg_place) c.in-SetAgg.agg_place) c.args.inside c.args.place c.args.known.now c.check_gather.new.known c.check_gather.result c.in-SetAgg.is
    (gather_is c.in-SetAgg.map c.in-SetAgg.agg c.in-SetAgg.agg_place c.args.inside c.args.place) c.check_gather.ensures

pub check_kind-returns-in-Assign : goal.check_kind-returns-in-Assign
check_kind-returns-in-Assign t c =
    arm_does_in c.args.kind.now (kinds.Assign c.in-Assign.target c.in-Assign.op c.in-Assign.value) (assign_told c.in-Assign.op (of_target c.in-Assign.target) (of_expr c.in-Assign.value) c.args.place) c.args.inside c.args.place c.args.known.now c.check_assign.new.known c.check_assign.result c.in-Assign.is
    (assign_is c.in-Assign.target c.in-Assign.op c.in-Assign.value c.args.inside c.args.place) c.check_assign.ensures

pub check_kind-returns-in-Step : goal.check_kind-returns-in-Step
check_kind-returns-in-Step t c =
    arm_does_in c.args.kind.now (kinds.Step c.in-Step.step) (value_told (of_step c.in-Step.step)) c.args.inside c.args.place c.args.known.now c.check_step_stmt.new.known c.check_step_stmt.result c.in-Step.is
    (step_is c.in-Step.step c.args.inside c.args.place) c.check_step_stmt.ensures

pub check_kind-returns-in-Printf : goal.check_kind-returns-in-Printf
check_kind-returns-in-Printf t c =
    arm_does_in c.args.kind.now (kinds.Printf c.in-Printf.format c.in-Printf.format_place c.in-Printf.values) (printf_told c.in-Printf.format c.in-Printf.format_place (map of_expr c.in-Printf.values)) c.args.inside c.args.place c.args.known.now c.check_printf.new.known c.check_printf.result c.in-Printf.is
    (printf_is c.in-Printf.format c.in-Printf.format_place c.in-Printf.values c.args.inside c.args.place) (subst (λ (vs : List Expr). DoesIn (printf_told c.in-Printf.format c.in-Printf.format_place (map of_expr vs)) stmt_parts c.args.known.now c.check_printf.new.known c.check_printf.result)
    c.as_slice.ensures c.check_printf.ensures)

pub check_kind-returns-in-Clear : goal.check_kind-returns-in-Clear
check_kind-returns-in-Clear t c =
    arm_does_in c.args.kind.now (kinds.Clear c.in-Clear.map) (clear_told (of_map c.in-Clear.map)) c.args.inside c.args.place c.args.known.now c.check_clear.new.known c.check_clear.result c.in-Clear.is
    (clear_is c.in-Clear.map c.args.inside c.args.place) c.check_clear.ensures

pub check_kind-returns-in-Zero : goal.check_kind-returns-in-Zero
check_kind-returns-in-Zero t c =
    arm_does_in c.args.kind.now (kinds.Zero c.in-Zero.map) (zero_told (of_map c.in-Zero.map)) c.args.inside c.args.place c.args.known.now c.check_zero.new.known c.check_zero.result c.in-Zero.is
    (zero_is c.in-Zero.map c.args.inside c.args.place) c.check_zero.ensures

pub check_kind-returns-in-Delete : goal.check_kind-returns-in-Delete
check_kind-returns-in-Delete t c =
    arm_does_in c.args.kind.now (kinds.Delete c.in-Delete.map) (delete_told (of_map c.in-Delete.map) [] c.args.place) c.args.inside c.args.place c.args.known.now c.check_delete.new.known c.check_delete.result c.in-Delete.is
    (delete_is c.in-Delete.map c.args.inside c.args.place) c.check_delete.ensures

pub check_kind-returns-in-DeleteKey : goal.check_kind-returns-in-DeleteKey
check_kind-returns-in-DeleteKey t c =
    arm_does_in c.args.kind.now (kinds.DeleteKey c.in-DeleteKey.map c.in-DeleteKey.key) (delete_told (of_map c.in-DeleteKey.map) (of_expr c.in-DeleteKey.key ∷ []) c.args.place) c.args.inside c.args.place c.args.known.now c.check_delete_key.new.known c.check_delete_key.result c.in-DeleteKey.is
    (delete_key_is c.in-DeleteKey.map c.in-DeleteKey.key c.args.inside c.args.place) c.check_delete_key.ensures

pub check_kind-returns-in-While : goal.check_kind-returns-in-While
check_kind-returns-in-While t c =
    arm_does_in c.args.kind.now (kinds.While c.in-While.condition c.in-While.block) (while_told c.args.place c.in-While.condition (of_block c.in-While.block true)) c.args.inside c.args.place c.args.known.now c.check_while.new.known c.check_while.result c.in-While.is
    (while_is c.in-While.condition c.in-While.block c.args.inside c.args.place) c.check_while.ensures

pub check_kind-returns-in-Exit : goal.check_kind-returns-in-Exit
check_kind-returns-in-Exit t c =
    arm_does c.args.kind.now kinds.Exit (says (JumpWord Exit)) c.args.inside c.args.place c.args.known.now c.args.known.now (Ok (typed.Jump Exit)) c.in-Exit.is
    (exit_is c.args.inside c.args.place) (jump_does Exit c.args.inside c.args.known.now refl)

pub check_kind-returns-in-Return : goal.check_kind-returns-in-Return
check_kind-returns-in-Return t c =
    arm_does c.args.kind.now kinds.Return (says (JumpWord Return)) c.args.inside c.args.place c.args.known.now c.args.known.now (Ok (typed.Jump Return)) c.in-Return.is
    (return_is c.args.inside c.args.place) (jump_does Return c.args.inside c.args.known.now refl)

pub check_stmts-loop-stmt-init : goal.check_stmts-loop-stmt-init
check_stmts-loop-stmt-init t c =
    let k = c.args.known.now in
    subst (λ (all : List TypedStmt). Done (told_in_turn (map (λ s. of_stmt s c.args.inside) (take 0 c.args.stmts.now))) k k (joined (map (λ s. stmt_parts s c.args.inside) all)))
    (sym c.new-all.ensures) (nothing_done k)

pub check_kind-loop-arm-init : goal.check_kind-loop-arm-init
check_kind-loop-arm-init t c =
    let k = c.args.known.now in
    subst (λ (all : List (NumExpr × TypedBlock)). Done (told_in_turn (map (arm_at c.args.inside) (take 0 c.as_slice-arm-items.result.now))) k k (joined (map (parts_at c.args.inside) all)))
    (sym c.new-all.ensures) (nothing_done k)

pub check_stmts-returns : goal.check_stmts-returns
check_stmts-returns t c =
    run_ends (λ s. of_stmt s c.args.inside) c.args.stmts.now c.loop-stmt.stmt-index c.args.known.now c.loop-stmt.known (joined (map (λ s. stmt_parts s c.args.inside) c.loop-stmt.all))
    c.loop-stmt-test.false c.loop-stmt.invariant

pub check_otherwise-returns-in_ok-block-in-Some : goal.check_otherwise-returns-in_ok-block-in-Some
check_otherwise-returns-in_ok-block-in-Some t c =
    let k = c.args.known.now in let parts = block_parts c.in_ok-block-in-Some.block c.args.inside in
    subst (λ (o : Option Block). Done (otherwise_told (option_map (λ b. of_block b c.args.inside) o)) k c.check_block.new.known (Otherwise ∷ parts)) (sym c.in-Some.is)
    (done_next (says ElseWord) (of_block c.in-Some.block c.args.inside) k k c.check_block.new.known (Otherwise ∷ []) parts (done_says ElseWord Otherwise k tt refl) c.in_ok-block-in-Some.ensures)
