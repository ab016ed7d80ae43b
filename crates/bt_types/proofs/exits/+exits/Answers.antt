use Rattle.std.proofs.Common.{◌≡◌, ◌||◌, Bool, true, false, Option, arith, List, option_map, unwrap_or, sym, ap, subst, ◌∙◌}
use Rattle.std.specs.List.{list_any}
use Rattle.bt_ast.specs.declared.expr.Expr.{Expr}
use Rattle.bt_ast.specs.declared.stmt.Block.{Block}
use Rattle.bt_ast.specs.declared.stmt.Stmt.{Stmt}
use Rattle.bt_ast.specs.declared.stmt.StmtKind.TheVariants as kinds
use Rattle.bt_ast.specs.declared.stmt.StmtKind.{fold-roll-StmtKind}
use Rattle.bt_types.specs.Exits.{kind_exits_layer, block_exits_layer, stmt_exits_layer, stmt_exits, block_exits, kind_exits}
use Rattle.bt_types.proofs.ExitLaws.{block_exits_is, if_exits, any_here, none_more, none_all}
use Rattle.bt_ast.specs.declared.stmt.StmtKind.TheOpen.{StmtKind-F}
use Rattle.bt_types.proofs.exits.+exits.Goals as goal

pub block_exits-returns-then-stmt_exits : goal.block_exits-returns-then-stmt_exits
block_exits-returns-then-stmt_exits t c =
    let found = any_here stmt_exits c.as_slice-stmt-items.result.now c.loop-stmt.stmt-index c.stmt-item.result c.loop-stmt-test.true c.stmt-item.is (sym c.stmt_exits.ensures ∙ c.if-stmt_exits.true) in
    sym (block_exits_is c.args.block.now ∙ subst (λ (l : List Stmt). list_any stmt_exits l ≡ true) c.as_slice-stmt-items.ensures found)

pub kind_exits-returns-then-block_exits : goal.kind_exits-returns-then-block_exits
kind_exits-returns-then-block_exits t c =
    let found = any_here (λ (arm : Expr × Block). block_exits arm.1) c.as_slice-arm-items.result.now c.loop-arm.arm-index c.arm-item.result c.loop-arm-test.true c.arm-item.is (sym c.block_exits.ensures ∙ c.if-block_exits.true) in
    let arms = subst (λ (l : List (Expr × Block)). list_any (λ (arm : Expr × Block). block_exits arm.1) l ≡ true) c.as_slice-arm-items.ensures found in
    rw c.in-If.is (sym (if_exits c.in-If.arms c.in-If.otherwise ∙ ap (λ (b : Bool). b || unwrap_or (option_map block_exits c.in-If.otherwise) false) arms))

pub block_exits-loop-stmt-preserved : goal.block_exits-loop-stmt-preserved
block_exits-loop-stmt-preserved t c =
    none_more stmt_exits c.as_slice-stmt-items.result.now c.loop-stmt.stmt-index c.stmt-item.result c.loop-stmt-test.true c.stmt-item.is c.loop-stmt.invariant (sym c.stmt_exits.ensures ∙ c.if-stmt_exits.false)

pub block_exits-returns : goal.block_exits-returns
block_exits-returns t c =
    let none = none_all stmt_exits c.as_slice-stmt-items.result.now c.loop-stmt.stmt-index (omega arith) c.loop-stmt.invariant in
    sym (block_exits_is c.args.block.now ∙ subst (λ (l : List Stmt). list_any stmt_exits l ≡ false) c.as_slice-stmt-items.ensures none)

pub kind_exits-loop-arm-preserved : goal.kind_exits-loop-arm-preserved
kind_exits-loop-arm-preserved t c =
    none_more (λ (arm : Expr × Block). block_exits arm.1) c.as_slice-arm-items.result.now c.loop-arm.arm-index c.arm-item.result c.loop-arm-test.true c.arm-item.is c.loop-arm.invariant (sym c.block_exits.ensures ∙ c.if-block_exits.false)

pub kind_exits-returns-in-None : goal.kind_exits-returns-in-None
kind_exits-returns-in-None t c =
    let none = none_all (λ (arm : Expr × Block). block_exits arm.1) c.as_slice-arm-items.result.now c.loop-arm.arm-index (omega arith) c.loop-arm.invariant in
    let arms = subst (λ (l : List (Expr × Block)). list_any (λ (arm : Expr × Block). block_exits arm.1) l ≡ false) c.as_slice-arm-items.ensures none in
    rw c.in-If.is (sym (if_exits c.in-If.arms c.in-If.otherwise ∙ (ap (λ (b : Bool). b || unwrap_or (option_map block_exits c.in-If.otherwise) false) arms ∙ ap (λ (o : Option Block). unwrap_or (option_map block_exits o) false) c.in-None.is)))

pub kind_exits-returns-in-Some : goal.kind_exits-returns-in-Some
kind_exits-returns-in-Some t c =
    let none = none_all (λ (arm : Expr × Block). block_exits arm.1) c.as_slice-arm-items.result.now c.loop-arm.arm-index (omega arith) c.loop-arm.invariant in
    let arms = subst (λ (l : List (Expr × Block)). list_any (λ (arm : Expr × Block). block_exits arm.1) l ≡ false) c.as_slice-arm-items.ensures none in
    c.block_exits-in-Some.ensures ∙ rw c.in-If.is (sym (if_exits c.in-If.arms c.in-If.otherwise ∙ (ap (λ (b : Bool). b || unwrap_or (option_map block_exits c.in-If.otherwise) false) arms ∙ ap (λ (o : Option Block). unwrap_or (option_map block_exits o) false) c.in-Some.is)))

pub kind_exits-returns-in-SetAgg : goal.kind_exits-returns-in-SetAgg
kind_exits-returns-in-SetAgg t c = sym (ap kind_exits (c.in-SetAgg.is ∙ sym (kinds.rolls-SetAgg _ _ _)) ∙ fold-roll-StmtKind Bool Bool Bool kind_exits_layer block_exits_layer stmt_exits_layer (StmtKind-F.SetAgg _ _ _))

pub kind_exits-returns-in-Assign : goal.kind_exits-returns-in-Assign
kind_exits-returns-in-Assign t c = sym (ap kind_exits (c.in-Assign.is ∙ sym (kinds.rolls-Assign _ _ _)) ∙ fold-roll-StmtKind Bool Bool Bool kind_exits_layer block_exits_layer stmt_exits_layer (StmtKind-F.Assign _ _ _))

pub kind_exits-returns-in-Step : goal.kind_exits-returns-in-Step
kind_exits-returns-in-Step t c = sym (ap kind_exits (c.in-Step.is ∙ sym (kinds.rolls-Step _)) ∙ fold-roll-StmtKind Bool Bool Bool kind_exits_layer block_exits_layer stmt_exits_layer (StmtKind-F.Step _))

pub kind_exits-returns-in-Printf : goal.kind_exits-returns-in-Printf
kind_exits-returns-in-Printf t c = sym (ap kind_exits (c.in-Printf.is ∙ sym (kinds.rolls-Printf _ _ _)) ∙ fold-roll-StmtKind Bool Bool Bool kind_exits_layer block_exits_layer stmt_exits_layer (StmtKind-F.Printf _ _ _))

pub kind_exits-returns-in-Print : goal.kind_exits-returns-in-Print
kind_exits-returns-in-Print t c = sym (ap kind_exits (c.in-Print.is ∙ sym (kinds.rolls-Print _ _ _)) ∙ fold-roll-StmtKind Bool Bool Bool kind_exits_layer block_exits_layer stmt_exits_layer (StmtKind-F.Print _ _ _))

pub kind_exits-returns-in-Clear : goal.kind_exits-returns-in-Clear
kind_exits-returns-in-Clear t c = sym (ap kind_exits (c.in-Clear.is ∙ sym (kinds.rolls-Clear _)) ∙ fold-roll-StmtKind Bool Bool Bool kind_exits_layer block_exits_layer stmt_exits_layer (StmtKind-F.Clear _))

pub kind_exits-returns-in-Zero : goal.kind_exits-returns-in-Zero
kind_exits-returns-in-Zero t c = sym (ap kind_exits (c.in-Zero.is ∙ sym (kinds.rolls-Zero _)) ∙ fold-roll-StmtKind Bool Bool Bool kind_exits_layer block_exits_layer stmt_exits_layer (StmtKind-F.Zero _))

pub kind_exits-returns-in-Delete : goal.kind_exits-returns-in-Delete
kind_exits-returns-in-Delete t c = sym (ap kind_exits (c.in-Delete.is ∙ sym (kinds.rolls-Delete _)) ∙ fold-roll-StmtKind Bool Bool Bool kind_exits_layer block_exits_layer stmt_exits_layer (StmtKind-F.Delete _))

pub kind_exits-returns-in-DeleteKey : goal.kind_exits-returns-in-DeleteKey
kind_exits-returns-in-DeleteKey t c = sym (ap kind_exits (c.in-DeleteKey.is ∙ sym (kinds.rolls-DeleteKey _ _)) ∙ fold-roll-StmtKind Bool Bool Bool kind_exits_layer block_exits_layer stmt_exits_layer (StmtKind-F.DeleteKey _ _))

pub kind_exits-returns-in-Break : goal.kind_exits-returns-in-Break
kind_exits-returns-in-Break t c = sym (ap kind_exits (c.in-Break.is ∙ sym kinds.rolls-Break) ∙ fold-roll-StmtKind Bool Bool Bool kind_exits_layer block_exits_layer stmt_exits_layer StmtKind-F.Break)

pub kind_exits-returns-in-Continue : goal.kind_exits-returns-in-Continue
kind_exits-returns-in-Continue t c = sym (ap kind_exits (c.in-Continue.is ∙ sym kinds.rolls-Continue) ∙ fold-roll-StmtKind Bool Bool Bool kind_exits_layer block_exits_layer stmt_exits_layer StmtKind-F.Continue)

pub kind_exits-returns-in-Return : goal.kind_exits-returns-in-Return
kind_exits-returns-in-Return t c = sym (ap kind_exits (c.in-Return.is ∙ sym kinds.rolls-Return) ∙ fold-roll-StmtKind Bool Bool Bool kind_exits_layer block_exits_layer stmt_exits_layer StmtKind-F.Return)

pub kind_exits-returns-in-Exit : goal.kind_exits-returns-in-Exit
kind_exits-returns-in-Exit t c = sym (ap kind_exits (c.in-Exit.is ∙ sym kinds.rolls-Exit) ∙ fold-roll-StmtKind Bool Bool Bool kind_exits_layer block_exits_layer stmt_exits_layer StmtKind-F.Exit)
