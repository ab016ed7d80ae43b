-- What is told of statements by what they are, and an arm that answers for one.
use Rattle.std.proofs.Common.{◌≡◌, [], ◌∷◌, ℕ, Bool, true, false, ◌||◌, List, map, Option, Result, Ok, refl, sym, ap, subst, ◌∙◌}
use Rattle.bt_core.specs.declared.operator.BinOp.{BinOp}
use Rattle.bt_core.specs.declared.place.Place.{Place}
use Rattle.bt_ast.specs.declared.expr.Expr.{Expr}
use Rattle.bt_ast.specs.declared.expr.IncDec.{IncDec}
use Rattle.bt_ast.specs.declared.expr.MapRef.{MapRef}
use Rattle.bt_ast.specs.declared.expr.Target.{Target}
use Rattle.bt_ast.specs.declared.stmt.AggCall.{AggCall}
use Rattle.bt_ast.specs.declared.stmt.StmtKind.{StmtKind, fold-roll-StmtKind}
use Rattle.bt_ast.specs.declared.stmt.StmtKind.TheVariants as kinds
use Rattle.bt_ast.specs.declared.stmt.StmtKind.TheOpen.{StmtKind-F}
use Rattle.typed_tree.specs.declared.stmt.Jump.{Jump}
use Rattle.typed_tree.specs.declared.stmt.Jump.TheVariants.{Exit, Return}
use Rattle.typed_tree.specs.declared.stmt.TypedStmt.{TypedStmt}
use Rattle.typed_tree.specs.declared.stmt.TypedStmt.TheVariants as typed
use Rattle.typed_tree.specs.Parts.{TreePart, Jumped, stmt_parts}
use Rattle.typed_tree.specs.Scope.{leaves_body}
use Rattle.expr_types.specs.declared.fault.TypeError.{TypeError}
use Rattle.expr_types.specs.declared.known.Known.{Known}
use Rattle.expr_types.specs.Mentions.{JumpWord}
use Rattle.expr_types.specs.Walk.{of_expr, of_map, of_step, of_target}
use Rattle.bt_types.specs.Told.{Told, says, assign_told, clear_told, delete_told, gather_told, gathered_told, kind_of_call, number_of_call, printf_told, value_told, zero_told}
use Rattle.bt_types.specs.Told.{stmt_kind_layer, told_stmt_layer, told_block_layer, of_stmt_kind}
use Rattle.bt_types.specs.Done.{Done, Does, DoesIn}
use Rattle.bt_types.proofs.Turns.{does_at, done_says}
use Rattle.bt_types.proofs.StmtLayers.{jump_stmt}

pub gather_is : (m : MapRef) (call : AggCall) (word : Place) (inside : Bool) (place : Place) → of_stmt_kind (kinds.SetAgg m call word) inside place ≡ gather_told (of_map m) (kind_of_call call) (gathered_told (number_of_call call) word) word
gather_is m call word inside place =
    ap (λ (k : StmtKind). of_stmt_kind k inside place) (sym (kinds.rolls-SetAgg m call word))
    ∙ ap (λ (f : Bool → Place → Told). f inside place) (fold-roll-StmtKind (Bool → Place → Told) (Bool → Told) (Bool → Told) stmt_kind_layer told_block_layer told_stmt_layer (StmtKind-F.SetAgg m call word))

pub assign_is : (target : Target) (op : Option BinOp) (e : Expr) (inside : Bool) (place : Place) → of_stmt_kind (kinds.Assign target op e) inside place ≡ assign_told op (of_target target) (of_expr e) place
assign_is target op e inside place =
    ap (λ (k : StmtKind). of_stmt_kind k inside place) (sym (kinds.rolls-Assign target op e))
    ∙ ap (λ (f : Bool → Place → Told). f inside place) (fold-roll-StmtKind (Bool → Place → Told) (Bool → Told) (Bool → Told) stmt_kind_layer told_block_layer told_stmt_layer (StmtKind-F.Assign target op e))

pub step_is : (step : IncDec) (inside : Bool) (place : Place) → of_stmt_kind (kinds.Step step) inside place ≡ value_told (of_step step)
step_is step inside place =
    ap (λ (k : StmtKind). of_stmt_kind k inside place) (sym (kinds.rolls-Step step))
    ∙ ap (λ (f : Bool → Place → Told). f inside place) (fold-roll-StmtKind (Bool → Place → Told) (Bool → Told) (Bool → Told) stmt_kind_layer told_block_layer told_stmt_layer (StmtKind-F.Step step))

pub printf_is : (format : List ℕ) (at_format : Place) (values : List Expr) (inside : Bool) (place : Place) → of_stmt_kind (kinds.Printf format at_format values) inside place ≡ printf_told format at_format (map of_expr values)
printf_is format at_format values inside place =
    ap (λ (k : StmtKind). of_stmt_kind k inside place) (sym (kinds.rolls-Printf format at_format values))
    ∙ ap (λ (f : Bool → Place → Told). f inside place) (fold-roll-StmtKind (Bool → Place → Told) (Bool → Told) (Bool → Told) stmt_kind_layer told_block_layer told_stmt_layer (StmtKind-F.Printf format at_format values))

pub clear_is : (m : MapRef) (inside : Bool) (place : Place) → of_stmt_kind (kinds.Clear m) inside place ≡ clear_told (of_map m)
clear_is m inside place =
    ap (λ (k : StmtKind). of_stmt_kind k inside place) (sym (kinds.rolls-Clear m))
    ∙ ap (λ (f : Bool → Place → Told). f inside place) (fold-roll-StmtKind (Bool → Place → Told) (Bool → Told) (Bool → Told) stmt_kind_layer told_block_layer told_stmt_layer (StmtKind-F.Clear m))

pub zero_is : (m : MapRef) (inside : Bool) (place : Place) → of_stmt_kind (kinds.Zero m) inside place ≡ zero_told (of_map m)
zero_is m inside place =
    ap (λ (k : StmtKind). of_stmt_kind k inside place) (sym (kinds.rolls-Zero m))
    ∙ ap (λ (f : Bool → Place → Told). f inside place) (fold-roll-StmtKind (Bool → Place → Told) (Bool → Told) (Bool → Told) stmt_kind_layer told_block_layer told_stmt_layer (StmtKind-F.Zero m))

pub delete_is : (m : MapRef) (inside : Bool) (place : Place) → of_stmt_kind (kinds.Delete m) inside place ≡ delete_told (of_map m) [] place
delete_is m inside place =
    ap (λ (k : StmtKind). of_stmt_kind k inside place) (sym (kinds.rolls-Delete m))
    ∙ ap (λ (f : Bool → Place → Told). f inside place) (fold-roll-StmtKind (Bool → Place → Told) (Bool → Told) (Bool → Told) stmt_kind_layer told_block_layer told_stmt_layer (StmtKind-F.Delete m))

pub delete_key_is : (m : MapRef) (key : Expr) (inside : Bool) (place : Place) → of_stmt_kind (kinds.DeleteKey m key) inside place ≡ delete_told (of_map m) (of_expr key ∷ []) place
delete_key_is m key inside place =
    ap (λ (k : StmtKind). of_stmt_kind k inside place) (sym (kinds.rolls-DeleteKey m key))
    ∙ ap (λ (f : Bool → Place → Told). f inside place) (fold-roll-StmtKind (Bool → Place → Told) (Bool → Told) (Bool → Told) stmt_kind_layer told_block_layer told_stmt_layer (StmtKind-F.DeleteKey m key))

pub exit_is : (inside : Bool) (place : Place) → of_stmt_kind kinds.Exit inside place ≡ says (JumpWord Exit)
exit_is inside place =
    ap (λ (k : StmtKind). of_stmt_kind k inside place) (sym kinds.rolls-Exit)
    ∙ ap (λ (f : Bool → Place → Told). f inside place) (fold-roll-StmtKind (Bool → Place → Told) (Bool → Told) (Bool → Told) stmt_kind_layer told_block_layer told_stmt_layer StmtKind-F.Exit)

pub return_is : (inside : Bool) (place : Place) → of_stmt_kind kinds.Return inside place ≡ says (JumpWord Return)
return_is inside place =
    ap (λ (k : StmtKind). of_stmt_kind k inside place) (sym kinds.rolls-Return)
    ∙ ap (λ (f : Bool → Place → Told). f inside place) (fold-roll-StmtKind (Bool → Place → Told) (Bool → Told) (Bool → Told) stmt_kind_layer told_block_layer told_stmt_layer StmtKind-F.Return)

-- an arm answers what is told of its statement
pub arm_does : (kind k : StmtKind) (t : Told) (inside : Bool) (place : Place) (before now : Known) (r : Result TypedStmt TypeError) → kind ≡ k → of_stmt_kind k inside place ≡ t
    → Does t (λ s. stmt_parts s inside) before now r → Does (of_stmt_kind kind inside place) (λ s. stmt_parts s inside) before now r
arm_does kind k t inside place before now r is tells h =
    subst (λ (x : Told). Does x (λ s. stmt_parts s inside) before now r) (sym (ap (λ (x : StmtKind). of_stmt_kind x inside place) is ∙ tells)) h

pub arm_does_in : (kind k : StmtKind) (t : Told) (inside : Bool) (place : Place) (before now : Known) (r : Result TypedStmt TypeError) → kind ≡ k → of_stmt_kind k inside place ≡ t
    → DoesIn t stmt_parts before now r → Does (of_stmt_kind kind inside place) (λ s. stmt_parts s inside) before now r
arm_does_in kind k t inside place before now r is tells h = arm_does kind k t inside place before now r is tells (does_at t stmt_parts before now r inside h)

fits_jump : (inside leaves : Bool) → leaves ≡ true → (inside || leaves) ≡ true
fits_jump true leaves e = refl
fits_jump false leaves e = e

-- a jump that may stand anywhere
pub jump_does : (jump : Jump) (inside : Bool) (k : Known) → leaves_body jump ≡ true → Does (says (JumpWord jump)) (λ s. stmt_parts s inside) k k (Ok (typed.Jump jump))
jump_does jump inside k leaves =
    subst (λ (ps : List TreePart). Done (says (JumpWord jump)) k k ps) (sym (jump_stmt jump inside))
    (done_says (JumpWord jump) (Jumped jump inside) k (fits_jump inside (leaves_body jump) leaves) refl)
