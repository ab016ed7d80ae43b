-- What is told of a statement, by what is told of its parts, and what typed statements are made of.
use Rattle.std.proofs.Common.{◌≡◌, ◌++◌, ◌∷◌, [], ℕ, ℤ, Bool, true, List, map, Option, Some, None, option_map, refl, sym, ap, ◌∙◌}
use Rattle.bt_core.specs.declared.map.AggKind.{AggKind}
use Rattle.bt_core.specs.declared.map.MapId.{MapId}
use Rattle.bt_core.specs.declared.operator.BinOp.{BinOp}
use Rattle.bt_core.specs.declared.place.Place.{Place}
use Rattle.bt_ast.specs.declared.expr.Expr.{Expr}
use Rattle.bt_ast.specs.declared.stmt.Block.{Block, out-Block, roll-out-Block, fold-roll-Block}
use Rattle.bt_ast.specs.declared.stmt.StmtKind.{StmtKind, fold-roll-StmtKind}
use Rattle.bt_ast.specs.declared.stmt.StmtKind.TheVariants.{If, While, Unroll, rolls-If, rolls-While, rolls-Unroll}
use Rattle.bt_ast.specs.declared.stmt.StmtKind.TheOpen.{StmtKind-F}
use Rattle.bt_ast.specs.declared.stmt.StmtKind.TheShapes.{former-StmtKind-If-0-at-2}
use Rattle.typed_tree.specs.declared.stmt.TypedStmt.TheShapes.{former-TypedStmt-If-0-at-2}
use Rattle.typed_tree.specs.declared.expr.NumExpr.{NumExpr}
use Rattle.typed_tree.specs.declared.expr.AnyExpr.{AnyExpr}
use Rattle.typed_tree.specs.declared.stmt.Jump.{Jump}
use Rattle.typed_tree.specs.declared.stmt.TypedStmt.{TypedStmt, fold-roll-TypedStmt}
use Rattle.typed_tree.specs.declared.stmt.TypedBlock.{TypedBlock, fold-roll-TypedBlock}
use Rattle.typed_tree.specs.declared.stmt.TypedStmt.TheVariants as typed
use Rattle.typed_tree.specs.declared.stmt.TypedStmt.TheOpen.{TypedStmt-F}
use Rattle.typed_tree.specs.Parts.{TreePart, Shown, Cleared, Zeroed, Jumped, Looped, Unrolled, Ending, made_of, num_parts, joined, arm_parts, otherwise_parts, set_var_parts, set_map_parts, update_var_parts, update_map_parts, gather_parts, printf_parts, delete_parts, stmt_layer, block_layer, stmt_parts, block_parts}
use Rattle.bt_types.specs.Told.{Told, arm_told, if_told, while_told, unroll_told, block_told, stmt_kind_layer, told_stmt_layer, told_block_layer, of_stmt_kind, of_block, of_stmt}

map_map : {A B C : Type 0} (f : B → C) (g : A → B) (xs : List A) → map f (map g xs) ≡ map (λ x. f (g x)) xs
map_map f g [] = refl
map_map {A} {B} {C} f g (x ∷ xs) = ap (λ (l : List C). f (g x) ∷ l) (map_map f g xs)

-- what the fold makes of the arms
arms_are : (inside : Bool) (arms : List (Expr × Block)) → map (λ (arm : Expr × (Bool → Told)). arm_told (arm.0, arm.1 inside)) (map (former-StmtKind-If-0-at-2.map Block (Bool → Told) of_block) arms) ≡ map (λ (arm : Expr × Block). arm_told (arm.0, of_block arm.1 inside)) arms
arms_are inside [] = refl
arms_are inside (a ∷ arms) = ap (λ (l : List Told). arm_told (a.0, of_block a.1 inside) ∷ l) (arms_are inside arms)

pub if_is : (arms : List (Expr × Block)) (otherwise : Option Block) (inside : Bool) (place : Place) → of_stmt_kind (If arms otherwise) inside place ≡ if_told (map (λ arm. arm_told (arm.0, of_block arm.1 inside)) arms) (option_map (λ b. of_block b inside) otherwise)
if_is arms None inside place =
    ap (λ (k : StmtKind). of_stmt_kind k inside place) (sym (rolls-If arms None))
    ∙ (ap (λ (f : Bool → Place → Told). f inside place) (fold-roll-StmtKind (Bool → Place → Told) (Bool → Told) (Bool → Told) stmt_kind_layer told_block_layer told_stmt_layer (StmtKind-F.If arms None))
    ∙ ap (λ (l : List Told). if_told l None) (arms_are inside arms))
if_is arms (Some block) inside place =
    ap (λ (k : StmtKind). of_stmt_kind k inside place) (sym (rolls-If arms (Some block)))
    ∙ (ap (λ (f : Bool → Place → Told). f inside place) (fold-roll-StmtKind (Bool → Place → Told) (Bool → Told) (Bool → Told) stmt_kind_layer told_block_layer told_stmt_layer (StmtKind-F.If arms (Some block)))
    ∙ ap (λ (l : List Told). if_told l (Some (of_block block inside))) (arms_are inside arms))

pub while_is : (e : Expr) (b : Block) (inside : Bool) (place : Place) → of_stmt_kind (While e b) inside place ≡ while_told place e (of_block b true)
while_is e b inside place =
    ap (λ (k : StmtKind). of_stmt_kind k inside place) (sym (rolls-While e b))
    ∙ ap (λ (f : Bool → Place → Told). f inside place) (fold-roll-StmtKind (Bool → Place → Told) (Bool → Told) (Bool → Told) stmt_kind_layer told_block_layer told_stmt_layer (StmtKind-F.While e b))

pub unroll_is : (turns : ℤ) (b : Block) (inside : Bool) (place : Place) → of_stmt_kind (Unroll turns b) inside place ≡ unroll_told place turns (of_block b true)
unroll_is turns b inside place =
    ap (λ (k : StmtKind). of_stmt_kind k inside place) (sym (rolls-Unroll turns b))
    ∙ ap (λ (f : Bool → Place → Told). f inside place) (fold-roll-StmtKind (Bool → Place → Told) (Bool → Told) (Bool → Told) stmt_kind_layer told_block_layer told_stmt_layer (StmtKind-F.Unroll turns b))

pub block_is : (b : Block) (inside : Bool) → of_block b inside ≡ block_told (map (λ s. of_stmt s inside) (out-Block b).stmts)
block_is b inside =
    ap (λ (x : Block). of_block x inside) (sym (roll-out-Block b))
    ∙ (ap (λ (f : Bool → Told). f inside) (fold-roll-Block (Bool → Place → Told) (Bool → Told) (Bool → Told) stmt_kind_layer told_block_layer told_stmt_layer (out-Block b))
    ∙ ap block_told (map_map (λ (f : Bool → Told). f inside) of_stmt (out-Block b).stmts))

-- what typed statements are made of
pub var_stmt : (number : ℕ) (value : AnyExpr) (inside : Bool) → stmt_parts (typed.SetVar number value) inside ≡ set_var_parts number (made_of value)
var_stmt number value inside =
    ap (λ (s : TypedStmt). stmt_parts s inside) (sym (typed.rolls-SetVar number value))
    ∙ ap (λ (f : Bool → List TreePart). f inside) (fold-roll-TypedStmt (Bool → List TreePart) (Bool → List TreePart) stmt_layer block_layer (TypedStmt-F.SetVar number value))

pub map_stmt : (m : MapId) (keys : List AnyExpr) (value : AnyExpr) (inside : Bool) → stmt_parts (typed.SetMap m keys value) inside ≡ set_map_parts m.0 (map made_of keys) (made_of value)
map_stmt m keys value inside =
    ap (λ (s : TypedStmt). stmt_parts s inside) (sym (typed.rolls-SetMap m keys value))
    ∙ ap (λ (f : Bool → List TreePart). f inside) (fold-roll-TypedStmt (Bool → List TreePart) (Bool → List TreePart) stmt_layer block_layer (TypedStmt-F.SetMap m keys value))

pub update_var_stmt : (number : ℕ) (op : BinOp) (value : NumExpr) (inside : Bool) → stmt_parts (typed.UpdateVar number op value) inside ≡ update_var_parts op number (num_parts value)
update_var_stmt number op value inside =
    ap (λ (s : TypedStmt). stmt_parts s inside) (sym (typed.rolls-UpdateVar number op value))
    ∙ ap (λ (f : Bool → List TreePart). f inside) (fold-roll-TypedStmt (Bool → List TreePart) (Bool → List TreePart) stmt_layer block_layer (TypedStmt-F.UpdateVar number op value))

pub update_map_stmt : (m : MapId) (keys : List AnyExpr) (op : BinOp) (value : NumExpr) (inside : Bool) → stmt_parts (typed.UpdateMap m keys op value) inside ≡ update_map_parts op m.0 (map made_of keys) (num_parts value)
update_map_stmt m keys op value inside =
    ap (λ (s : TypedStmt). stmt_parts s inside) (sym (typed.rolls-UpdateMap m keys op value))
    ∙ ap (λ (f : Bool → List TreePart). f inside) (fold-roll-TypedStmt (Bool → List TreePart) (Bool → List TreePart) stmt_layer block_layer (TypedStmt-F.UpdateMap m keys op value))

pub gather_stmt : (m : MapId) (keys : List AnyExpr) (kind : AggKind) (number : Option NumExpr) (inside : Bool) → stmt_parts (typed.Gather m keys kind number) inside ≡ gather_parts m.0 (map made_of keys) kind number
gather_stmt m keys kind number inside =
    ap (λ (s : TypedStmt). stmt_parts s inside) (sym (typed.rolls-Gather m keys kind number))
    ∙ ap (λ (f : Bool → List TreePart). f inside) (fold-roll-TypedStmt (Bool → List TreePart) (Bool → List TreePart) stmt_layer block_layer (TypedStmt-F.Gather m keys kind number))

pub printf_stmt : (format : ℕ) (values : List AnyExpr) (inside : Bool) → stmt_parts (typed.Printf format values) inside ≡ printf_parts format (map made_of values)
printf_stmt format values inside =
    ap (λ (s : TypedStmt). stmt_parts s inside) (sym (typed.rolls-Printf format values))
    ∙ ap (λ (f : Bool → List TreePart). f inside) (fold-roll-TypedStmt (Bool → List TreePart) (Bool → List TreePart) stmt_layer block_layer (TypedStmt-F.Printf format values))

pub delete_stmt : (m : MapId) (keys : List AnyExpr) (inside : Bool) → stmt_parts (typed.Delete m keys) inside ≡ delete_parts m.0 (map made_of keys)
delete_stmt m keys inside =
    ap (λ (s : TypedStmt). stmt_parts s inside) (sym (typed.rolls-Delete m keys))
    ∙ ap (λ (f : Bool → List TreePart). f inside) (fold-roll-TypedStmt (Bool → List TreePart) (Bool → List TreePart) stmt_layer block_layer (TypedStmt-F.Delete m keys))

pub print_stmt : (m : MapId) (top : ℕ) (div : ℤ) (inside : Bool) → stmt_parts (typed.Print m top div) inside ≡ Shown m.0 top div ∷ []
print_stmt m top div inside =
    ap (λ (s : TypedStmt). stmt_parts s inside) (sym (typed.rolls-Print m top div))
    ∙ ap (λ (f : Bool → List TreePart). f inside) (fold-roll-TypedStmt (Bool → List TreePart) (Bool → List TreePart) stmt_layer block_layer (TypedStmt-F.Print m top div))

pub clear_stmt : (m : MapId) (inside : Bool) → stmt_parts (typed.Clear m) inside ≡ Cleared m.0 ∷ []
clear_stmt m inside =
    ap (λ (s : TypedStmt). stmt_parts s inside) (sym (typed.rolls-Clear m))
    ∙ ap (λ (f : Bool → List TreePart). f inside) (fold-roll-TypedStmt (Bool → List TreePart) (Bool → List TreePart) stmt_layer block_layer (TypedStmt-F.Clear m))

pub zero_stmt : (m : MapId) (inside : Bool) → stmt_parts (typed.Zero m) inside ≡ Zeroed m.0 ∷ []
zero_stmt m inside =
    ap (λ (s : TypedStmt). stmt_parts s inside) (sym (typed.rolls-Zero m))
    ∙ ap (λ (f : Bool → List TreePart). f inside) (fold-roll-TypedStmt (Bool → List TreePart) (Bool → List TreePart) stmt_layer block_layer (TypedStmt-F.Zero m))

pub step_stmt : (value : NumExpr) (inside : Bool) → stmt_parts (typed.Step value) inside ≡ num_parts value
step_stmt value inside =
    ap (λ (s : TypedStmt). stmt_parts s inside) (sym (typed.rolls-Step value))
    ∙ ap (λ (f : Bool → List TreePart). f inside) (fold-roll-TypedStmt (Bool → List TreePart) (Bool → List TreePart) stmt_layer block_layer (TypedStmt-F.Step value))

pub jump_stmt : (jump : Jump) (inside : Bool) → stmt_parts (typed.Jump jump) inside ≡ Jumped jump inside ∷ []
jump_stmt jump inside =
    ap (λ (s : TypedStmt). stmt_parts s inside) (sym (typed.rolls-Jump jump))
    ∙ ap (λ (f : Bool → List TreePart). f inside) (fold-roll-TypedStmt (Bool → List TreePart) (Bool → List TreePart) stmt_layer block_layer (TypedStmt-F.Jump jump))

pub while_stmt : (test : NumExpr) (block : TypedBlock) (line : ℕ) (inside : Bool) → stmt_parts (typed.While test block line) inside ≡ Looped line ∷ (num_parts test ++ block_parts block true)
while_stmt test block line inside =
    ap (λ (s : TypedStmt). stmt_parts s inside) (sym (typed.rolls-While test block line))
    ∙ ap (λ (f : Bool → List TreePart). f inside) (fold-roll-TypedStmt (Bool → List TreePart) (Bool → List TreePart) stmt_layer block_layer (TypedStmt-F.While test block line))

pub unroll_stmt : (turns : ℕ) (block : TypedBlock) (line : ℕ) (inside : Bool) → stmt_parts (typed.Unroll turns block line) inside ≡ Unrolled turns line ∷ block_parts block true
unroll_stmt turns block line inside =
    ap (λ (s : TypedStmt). stmt_parts s inside) (sym (typed.rolls-Unroll turns block line))
    ∙ ap (λ (f : Bool → List TreePart). f inside) (fold-roll-TypedStmt (Bool → List TreePart) (Bool → List TreePart) stmt_layer block_layer (TypedStmt-F.Unroll turns block line))

pub block_of : (stmts : List TypedStmt) (inside : Bool) → block_parts (record { stmts = stmts }) inside ≡ joined (map (λ s. stmt_parts s inside) stmts) ++ Ending ∷ []
block_of stmts inside =
    ap (λ (f : Bool → List TreePart). f inside) (fold-roll-TypedBlock (Bool → List TreePart) (Bool → List TreePart) stmt_layer block_layer (record { stmts = stmts }))
    ∙ ap (λ (l : List (List TreePart)). joined l ++ Ending ∷ []) (map_map (λ (f : Bool → List TreePart). f inside) stmt_parts stmts)

typed_arms : (inside : Bool) (arms : List (NumExpr × TypedBlock)) → map (λ (arm : NumExpr × (Bool → List TreePart)). arm_parts (arm.0, arm.1 inside)) (map (former-TypedStmt-If-0-at-2.map TypedBlock (Bool → List TreePart) block_parts) arms)
    ≡ map (λ (arm : NumExpr × TypedBlock). arm_parts (arm.0, block_parts arm.1 inside)) arms
typed_arms inside [] = refl
typed_arms inside (a ∷ arms) = ap (λ (l : List (List TreePart)). arm_parts (a.0, block_parts a.1 inside) ∷ l) (typed_arms inside arms)

pub if_stmt : (arms : List (NumExpr × TypedBlock)) (otherwise : Option TypedBlock) (inside : Bool) → stmt_parts (typed.If arms otherwise) inside
    ≡ joined (map (λ arm. arm_parts (arm.0, block_parts arm.1 inside)) arms) ++ otherwise_parts (option_map (λ b. block_parts b inside) otherwise)
if_stmt arms None inside =
    ap (λ (s : TypedStmt). stmt_parts s inside) (sym (typed.rolls-If arms None))
    ∙ (ap (λ (f : Bool → List TreePart). f inside) (fold-roll-TypedStmt (Bool → List TreePart) (Bool → List TreePart) stmt_layer block_layer (TypedStmt-F.If arms None))
    ∙ ap (λ (l : List (List TreePart)). joined l ++ otherwise_parts None) (typed_arms inside arms))
if_stmt arms (Some block) inside =
    ap (λ (s : TypedStmt). stmt_parts s inside) (sym (typed.rolls-If arms (Some block)))
    ∙ (ap (λ (f : Bool → List TreePart). f inside) (fold-roll-TypedStmt (Bool → List TreePart) (Bool → List TreePart) stmt_layer block_layer (TypedStmt-F.If arms (Some block)))
    ∙ ap (λ (l : List (List TreePart)). joined l ++ otherwise_parts (Some (block_parts block inside))) (typed_arms inside arms))
