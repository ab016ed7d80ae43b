-- What a statement of each kind does, and what fits of it, from the fit of the whole.
use Rattle.std.proofs.Common.{◌≡◌, ◌++◌, ℕ, ◌≤◌, arith, Bool, true, List, [], ◌∷◌, Option, Some, None, refl, sym, ap, ◌∙◌, subst}
use Rattle.std.specs.Prelude.{is_none}
use Rattle.bt_core.specs.declared.map.AggKind.{AggKind}
use Rattle.bt_core.specs.declared.map.MapId.{MapId}
use Rattle.bt_core.specs.declared.map.Shape.TheVariants.{Int}
use Rattle.bt_core.specs.declared.operator.BinOp.{BinOp}
use Rattle.typed_tree.specs.declared.expr.AnyExpr.{AnyExpr}
use Rattle.typed_tree.specs.declared.expr.NumExpr.{NumExpr}
use Rattle.typed_tree.specs.declared.stmt.Jump.{Jump}
use Rattle.typed_tree.specs.declared.stmt.TypedBlock.{TypedBlock}
use Rattle.typed_tree.specs.declared.stmt.TypedStmt.{TypedStmt, fold-roll-TypedStmt}
use Rattle.typed_tree.specs.declared.stmt.TypedStmt.TheVariants as stmts
use Rattle.typed_tree.specs.declared.stmt.TypedStmt.TheOpen.{TypedStmt-F}
use Rattle.typed_tree.specs.Parts.{TreePart, stmt_layer, block_layer, stmt_parts, block_parts, made_of, num_parts, parts_in, key_shapes, set_var_parts, set_map_parts, update_var_parts, update_map_parts, gather_parts, printf_parts, delete_parts, number_parts, Made, keyed_parts, MapOf, Assigned, Gathered, Looped, Unrolled, Printed, Ending}
use Rattle.walk_meaning.specs.declared.flow.Flow.{Flow}
use Rattle.walk_meaning.specs.declared.view.View.{View}
use Rattle.walk_meaning.specs.Does.{Does}
use Rattle.walk_meaning.specs.Exprs.{value_does, number_does, values_do}
use Rattle.walk_meaning.specs.Stmts.{stmt_by_parts, block_by_parts, stmt_does, block_does, set_variable, set_map, update_variable, update_map, gather, number_or_one, plain, printf, clear, zero_all, delete_at, jump_to, while_true, turns}
use Rattle.walk_meaning.specs.Served.{Fits, StmtFits, BlockFits, all_made}
use Rattle.bt_walk.proofs.Fitting.{behind, two}

pub same_turns : (a b : ℕ) → a ≡ b → a ≤ b
same_turns a b e = omega (arith, e)

pub setvar_does : (s : TypedStmt) (var : ℕ) (value : AnyExpr) → s ≡ stmts.SetVar var value → stmt_does s ≡ set_variable var (value_does value)
setvar_does s var value h = ap stmt_does h ∙ (ap stmt_does (sym (stmts.rolls-SetVar var value)) ∙ fold-roll-TypedStmt (Does Flow) (Does Flow) stmt_by_parts block_by_parts (TypedStmt-F.SetVar var value))

pub setvar_fits : (v : View) (s : TypedStmt) (var : ℕ) (value : AnyExpr) → s ≡ stmts.SetVar var value → StmtFits v s → Fits v (set_var_parts var (made_of value))
setvar_fits v s var value h fit = subst (λ (p : List TreePart). Fits v p) (ap (λ (x : TypedStmt). stmt_parts x fit.0) h ∙ ap (λ (k : Bool → List TreePart). k fit.0) (ap stmt_parts (sym (stmts.rolls-SetVar var value)) ∙ fold-roll-TypedStmt (Bool → List TreePart) (Bool → List TreePart) stmt_layer block_layer (TypedStmt-F.SetVar var value))) fit.1

pub setmap_does : (s : TypedStmt) (m : MapId) (keys : List AnyExpr) (value : AnyExpr) (keys1 : List AnyExpr) → s ≡ stmts.SetMap m keys value → keys1 ≡ keys → stmt_does s ≡ set_map m (values_do keys1) (value_does value)
setmap_does s m keys value keys1 h e = ap stmt_does h ∙ (ap stmt_does (sym (stmts.rolls-SetMap m keys value)) ∙ fold-roll-TypedStmt (Does Flow) (Does Flow) stmt_by_parts block_by_parts (TypedStmt-F.SetMap m keys value)) ∙ ap (λ (l : List AnyExpr). set_map m (values_do l) (value_does value)) (sym e)

pub setmap_fits : (v : View) (s : TypedStmt) (m : MapId) (keys : List AnyExpr) (value : AnyExpr) (keys1 : List AnyExpr) → s ≡ stmts.SetMap m keys value → keys1 ≡ keys → StmtFits v s → Fits v (set_map_parts m.0 (all_made keys1) (made_of value))
setmap_fits v s m keys value keys1 h e fit = subst (λ (p : List TreePart). Fits v p) (ap (λ (x : TypedStmt). stmt_parts x fit.0) h ∙ ap (λ (k : Bool → List TreePart). k fit.0) (ap stmt_parts (sym (stmts.rolls-SetMap m keys value)) ∙ fold-roll-TypedStmt (Bool → List TreePart) (Bool → List TreePart) stmt_layer block_layer (TypedStmt-F.SetMap m keys value)) ∙ ap (λ (l : List AnyExpr). set_map_parts m.0 (all_made l) (made_of value)) (sym e)) fit.1

pub updatevar_does : (s : TypedStmt) (var : ℕ) (op : BinOp) (value : NumExpr) → s ≡ stmts.UpdateVar var op value → stmt_does s ≡ update_variable var op (number_does value)
updatevar_does s var op value h = ap stmt_does h ∙ (ap stmt_does (sym (stmts.rolls-UpdateVar var op value)) ∙ fold-roll-TypedStmt (Does Flow) (Does Flow) stmt_by_parts block_by_parts (TypedStmt-F.UpdateVar var op value))

pub updatevar_fits : (v : View) (s : TypedStmt) (var : ℕ) (op : BinOp) (value : NumExpr) → s ≡ stmts.UpdateVar var op value → StmtFits v s → Fits v (update_var_parts op var (num_parts value))
updatevar_fits v s var op value h fit = subst (λ (p : List TreePart). Fits v p) (ap (λ (x : TypedStmt). stmt_parts x fit.0) h ∙ ap (λ (k : Bool → List TreePart). k fit.0) (ap stmt_parts (sym (stmts.rolls-UpdateVar var op value)) ∙ fold-roll-TypedStmt (Bool → List TreePart) (Bool → List TreePart) stmt_layer block_layer (TypedStmt-F.UpdateVar var op value))) fit.1

pub updatemap_does : (s : TypedStmt) (m : MapId) (keys : List AnyExpr) (op : BinOp) (value : NumExpr) (keys1 : List AnyExpr) → s ≡ stmts.UpdateMap m keys op value → keys1 ≡ keys → stmt_does s ≡ update_map m (values_do keys1) op (number_does value)
updatemap_does s m keys op value keys1 h e = ap stmt_does h ∙ (ap stmt_does (sym (stmts.rolls-UpdateMap m keys op value)) ∙ fold-roll-TypedStmt (Does Flow) (Does Flow) stmt_by_parts block_by_parts (TypedStmt-F.UpdateMap m keys op value)) ∙ ap (λ (l : List AnyExpr). update_map m (values_do l) op (number_does value)) (sym e)

pub updatemap_fits : (v : View) (s : TypedStmt) (m : MapId) (keys : List AnyExpr) (op : BinOp) (value : NumExpr) (keys1 : List AnyExpr) → s ≡ stmts.UpdateMap m keys op value → keys1 ≡ keys → StmtFits v s → Fits v (update_map_parts op m.0 (all_made keys1) (num_parts value))
updatemap_fits v s m keys op value keys1 h e fit = subst (λ (p : List TreePart). Fits v p) (ap (λ (x : TypedStmt). stmt_parts x fit.0) h ∙ ap (λ (k : Bool → List TreePart). k fit.0) (ap stmt_parts (sym (stmts.rolls-UpdateMap m keys op value)) ∙ fold-roll-TypedStmt (Bool → List TreePart) (Bool → List TreePart) stmt_layer block_layer (TypedStmt-F.UpdateMap m keys op value)) ∙ ap (λ (l : List AnyExpr). update_map_parts op m.0 (all_made l) (num_parts value)) (sym e)) fit.1

pub gather_does : (s : TypedStmt) (m : MapId) (keys : List AnyExpr) (kind : AggKind) (number : Option NumExpr) (keys1 : List AnyExpr) → s ≡ stmts.Gather m keys kind number → keys1 ≡ keys → stmt_does s ≡ gather m (values_do keys1) (number_or_one number)
gather_does s m keys kind number keys1 h e = ap stmt_does h ∙ (ap stmt_does (sym (stmts.rolls-Gather m keys kind number)) ∙ fold-roll-TypedStmt (Does Flow) (Does Flow) stmt_by_parts block_by_parts (TypedStmt-F.Gather m keys kind number)) ∙ ap (λ (l : List AnyExpr). gather m (values_do l) (number_or_one number)) (sym e)

pub gather_fits : (v : View) (s : TypedStmt) (m : MapId) (keys : List AnyExpr) (kind : AggKind) (number : Option NumExpr) (keys1 : List AnyExpr) → s ≡ stmts.Gather m keys kind number → keys1 ≡ keys → StmtFits v s → Fits v (gather_parts m.0 (all_made keys1) kind number)
gather_fits v s m keys kind number keys1 h e fit = subst (λ (p : List TreePart). Fits v p) (ap (λ (x : TypedStmt). stmt_parts x fit.0) h ∙ ap (λ (k : Bool → List TreePart). k fit.0) (ap stmt_parts (sym (stmts.rolls-Gather m keys kind number)) ∙ fold-roll-TypedStmt (Bool → List TreePart) (Bool → List TreePart) stmt_layer block_layer (TypedStmt-F.Gather m keys kind number)) ∙ ap (λ (l : List AnyExpr). gather_parts m.0 (all_made l) kind number) (sym e)) fit.1

pub step_does : (s : TypedStmt) (value : NumExpr) → s ≡ stmts.Step value → stmt_does s ≡ plain (number_does value)
step_does s value h = ap stmt_does h ∙ (ap stmt_does (sym (stmts.rolls-Step value)) ∙ fold-roll-TypedStmt (Does Flow) (Does Flow) stmt_by_parts block_by_parts (TypedStmt-F.Step value))

pub step_fits : (v : View) (s : TypedStmt) (value : NumExpr) → s ≡ stmts.Step value → StmtFits v s → Fits v (num_parts value)
step_fits v s value h fit = subst (λ (p : List TreePart). Fits v p) (ap (λ (x : TypedStmt). stmt_parts x fit.0) h ∙ ap (λ (k : Bool → List TreePart). k fit.0) (ap stmt_parts (sym (stmts.rolls-Step value)) ∙ fold-roll-TypedStmt (Bool → List TreePart) (Bool → List TreePart) stmt_layer block_layer (TypedStmt-F.Step value))) fit.1

pub printf_does : (s : TypedStmt) (format : ℕ) (keys : List AnyExpr) (keys1 : List AnyExpr) → s ≡ stmts.Printf format keys → keys1 ≡ keys → stmt_does s ≡ printf format (values_do keys1)
printf_does s format keys keys1 h e = ap stmt_does h ∙ (ap stmt_does (sym (stmts.rolls-Printf format keys)) ∙ fold-roll-TypedStmt (Does Flow) (Does Flow) stmt_by_parts block_by_parts (TypedStmt-F.Printf format keys)) ∙ ap (λ (l : List AnyExpr). printf format (values_do l)) (sym e)

pub printf_fits : (v : View) (s : TypedStmt) (format : ℕ) (keys : List AnyExpr) (keys1 : List AnyExpr) → s ≡ stmts.Printf format keys → keys1 ≡ keys → StmtFits v s → Fits v (parts_in (all_made keys1))
printf_fits v s format keys keys1 h e fit =
    let all : Fits v (printf_parts format (all_made keys1)) = subst (λ (p : List TreePart). Fits v p) (ap (λ (x : TypedStmt). stmt_parts x fit.0) h ∙ ap (λ (k : Bool → List TreePart). k fit.0) (ap stmt_parts (sym (stmts.rolls-Printf format keys)) ∙ fold-roll-TypedStmt (Bool → List TreePart) (Bool → List TreePart) stmt_layer block_layer (TypedStmt-F.Printf format keys)) ∙ ap (λ (l : List AnyExpr). printf_parts format (all_made l)) (sym e)) fit.1 in
    (two v (parts_in (all_made keys1)) (Ending ∷ []) (behind v (Printed format (key_shapes (all_made keys1))) (parts_in (all_made keys1) ++ Ending ∷ []) (printf_parts format (all_made keys1)) refl all)).0

pub clear_does : (s : TypedStmt) (m : MapId) → s ≡ stmts.Clear m → stmt_does s ≡ clear m
clear_does s m h = ap stmt_does h ∙ (ap stmt_does (sym (stmts.rolls-Clear m)) ∙ fold-roll-TypedStmt (Does Flow) (Does Flow) stmt_by_parts block_by_parts (TypedStmt-F.Clear m))

pub zero_does : (s : TypedStmt) (m : MapId) → s ≡ stmts.Zero m → stmt_does s ≡ zero_all m
zero_does s m h = ap stmt_does h ∙ (ap stmt_does (sym (stmts.rolls-Zero m)) ∙ fold-roll-TypedStmt (Does Flow) (Does Flow) stmt_by_parts block_by_parts (TypedStmt-F.Zero m))

pub delete_does : (s : TypedStmt) (m : MapId) (keys : List AnyExpr) (keys1 : List AnyExpr) → s ≡ stmts.Delete m keys → keys1 ≡ keys → stmt_does s ≡ delete_at m (values_do keys1)
delete_does s m keys keys1 h e = ap stmt_does h ∙ (ap stmt_does (sym (stmts.rolls-Delete m keys)) ∙ fold-roll-TypedStmt (Does Flow) (Does Flow) stmt_by_parts block_by_parts (TypedStmt-F.Delete m keys)) ∙ ap (λ (l : List AnyExpr). delete_at m (values_do l)) (sym e)

pub delete_fits : (v : View) (s : TypedStmt) (m : MapId) (keys : List AnyExpr) (keys1 : List AnyExpr) → s ≡ stmts.Delete m keys → keys1 ≡ keys → StmtFits v s → Fits v (delete_parts m.0 (all_made keys1))
delete_fits v s m keys keys1 h e fit = subst (λ (p : List TreePart). Fits v p) (ap (λ (x : TypedStmt). stmt_parts x fit.0) h ∙ ap (λ (k : Bool → List TreePart). k fit.0) (ap stmt_parts (sym (stmts.rolls-Delete m keys)) ∙ fold-roll-TypedStmt (Bool → List TreePart) (Bool → List TreePart) stmt_layer block_layer (TypedStmt-F.Delete m keys)) ∙ ap (λ (l : List AnyExpr). delete_parts m.0 (all_made l)) (sym e)) fit.1

pub jump_does : (s : TypedStmt) (to : Jump) → s ≡ stmts.Jump to → stmt_does s ≡ jump_to to
jump_does s to h = ap stmt_does h ∙ (ap stmt_does (sym (stmts.rolls-Jump to)) ∙ fold-roll-TypedStmt (Does Flow) (Does Flow) stmt_by_parts block_by_parts (TypedStmt-F.Jump to))

pub while_does : (s : TypedStmt) (test : NumExpr) (block : TypedBlock) (line : ℕ) → s ≡ stmts.While test block line → stmt_does s ≡ while_true line (number_does test) (block_does block)
while_does s test block line h = ap stmt_does h ∙ (ap stmt_does (sym (stmts.rolls-While test block line)) ∙ fold-roll-TypedStmt (Does Flow) (Does Flow) stmt_by_parts block_by_parts (TypedStmt-F.While test block line))

pub while_fits : (v : View) (s : TypedStmt) (test : NumExpr) (block : TypedBlock) (line : ℕ) → s ≡ stmts.While test block line → StmtFits v s → Fits v (num_parts test) × BlockFits v block
while_fits v s test block line h fit =
    let all : Fits v (Looped line ∷ (num_parts test ++ block_parts block true)) = subst (λ (p : List TreePart). Fits v p) (ap (λ (x : TypedStmt). stmt_parts x fit.0) h ∙ ap (λ (k : Bool → List TreePart). k fit.0) (ap stmt_parts (sym (stmts.rolls-While test block line)) ∙ fold-roll-TypedStmt (Bool → List TreePart) (Bool → List TreePart) stmt_layer block_layer (TypedStmt-F.While test block line))) fit.1 in
    let both = two v (num_parts test) (block_parts block true) (behind v (Looped line) (num_parts test ++ block_parts block true) (Looped line ∷ (num_parts test ++ block_parts block true)) refl all) in
    (both.0, (true, both.1))

pub unroll_does : (s : TypedStmt) (n : ℕ) (block : TypedBlock) (line : ℕ) → s ≡ stmts.Unroll n block line → stmt_does s ≡ turns n line (block_does block)
unroll_does s n block line h = ap stmt_does h ∙ (ap stmt_does (sym (stmts.rolls-Unroll n block line)) ∙ fold-roll-TypedStmt (Does Flow) (Does Flow) stmt_by_parts block_by_parts (TypedStmt-F.Unroll n block line))

pub unroll_fits : (v : View) (s : TypedStmt) (n : ℕ) (block : TypedBlock) (line : ℕ) → s ≡ stmts.Unroll n block line → StmtFits v s → BlockFits v block
unroll_fits v s n block line h fit =
    let all : Fits v (Unrolled n line ∷ block_parts block true) = subst (λ (p : List TreePart). Fits v p) (ap (λ (x : TypedStmt). stmt_parts x fit.0) h ∙ ap (λ (k : Bool → List TreePart). k fit.0) (ap stmt_parts (sym (stmts.rolls-Unroll n block line)) ∙ fold-roll-TypedStmt (Bool → List TreePart) (Bool → List TreePart) stmt_layer block_layer (TypedStmt-F.Unroll n block line))) fit.1 in
    (true, behind v (Unrolled n line) (block_parts block true) (Unrolled n line ∷ block_parts block true) refl all)

pub gather_split : (v : View) (m : MapId) (keys : List Made) (kind : AggKind) (number : Option NumExpr) → Fits v (gather_parts m.0 keys kind number) → Fits v (parts_in keys) × Fits v (number_parts number)
gather_split v m keys kind number fit = two v (parts_in keys) (number_parts number) (behind v (Gathered m.0 (key_shapes keys) kind (is_none number)) (parts_in keys ++ number_parts number) (gather_parts m.0 keys kind number) refl fit)

pub set_split : (v : View) (m : MapId) (keys : List Made) (value : Made) → Fits v (set_map_parts m.0 keys value) → Fits v (parts_in keys) × Fits v value.parts
set_split v m keys value fit =
    let both = two v (keyed_parts m.0 keys value.shape) value.parts (behind v (Assigned None) (keyed_parts m.0 keys value.shape ++ value.parts) (set_map_parts m.0 keys value) refl fit) in
    (behind v (MapOf m.0 (key_shapes keys) value.shape) (parts_in keys) (keyed_parts m.0 keys value.shape) refl both.0, both.1)

pub update_split : (v : View) (op : BinOp) (m : MapId) (keys : List Made) (value : List TreePart) → Fits v (update_map_parts op m.0 keys value) → Fits v (parts_in keys) × Fits v value
update_split v op m keys value fit =
    let both = two v (keyed_parts m.0 keys Int) value (behind v (Assigned (Some op)) (keyed_parts m.0 keys Int ++ value) (update_map_parts op m.0 keys value) refl fit) in
    (behind v (MapOf m.0 (key_shapes keys) Int) (parts_in keys) (keyed_parts m.0 keys Int) refl both.0, both.1)
