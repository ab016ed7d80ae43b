-- What statements of each kind are made of, do and need, by their parts.
use Rattle.std.proofs.Common.{◌≡◌, ℕ, ◌+◌, List, [], ◌∷◌, ◌++◌, Bool, true, sym, ap, ◌∙◌, Option}
use Rattle.std.specs.Prelude.{ℤ, max}
use Rattle.bt_core.specs.declared.map.AggKind.{AggKind}
use Rattle.bt_core.specs.declared.map.MapId.{MapId}
use Rattle.bt_core.specs.declared.operator.BinOp.{BinOp}
use Rattle.typed_tree.specs.declared.expr.AnyExpr.{AnyExpr}
use Rattle.typed_tree.specs.declared.expr.NumExpr.{NumExpr}
use Rattle.typed_tree.specs.declared.stmt.Jump.{Jump}
use Rattle.typed_tree.specs.declared.stmt.TypedStmt.{fold-roll-TypedStmt}
use Rattle.typed_tree.specs.declared.stmt.TypedStmt.TheVariants as stmts
use Rattle.typed_tree.specs.declared.stmt.TypedStmt.TheOpen.{TypedStmt-F}
use Rattle.typed_tree.specs.declared.stmt.TypedBlock.{TypedBlock}
use Rattle.typed_tree.specs.Parts.{TreePart, made_of, num_parts, stmt_parts, block_parts, set_var_parts, set_map_parts, update_var_parts, update_map_parts, gather_parts, printf_parts, delete_parts, Shown, Cleared, Zeroed, Jumped, Looped, Unrolled}
use Rattle.typed_tree.specs.Parts.{stmt_layer, block_layer}
use Rattle.walk_meaning.specs.declared.flow.Flow.{Flow}
use Rattle.walk_meaning.specs.Does.{Does}
use Rattle.walk_meaning.specs.Exprs.{value_does, values_do, number_does}
use Rattle.walk_meaning.specs.Stmts.{stmt_does, block_does, stmt_by_parts, block_by_parts, set_variable, set_map, update_variable, update_map, gather, number_or_one, plain, printf, print, clear, zero_all, delete_at, jump_to, while_true, turns}
use Rattle.ir_code.specs.Figures.{by_shape}
use Rattle.bt_lower.specs.Lowers.{all_made}
use Rattle.bt_lower.specs.Needs.{Need, need, more, greater, beside, list_frame, codes_in, value_need, values_need, number_need, gather_need, jump_need, stmt_need, block_need}
use Rattle.bt_lower.specs.Needs.{stmt_need_by_parts, block_need_by_parts}

pub SetVar-parts : (x : ℕ) (v : AnyExpr) → stmt_parts (stmts.SetVar x v) ≡ (λ (inside : Bool). set_var_parts x (made_of v))
SetVar-parts x v = ap stmt_parts (sym (stmts.rolls-SetVar x v)) ∙ fold-roll-TypedStmt (Bool → List TreePart) (Bool → List TreePart) stmt_layer block_layer (TypedStmt-F.SetVar x v)

pub SetVar-does : (x : ℕ) (v : AnyExpr) → stmt_does (stmts.SetVar x v) ≡ set_variable x (value_does v)
SetVar-does x v = ap stmt_does (sym (stmts.rolls-SetVar x v)) ∙ fold-roll-TypedStmt (Does Flow) (Does Flow) stmt_by_parts block_by_parts (TypedStmt-F.SetVar x v)

pub SetVar-need : (x : ℕ) (v : AnyExpr) → stmt_need (stmts.SetVar x v) ≡ more (by_shape (made_of v).shape 8 24) (value_need v).need
SetVar-need x v = ap stmt_need (sym (stmts.rolls-SetVar x v)) ∙ fold-roll-TypedStmt Need Need stmt_need_by_parts block_need_by_parts (TypedStmt-F.SetVar x v)

pub SetMap-parts : (m : MapId) (keys : List AnyExpr) (v : AnyExpr) → stmt_parts (stmts.SetMap m keys v) ≡ (λ (inside : Bool). set_map_parts m.0 (all_made keys) (made_of v))
SetMap-parts m keys v = ap stmt_parts (sym (stmts.rolls-SetMap m keys v)) ∙ fold-roll-TypedStmt (Bool → List TreePart) (Bool → List TreePart) stmt_layer block_layer (TypedStmt-F.SetMap m keys v)

pub SetMap-does : (m : MapId) (keys : List AnyExpr) (v : AnyExpr) → stmt_does (stmts.SetMap m keys v) ≡ set_map m (values_do keys) (value_does v)
SetMap-does m keys v = ap stmt_does (sym (stmts.rolls-SetMap m keys v)) ∙ fold-roll-TypedStmt (Does Flow) (Does Flow) stmt_by_parts block_by_parts (TypedStmt-F.SetMap m keys v)

pub SetMap-need : (m : MapId) (keys : List AnyExpr) (v : AnyExpr) → stmt_need (stmts.SetMap m keys v) ≡ need (beside (values_need keys) (value_need v).need.frame) (24 + codes_in (values_need keys) + (value_need v).need.code)
SetMap-need m keys v = ap stmt_need (sym (stmts.rolls-SetMap m keys v)) ∙ fold-roll-TypedStmt Need Need stmt_need_by_parts block_need_by_parts (TypedStmt-F.SetMap m keys v)

pub UpdateVar-parts : (x : ℕ) (op : BinOp) (v : NumExpr) → stmt_parts (stmts.UpdateVar x op v) ≡ (λ (inside : Bool). update_var_parts op x (num_parts v))
UpdateVar-parts x op v = ap stmt_parts (sym (stmts.rolls-UpdateVar x op v)) ∙ fold-roll-TypedStmt (Bool → List TreePart) (Bool → List TreePart) stmt_layer block_layer (TypedStmt-F.UpdateVar x op v)

pub UpdateVar-does : (x : ℕ) (op : BinOp) (v : NumExpr) → stmt_does (stmts.UpdateVar x op v) ≡ update_variable x op (number_does v)
UpdateVar-does x op v = ap stmt_does (sym (stmts.rolls-UpdateVar x op v)) ∙ fold-roll-TypedStmt (Does Flow) (Does Flow) stmt_by_parts block_by_parts (TypedStmt-F.UpdateVar x op v)

pub UpdateVar-need : (x : ℕ) (op : BinOp) (v : NumExpr) → stmt_need (stmts.UpdateVar x op v) ≡ more 16 (number_need v)
UpdateVar-need x op v = ap stmt_need (sym (stmts.rolls-UpdateVar x op v)) ∙ fold-roll-TypedStmt Need Need stmt_need_by_parts block_need_by_parts (TypedStmt-F.UpdateVar x op v)

pub UpdateMap-parts : (m : MapId) (keys : List AnyExpr) (op : BinOp) (v : NumExpr) → stmt_parts (stmts.UpdateMap m keys op v) ≡ (λ (inside : Bool). update_map_parts op m.0 (all_made keys) (num_parts v))
UpdateMap-parts m keys op v = ap stmt_parts (sym (stmts.rolls-UpdateMap m keys op v)) ∙ fold-roll-TypedStmt (Bool → List TreePart) (Bool → List TreePart) stmt_layer block_layer (TypedStmt-F.UpdateMap m keys op v)

pub UpdateMap-does : (m : MapId) (keys : List AnyExpr) (op : BinOp) (v : NumExpr) → stmt_does (stmts.UpdateMap m keys op v) ≡ update_map m (values_do keys) op (number_does v)
UpdateMap-does m keys op v = ap stmt_does (sym (stmts.rolls-UpdateMap m keys op v)) ∙ fold-roll-TypedStmt (Does Flow) (Does Flow) stmt_by_parts block_by_parts (TypedStmt-F.UpdateMap m keys op v)

pub UpdateMap-need : (m : MapId) (keys : List AnyExpr) (op : BinOp) (v : NumExpr) → stmt_need (stmts.UpdateMap m keys op v) ≡ need (beside (values_need keys) (max (number_need v).frame 16)) (40 + codes_in (values_need keys) + (number_need v).code)
UpdateMap-need m keys op v = ap stmt_need (sym (stmts.rolls-UpdateMap m keys op v)) ∙ fold-roll-TypedStmt Need Need stmt_need_by_parts block_need_by_parts (TypedStmt-F.UpdateMap m keys op v)

pub Gather-parts : (m : MapId) (keys : List AnyExpr) (kind : AggKind) (number : Option NumExpr) → stmt_parts (stmts.Gather m keys kind number) ≡ (λ (inside : Bool). gather_parts m.0 (all_made keys) kind number)
Gather-parts m keys kind number = ap stmt_parts (sym (stmts.rolls-Gather m keys kind number)) ∙ fold-roll-TypedStmt (Bool → List TreePart) (Bool → List TreePart) stmt_layer block_layer (TypedStmt-F.Gather m keys kind number)

pub Gather-does : (m : MapId) (keys : List AnyExpr) (kind : AggKind) (number : Option NumExpr) → stmt_does (stmts.Gather m keys kind number) ≡ gather m (values_do keys) (number_or_one number)
Gather-does m keys kind number = ap stmt_does (sym (stmts.rolls-Gather m keys kind number)) ∙ fold-roll-TypedStmt (Does Flow) (Does Flow) stmt_by_parts block_by_parts (TypedStmt-F.Gather m keys kind number)

pub Gather-need : (m : MapId) (keys : List AnyExpr) (kind : AggKind) (number : Option NumExpr) → stmt_need (stmts.Gather m keys kind number) ≡ gather_need (values_need keys) number
Gather-need m keys kind number = ap stmt_need (sym (stmts.rolls-Gather m keys kind number)) ∙ fold-roll-TypedStmt Need Need stmt_need_by_parts block_need_by_parts (TypedStmt-F.Gather m keys kind number)

pub Step-parts : (v : NumExpr) → stmt_parts (stmts.Step v) ≡ (λ (inside : Bool). num_parts v)
Step-parts v = ap stmt_parts (sym (stmts.rolls-Step v)) ∙ fold-roll-TypedStmt (Bool → List TreePart) (Bool → List TreePart) stmt_layer block_layer (TypedStmt-F.Step v)

pub Step-does : (v : NumExpr) → stmt_does (stmts.Step v) ≡ plain (number_does v)
Step-does v = ap stmt_does (sym (stmts.rolls-Step v)) ∙ fold-roll-TypedStmt (Does Flow) (Does Flow) stmt_by_parts block_by_parts (TypedStmt-F.Step v)

pub Step-need : (v : NumExpr) → stmt_need (stmts.Step v) ≡ number_need v
Step-need v = ap stmt_need (sym (stmts.rolls-Step v)) ∙ fold-roll-TypedStmt Need Need stmt_need_by_parts block_need_by_parts (TypedStmt-F.Step v)

pub Printf-parts : (format : ℕ) (values : List AnyExpr) → stmt_parts (stmts.Printf format values) ≡ (λ (inside : Bool). printf_parts format (all_made values))
Printf-parts format values = ap stmt_parts (sym (stmts.rolls-Printf format values)) ∙ fold-roll-TypedStmt (Bool → List TreePart) (Bool → List TreePart) stmt_layer block_layer (TypedStmt-F.Printf format values)

pub Printf-does : (format : ℕ) (values : List AnyExpr) → stmt_does (stmts.Printf format values) ≡ printf format (values_do values)
Printf-does format values = ap stmt_does (sym (stmts.rolls-Printf format values)) ∙ fold-roll-TypedStmt (Does Flow) (Does Flow) stmt_by_parts block_by_parts (TypedStmt-F.Printf format values)

pub Printf-need : (format : ℕ) (values : List AnyExpr) → stmt_need (stmts.Printf format values) ≡ need (list_frame (values_need values)) (16 + codes_in (values_need values))
Printf-need format values = ap stmt_need (sym (stmts.rolls-Printf format values)) ∙ fold-roll-TypedStmt Need Need stmt_need_by_parts block_need_by_parts (TypedStmt-F.Printf format values)

pub Print-parts : (m : MapId) (top : ℕ) (div : ℤ) → stmt_parts (stmts.Print m top div) ≡ (λ (inside : Bool). Shown m.0 top div ∷ [])
Print-parts m top div = ap stmt_parts (sym (stmts.rolls-Print m top div)) ∙ fold-roll-TypedStmt (Bool → List TreePart) (Bool → List TreePart) stmt_layer block_layer (TypedStmt-F.Print m top div)

pub Print-does : (m : MapId) (top : ℕ) (div : ℤ) → stmt_does (stmts.Print m top div) ≡ print m top div
Print-does m top div = ap stmt_does (sym (stmts.rolls-Print m top div)) ∙ fold-roll-TypedStmt (Does Flow) (Does Flow) stmt_by_parts block_by_parts (TypedStmt-F.Print m top div)

pub Print-need : (m : MapId) (top : ℕ) (div : ℤ) → stmt_need (stmts.Print m top div) ≡ need 0 16
Print-need m top div = ap stmt_need (sym (stmts.rolls-Print m top div)) ∙ fold-roll-TypedStmt Need Need stmt_need_by_parts block_need_by_parts (TypedStmt-F.Print m top div)

pub Clear-parts : (m : MapId) → stmt_parts (stmts.Clear m) ≡ (λ (inside : Bool). Cleared m.0 ∷ [])
Clear-parts m = ap stmt_parts (sym (stmts.rolls-Clear m)) ∙ fold-roll-TypedStmt (Bool → List TreePart) (Bool → List TreePart) stmt_layer block_layer (TypedStmt-F.Clear m)

pub Clear-does : (m : MapId) → stmt_does (stmts.Clear m) ≡ clear m
Clear-does m = ap stmt_does (sym (stmts.rolls-Clear m)) ∙ fold-roll-TypedStmt (Does Flow) (Does Flow) stmt_by_parts block_by_parts (TypedStmt-F.Clear m)

pub Clear-need : (m : MapId) → stmt_need (stmts.Clear m) ≡ need 0 12
Clear-need m = ap stmt_need (sym (stmts.rolls-Clear m)) ∙ fold-roll-TypedStmt Need Need stmt_need_by_parts block_need_by_parts (TypedStmt-F.Clear m)

pub Zero-parts : (m : MapId) → stmt_parts (stmts.Zero m) ≡ (λ (inside : Bool). Zeroed m.0 ∷ [])
Zero-parts m = ap stmt_parts (sym (stmts.rolls-Zero m)) ∙ fold-roll-TypedStmt (Bool → List TreePart) (Bool → List TreePart) stmt_layer block_layer (TypedStmt-F.Zero m)

pub Zero-does : (m : MapId) → stmt_does (stmts.Zero m) ≡ zero_all m
Zero-does m = ap stmt_does (sym (stmts.rolls-Zero m)) ∙ fold-roll-TypedStmt (Does Flow) (Does Flow) stmt_by_parts block_by_parts (TypedStmt-F.Zero m)

pub Zero-need : (m : MapId) → stmt_need (stmts.Zero m) ≡ need 0 12
Zero-need m = ap stmt_need (sym (stmts.rolls-Zero m)) ∙ fold-roll-TypedStmt Need Need stmt_need_by_parts block_need_by_parts (TypedStmt-F.Zero m)

pub Delete-parts : (m : MapId) (keys : List AnyExpr) → stmt_parts (stmts.Delete m keys) ≡ (λ (inside : Bool). delete_parts m.0 (all_made keys))
Delete-parts m keys = ap stmt_parts (sym (stmts.rolls-Delete m keys)) ∙ fold-roll-TypedStmt (Bool → List TreePart) (Bool → List TreePart) stmt_layer block_layer (TypedStmt-F.Delete m keys)

pub Delete-does : (m : MapId) (keys : List AnyExpr) → stmt_does (stmts.Delete m keys) ≡ delete_at m (values_do keys)
Delete-does m keys = ap stmt_does (sym (stmts.rolls-Delete m keys)) ∙ fold-roll-TypedStmt (Does Flow) (Does Flow) stmt_by_parts block_by_parts (TypedStmt-F.Delete m keys)

pub Delete-need : (m : MapId) (keys : List AnyExpr) → stmt_need (stmts.Delete m keys) ≡ need (list_frame (values_need keys)) (16 + codes_in (values_need keys))
Delete-need m keys = ap stmt_need (sym (stmts.rolls-Delete m keys)) ∙ fold-roll-TypedStmt Need Need stmt_need_by_parts block_need_by_parts (TypedStmt-F.Delete m keys)

pub Jump-parts : (jump : Jump) → stmt_parts (stmts.Jump jump) ≡ (λ (inside : Bool). Jumped jump inside ∷ [])
Jump-parts jump = ap stmt_parts (sym (stmts.rolls-Jump jump)) ∙ fold-roll-TypedStmt (Bool → List TreePart) (Bool → List TreePart) stmt_layer block_layer (TypedStmt-F.Jump jump)

pub Jump-does : (jump : Jump) → stmt_does (stmts.Jump jump) ≡ jump_to jump
Jump-does jump = ap stmt_does (sym (stmts.rolls-Jump jump)) ∙ fold-roll-TypedStmt (Does Flow) (Does Flow) stmt_by_parts block_by_parts (TypedStmt-F.Jump jump)

pub Jump-need : (jump : Jump) → stmt_need (stmts.Jump jump) ≡ jump_need jump
Jump-need jump = ap stmt_need (sym (stmts.rolls-Jump jump)) ∙ fold-roll-TypedStmt Need Need stmt_need_by_parts block_need_by_parts (TypedStmt-F.Jump jump)

pub While-parts : (t : NumExpr) (block : TypedBlock) (line : ℕ) → stmt_parts (stmts.While t block line) ≡ (λ (inside : Bool). Looped line ∷ (num_parts t ++ block_parts block true))
While-parts t block line = ap stmt_parts (sym (stmts.rolls-While t block line)) ∙ fold-roll-TypedStmt (Bool → List TreePart) (Bool → List TreePart) stmt_layer block_layer (TypedStmt-F.While t block line)

pub While-does : (t : NumExpr) (block : TypedBlock) (line : ℕ) → stmt_does (stmts.While t block line) ≡ while_true line (number_does t) (block_does block)
While-does t block line = ap stmt_does (sym (stmts.rolls-While t block line)) ∙ fold-roll-TypedStmt (Does Flow) (Does Flow) stmt_by_parts block_by_parts (TypedStmt-F.While t block line)

pub While-need : (t : NumExpr) (block : TypedBlock) (line : ℕ) → stmt_need (stmts.While t block line) ≡ more 24 (greater (number_need t) (block_need block))
While-need t block line = ap stmt_need (sym (stmts.rolls-While t block line)) ∙ fold-roll-TypedStmt Need Need stmt_need_by_parts block_need_by_parts (TypedStmt-F.While t block line)

pub Unroll-parts : (n : ℕ) (block : TypedBlock) (line : ℕ) → stmt_parts (stmts.Unroll n block line) ≡ (λ (inside : Bool). Unrolled n line ∷ block_parts block true)
Unroll-parts n block line = ap stmt_parts (sym (stmts.rolls-Unroll n block line)) ∙ fold-roll-TypedStmt (Bool → List TreePart) (Bool → List TreePart) stmt_layer block_layer (TypedStmt-F.Unroll n block line)

pub Unroll-does : (n : ℕ) (block : TypedBlock) (line : ℕ) → stmt_does (stmts.Unroll n block line) ≡ turns n line (block_does block)
Unroll-does n block line = ap stmt_does (sym (stmts.rolls-Unroll n block line)) ∙ fold-roll-TypedStmt (Does Flow) (Does Flow) stmt_by_parts block_by_parts (TypedStmt-F.Unroll n block line)

pub Unroll-need : (n : ℕ) (block : TypedBlock) (line : ℕ) → stmt_need (stmts.Unroll n block line) ≡ need (8 + (block_need block).frame) (32 + (block_need block).code)
Unroll-need n block line = ap stmt_need (sym (stmts.rolls-Unroll n block line)) ∙ fold-roll-TypedStmt Need Need stmt_need_by_parts block_need_by_parts (TypedStmt-F.Unroll n block line)
