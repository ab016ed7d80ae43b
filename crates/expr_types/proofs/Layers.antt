-- What is seen of a construct, by what is seen of its parts.
use Rattle.std.proofs.Common.{◌≡◌, ◌++◌, ℕ, List, [], ◌∷◌, map, sym, ap, ◌∙◌}
use Rattle.bt_core.specs.Text.{short_text}
use Rattle.bt_ast.specs.declared.expr.Builtin.{Builtin}
use Rattle.bt_ast.specs.declared.expr.ExprKind.TheVariants as kinds
use Rattle.bt_core.specs.declared.place.Place.{Place}
use Rattle.bt_ast.specs.declared.expr.Expr.{Expr}
use Rattle.bt_ast.specs.declared.expr.ExprKind.{ExprKind, fold-roll-ExprKind}
use Rattle.bt_ast.specs.declared.expr.ExprKind.TheVariants.{Step, Unary, Binary, AndThen, OrElse, Choose, rolls-Step, rolls-Unary, rolls-Binary, rolls-AndThen, rolls-OrElse, rolls-Choose}
use Rattle.bt_ast.specs.declared.expr.ExprKind.TheOpen.{ExprKind-F, Target-F}
use Rattle.bt_ast.specs.declared.expr.IncDec.{IncDec, out-IncDec, roll-out-IncDec, fold-roll-IncDec}
use Rattle.bt_ast.specs.declared.expr.MapRef.{MapRef, out-MapRef, roll-out-MapRef, fold-roll-MapRef}
use Rattle.bt_ast.specs.declared.expr.Target.{fold-roll-Target}
use Rattle.bt_ast.specs.declared.expr.Target.TheVariants as target
use Rattle.bt_ast.specs.declared.expr.VarRef.{VarRef}
use Rattle.bt_core.specs.declared.operator.BinOp.{BinOp}
use Rattle.bt_core.specs.declared.operator.UnOp.{UnOp}
use Rattle.expr_types.specs.Mentions.{Whole, Text, OfVar, OfField, NeedsWhole, NeedsShort, Args, ReadsField, ReadsVar, UnaryWord, BinaryWord, AndWord, OrWord, TextWord, BuiltinWord, FieldWord, VarWord}
use Rattle.expr_types.specs.Walk.{Seen, MapSeen, TargetSeen, OnMap, OnVar, at, seen, builtin_sort, map_read, operands, logical_seen, choose_seen, key_seen, step_seen}
use Rattle.expr_types.specs.Walk.{kind_layer, target_layer, expr_layer, step_layer, map_layer, of_expr, of_kind, of_map, of_step, of_target}

-- of expressions
pub step_is : (s : IncDec) (place : Place) → of_kind (Step s) place ≡ of_step s
step_is s place =
    ap (λ (k : ExprKind). of_kind k place) (sym (rolls-Step s))
    ∙ ap (λ (f : Place → Seen). f place) (fold-roll-ExprKind (Place → Seen) TargetSeen Seen Seen MapSeen kind_layer target_layer expr_layer step_layer map_layer (ExprKind-F.Step s))

pub unary_is : (op : UnOp) (e : Expr) (place : Place) → of_kind (Unary op e) place ≡ seen ((of_expr e).points ++ at place (NeedsWhole (of_expr e).sort) ∷ []) Whole (UnaryWord op ∷ (of_expr e).words)
unary_is op e place =
    ap (λ (k : ExprKind). of_kind k place) (sym (rolls-Unary op e))
    ∙ ap (λ (f : Place → Seen). f place) (fold-roll-ExprKind (Place → Seen) TargetSeen Seen Seen MapSeen kind_layer target_layer expr_layer step_layer map_layer (ExprKind-F.Unary op e))

pub binary_is : (op : BinOp) (a b : Expr) (place : Place) → of_kind (Binary op a b) place ≡ seen ((of_expr a).points ++ ((of_expr b).points ++ operands op place (of_expr a).sort (of_expr b).sort)) Whole (BinaryWord op ∷ ((of_expr a).words ++ (of_expr b).words))
binary_is op a b place =
    ap (λ (k : ExprKind). of_kind k place) (sym (rolls-Binary op a b))
    ∙ ap (λ (f : Place → Seen). f place) (fold-roll-ExprKind (Place → Seen) TargetSeen Seen Seen MapSeen kind_layer target_layer expr_layer step_layer map_layer (ExprKind-F.Binary op a b))

pub and_is : (a b : Expr) (place : Place) → of_kind (AndThen a b) place ≡ logical_seen AndWord place (of_expr a) (of_expr b)
and_is a b place =
    ap (λ (k : ExprKind). of_kind k place) (sym (rolls-AndThen a b))
    ∙ ap (λ (f : Place → Seen). f place) (fold-roll-ExprKind (Place → Seen) TargetSeen Seen Seen MapSeen kind_layer target_layer expr_layer step_layer map_layer (ExprKind-F.AndThen a b))

pub or_is : (a b : Expr) (place : Place) → of_kind (OrElse a b) place ≡ logical_seen OrWord place (of_expr a) (of_expr b)
or_is a b place =
    ap (λ (k : ExprKind). of_kind k place) (sym (rolls-OrElse a b))
    ∙ ap (λ (f : Place → Seen). f place) (fold-roll-ExprKind (Place → Seen) TargetSeen Seen Seen MapSeen kind_layer target_layer expr_layer step_layer map_layer (ExprKind-F.OrElse a b))

pub choose_is : (a b c : Expr) (place : Place) → of_kind (Choose a b c) place ≡ choose_seen place (of_expr a) (of_expr b) (of_expr c)
choose_is a b c place =
    ap (λ (k : ExprKind). of_kind k place) (sym (rolls-Choose a b c))
    ∙ ap (λ (f : Place → Seen). f place) (fold-roll-ExprKind (Place → Seen) TargetSeen Seen Seen MapSeen kind_layer target_layer expr_layer step_layer map_layer (ExprKind-F.Choose a b c))

pub text_is : (text : List ℕ) (place : Place) → of_kind (kinds.Text text) place ≡ seen (at place (NeedsShort text) ∷ []) Text (TextWord (short_text text) ∷ [])
text_is text place =
    ap (λ (k : ExprKind). of_kind k place) (sym (kinds.rolls-Text text))
    ∙ ap (λ (f : Place → Seen). f place) (fold-roll-ExprKind (Place → Seen) TargetSeen Seen Seen MapSeen kind_layer target_layer expr_layer step_layer map_layer (ExprKind-F.Text text))

pub builtin_is : (b : Builtin) (place : Place) → of_kind (kinds.Builtin b) place ≡ seen [] (builtin_sort b) (BuiltinWord b ∷ [])
builtin_is b place =
    ap (λ (k : ExprKind). of_kind k place) (sym (kinds.rolls-Builtin b))
    ∙ ap (λ (f : Place → Seen). f place) (fold-roll-ExprKind (Place → Seen) TargetSeen Seen Seen MapSeen kind_layer target_layer expr_layer step_layer map_layer (ExprKind-F.Builtin b))

pub field_is : (name : List ℕ) (word : Place) (place : Place) → of_kind (kinds.Field name word) place ≡ seen (at place Args ∷ at word (ReadsField name) ∷ []) (OfField name) (FieldWord name ∷ [])
field_is name word place =
    ap (λ (k : ExprKind). of_kind k place) (sym (kinds.rolls-Field name word))
    ∙ ap (λ (f : Place → Seen). f place) (fold-roll-ExprKind (Place → Seen) TargetSeen Seen Seen MapSeen kind_layer target_layer expr_layer step_layer map_layer (ExprKind-F.Field name word))

pub var_is : (v : VarRef) (place : Place) → of_kind (kinds.Var v) place ≡ seen (at v.place (ReadsVar v.name) ∷ []) (OfVar v.name) (VarWord v.name ∷ [])
var_is v place =
    ap (λ (k : ExprKind). of_kind k place) (sym (kinds.rolls-Var v))
    ∙ ap (λ (f : Place → Seen). f place) (fold-roll-ExprKind (Place → Seen) TargetSeen Seen Seen MapSeen kind_layer target_layer expr_layer step_layer map_layer (ExprKind-F.ExprKind::Var v))

pub read_is : (m : MapRef) (place : Place) → of_kind (kinds.Map m) place ≡ map_read (of_map m)
read_is m place =
    ap (λ (k : ExprKind). of_kind k place) (sym (kinds.rolls-Map m))
    ∙ ap (λ (f : Place → Seen). f place) (fold-roll-ExprKind (Place → Seen) TargetSeen Seen Seen MapSeen kind_layer target_layer expr_layer step_layer map_layer (ExprKind-F.ExprKind::Map m))

pub paren_is : (e : Expr) (place : Place) → of_kind (kinds.Paren e) place ≡ of_expr e
paren_is e place =
    ap (λ (k : ExprKind). of_kind k place) (sym (kinds.rolls-Paren e))
    ∙ ap (λ (f : Place → Seen). f place) (fold-roll-ExprKind (Place → Seen) TargetSeen Seen Seen MapSeen kind_layer target_layer expr_layer step_layer map_layer (ExprKind-F.Paren e))

-- of maps and targets
pub map_is : (m : MapRef) → of_map m ≡ key_seen (out-MapRef m).name (map of_expr (out-MapRef m).keys) (out-MapRef m).place
map_is m = ap of_map (sym (roll-out-MapRef m)) ∙ fold-roll-MapRef (Place → Seen) TargetSeen Seen Seen MapSeen kind_layer target_layer expr_layer step_layer map_layer (out-MapRef m)

pub step_layer_is : (s : IncDec) → of_step s ≡ step_seen (out-IncDec s).plus (out-IncDec s).prefix (out-IncDec s).place (of_target (out-IncDec s).target)
step_layer_is s = ap of_step (sym (roll-out-IncDec s)) ∙ fold-roll-IncDec (Place → Seen) TargetSeen Seen Seen MapSeen kind_layer target_layer expr_layer step_layer map_layer (out-IncDec s)

pub on_map : (m : MapRef) → of_target (target.Map m) ≡ OnMap (of_map m)
on_map m = ap of_target (sym (target.rolls-Map m)) ∙ fold-roll-Target (Place → Seen) TargetSeen Seen Seen MapSeen kind_layer target_layer expr_layer step_layer map_layer (Target-F.Target::Map m)

pub on_var : (v : VarRef) → of_target (target.Var v) ≡ OnVar v.name v.place
on_var v = ap of_target (sym (target.rolls-Var v)) ∙ fold-roll-Target (Place → Seen) TargetSeen Seen Seen MapSeen kind_layer target_layer expr_layer step_layer map_layer (Target-F.Target::Var v)

pub step_of_map : (s : IncDec) (m : MapRef) → (out-IncDec s).target ≡ target.Map m → of_step s ≡ step_seen (out-IncDec s).plus (out-IncDec s).prefix (out-IncDec s).place (OnMap (of_map m))
step_of_map s m h = step_layer_is s ∙ ap (λ (t : TargetSeen). step_seen (out-IncDec s).plus (out-IncDec s).prefix (out-IncDec s).place t) (ap of_target h ∙ on_map m)
