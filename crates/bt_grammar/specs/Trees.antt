-- What the members of a rule give together. The place of a node is that of its first token.
use Rattle.std.specs.Prelude.{ℕ, ℤ, pos, Bool, true, false, List, [], ◌∷◌, ◌++◌, Option, Some, None}
use Rattle.std.specs.Int.{w64, int_wrapping_neg}
use Rattle.bt_lexer.specs.declared.token.TokenKind.{TokenKind}
use Rattle.bt_lexer.specs.declared.token.TokenKind.TheVariants as kinds
use Rattle.bt_core.specs.declared.operator.UnOp.{UnOp}
use Rattle.bt_core.specs.declared.operator.UnOp.TheVariants.{Neg}
use Rattle.bt_core.specs.declared.place.Place.{Place}
use Rattle.bt_ast.specs.declared.expr.Builtin.{Builtin}
use Rattle.bt_ast.specs.declared.expr.Expr.{Expr, roll-Expr, out-Expr}
use Rattle.bt_ast.specs.declared.expr.ExprKind.{ExprKind}
use Rattle.bt_ast.specs.declared.expr.ExprKind.TheVariants as exprs
use Rattle.bt_ast.specs.declared.expr.MapRef.{MapRef, roll-MapRef, out-MapRef}
use Rattle.bt_ast.specs.declared.expr.VarRef.{VarRef}
use Rattle.bt_ast.specs.declared.expr.IncDec.{IncDec, roll-IncDec}
use Rattle.bt_ast.specs.declared.expr.Target.{Target}
use Rattle.bt_ast.specs.declared.expr.Target.TheVariants as targets
use Rattle.bt_ast.specs.declared.stmt.AggCall.{AggCall}
use Rattle.bt_ast.specs.declared.stmt.AggCall.TheVariants as aggs
use Rattle.bt_ast.specs.declared.stmt.Block.{Block, roll-Block}
use Rattle.bt_ast.specs.declared.stmt.Stmt.{Stmt, roll-Stmt}
use Rattle.bt_ast.specs.declared.stmt.StmtKind.{StmtKind}
use Rattle.bt_ast.specs.declared.stmt.StmtKind.TheVariants as stmts
use Rattle.bt_ast.specs.declared.probe.Point.{Point}
use Rattle.bt_ast.specs.declared.probe.Point.TheVariants as points
use Rattle.bt_ast.specs.declared.probe.Probe.{Probe}
use Rattle.bt_ast.specs.declared.gathering.Gathering.TheVariants.{Hist}
use Rattle.bt_grammar.specs.declared.class.Class.{Class}
use Rattle.bt_grammar.specs.declared.class.Class.TheVariants.{BeginWord, EndWord, Increment, AndAnd, Operator, GatherWord}
use Rattle.bt_grammar.specs.Classes.{is, builtin_of, prefix_of, update_of}
use Rattle.bt_grammar.specs.Attach.{attach_point}
use Rattle.bt_grammar.specs.Form.{Item}

-- ---- pairs and lists

abbrev pub pair : {A B : Type 0} → A → B → A × B
pair a b = (a, b)

abbrev pub second : {A B : Type 0} → A → B → B
second a b = b

abbrev pub single : {A : Type 0} → A → List A
single x = x ∷ []

abbrev pub snoc : {A : Type 0} → List A → A → List A
snoc xs x = xs ++ x ∷ []

abbrev pub cons : {A : Type 0} → A → List A → List A
cons x xs = x ∷ xs

abbrev pub nothing : {A : Type 0} → Place → List A
nothing place = []

-- ---- tokens

abbrev pub place_at : Item → Place
place_at t = t.place

abbrev pub kind_bytes : TokenKind → List ℕ
kind_bytes (kinds.Word bytes) = bytes
kind_bytes (kinds.Attach bytes) = bytes
kind_bytes (kinds.Map bytes) = bytes
kind_bytes (kinds.Var bytes) = bytes
kind_bytes (kinds.Number n) = []
kind_bytes (kinds.Text bytes) = bytes
kind_bytes (kinds.Mark bytes) = bytes

abbrev pub kind_number : TokenKind → ℤ
kind_number (kinds.Number n) = n
kind_number _ = pos 0

abbrev pub bytes_at : Item → List ℕ
bytes_at t = kind_bytes t.kind

abbrev pub number_at : Item → ℤ
number_at t = kind_number t.kind

-- the number with the other sign, of 64 bits
abbrev pub negated : ℤ → ℤ
negated n = int_wrapping_neg w64 n

-- ---- expressions

abbrev pub expr : ExprKind → Place → Expr
expr kind place = roll-Expr (record { kind = kind; place = place })

abbrev pub place_of_expr : Expr → Place
place_of_expr e = (out-Expr e).place

abbrev pub var_ref : Item → VarRef
var_ref t = record { name = bytes_at t; place = t.place }

abbrev pub map_ref : Item → List Expr → MapRef
map_ref t keys = roll-MapRef (record { name = bytes_at t; keys = keys; place = t.place })

abbrev pub place_of_map : MapRef → Place
place_of_map m = (out-MapRef m).place

abbrev pub var_target : Item → Target
var_target t = targets.Var (var_ref t)

abbrev pub number_expr : Item → Expr
number_expr t = expr (exprs.Number (number_at t)) t.place

abbrev pub text_expr : Item → Expr
text_expr t = expr (exprs.Text (bytes_at t)) t.place

abbrev pub builtin_kind : Option Builtin → ExprKind
builtin_kind (Some b) = exprs.Builtin b
builtin_kind None = exprs.Number (pos 0)

abbrev pub builtin_expr : Item → Expr
builtin_expr t = expr (builtin_kind (builtin_of t.class)) t.place

abbrev pub field_expr : Place → Item → Expr
field_expr place word = expr (exprs.Field (bytes_at word) word.place) place

abbrev pub paren_expr : Place → Expr → Expr
paren_expr place e = expr (exprs.Paren e) place

-- `++` and `--`, by the mark

abbrev pub step_before : Item → Target → IncDec
step_before mark target = roll-IncDec (record { target = target; plus = is Increment mark.class; «prefix» = true; place = mark.place })

abbrev pub step_after : Target → Bool → Place → IncDec
step_after target plus place = roll-IncDec (record { target = target; plus = plus; «prefix» = false; place = place })

abbrev pub prefix_step : Item → Target → Expr
prefix_step mark target = expr (exprs.Step (step_before mark target)) mark.place

abbrev pub map_operand : MapRef → Option Item → Expr
map_operand m None = expr (exprs.Map m) (place_of_map m)
map_operand m (Some mark) = expr (exprs.Step (step_after (targets.Map m) (is Increment mark.class) (place_of_map m))) (place_of_map m)

abbrev pub var_operand : Item → Option Item → Expr
var_operand t None = expr (exprs.Var (var_ref t)) t.place
var_operand t (Some mark) = expr (exprs.Step (step_after (var_target t) (is Increment mark.class) t.place)) t.place

abbrev pub unary_op : Option UnOp → UnOp
unary_op (Some op) = op
unary_op None = Neg

abbrev pub unary : Item → Expr → Expr
unary mark e = expr (exprs.Unary (unary_op (prefix_of mark.class)) e) mark.place

abbrev pub binary_kind : Class → Expr → Expr → ExprKind
binary_kind (Operator op) left right = exprs.Binary op left right
binary_kind AndAnd left right = exprs.AndThen left right
binary_kind _ left right = exprs.OrElse left right

abbrev pub binary : Expr → (Item × Expr) → Expr
binary left right = expr (binary_kind right.0.class left right.1) (place_of_expr left)

abbrev pub choose : Expr → Option (Item × (Expr × Expr)) → Expr
choose condition None = condition
choose condition (Some c) = expr (exprs.Choose condition c.1.0 c.1.1) (place_of_expr condition)

-- ---- statements

abbrev pub stmt : Place → StmtKind → Stmt
stmt place kind = roll-Stmt (record { kind = kind; place = place })

abbrev pub gathering : Class → Expr → AggCall
gathering (GatherWord g) e = aggs.Gather g e
gathering _ e = aggs.Gather Hist e

abbrev pub count_call : Place → Place → AggCall × Place
count_call place closing = (aggs.Count, place)

abbrev pub gather_call : Item → Expr → AggCall × Place
gather_call t e = (gathering t.class e, t.place)

abbrev pub lhist_call : Place → (Expr × (ℤ × (ℤ × ℤ))) → AggCall × Place
lhist_call place args = (aggs.Lhist args.0 args.1.0 args.1.1.0 args.1.1.1, place)

abbrev pub update_target : Item → Expr → Target → StmtKind
update_target mark value target = stmts.Assign target (update_of mark.class) value

abbrev pub place_of_target : Target → Place
place_of_target (targets.Map m) = place_of_map m
place_of_target (targets.Var v) = v.place

abbrev pub step_target : Item → Target → StmtKind
step_target mark target = stmts.Step (step_after target (is Increment mark.class) (place_of_target target))

abbrev pub gather_map : AggCall × Place → MapRef → StmtKind
gather_map agg m = stmts.SetAgg m agg.0 agg.1

abbrev pub set_map : Expr → MapRef → StmtKind
set_map value m = stmts.Assign (targets.Map m) None value

abbrev pub on_map : (Target → StmtKind) → MapRef → StmtKind
on_map f m = f (targets.Map m)

abbrev pub set_var : Place → Expr → VarRef → StmtKind
set_var mark value v = stmts.Assign (targets.Var v) None value

abbrev pub on_var : (Target → StmtKind) → VarRef → StmtKind
on_var f v = f (targets.Var v)

abbrev pub map_stmt : MapRef → (MapRef → StmtKind) → Stmt
map_stmt m f = stmt (place_of_map m) (f m)

abbrev pub var_stmt : Item → (VarRef → StmtKind) → Stmt
var_stmt t f = stmt t.place (f (var_ref t))

abbrev pub step_stmt : Item → Target → Stmt
step_stmt mark target = stmt mark.place (stmts.Step (step_before mark target))

abbrev pub printf_kind : Item → List Expr → StmtKind
printf_kind text values = stmts.Printf (bytes_at text) text.place values

abbrev pub print_kind : Item → (Option ℤ × Option ℤ) → StmtKind
print_kind t limits = stmts.Print (map_ref t []) limits.0 limits.1

abbrev pub top_and_div : ℤ → Option ℤ → Option ℤ × Option ℤ
top_and_div top div = (Some top, div)

abbrev pub clear_kind : Item → StmtKind
clear_kind t = stmts.Clear (map_ref t [])

abbrev pub zero_kind : Item → StmtKind
zero_kind t = stmts.Zero (map_ref t [])

abbrev pub delete_all : Place → Item → StmtKind
delete_all closing t = stmts.Delete (map_ref t [])

abbrev pub delete_keyed : Place → List Expr → Item → StmtKind
delete_keyed opening keys t = stmts.Delete (map_ref t keys)

abbrev pub delete_key : Place → Expr → Item → StmtKind
delete_key comma key t = stmts.DeleteKey (map_ref t []) key

abbrev pub on_item : Item → (Item → StmtKind) → StmtKind
on_item t f = f t

abbrev pub exit_stmt : Place → Place → Stmt
exit_stmt place closing = stmt place stmts.Exit

abbrev pub break_stmt : Place → Stmt
break_stmt place = stmt place stmts.Break

abbrev pub continue_stmt : Place → Stmt
continue_stmt place = stmt place stmts.Continue

abbrev pub return_stmt : Place → Stmt
return_stmt place = stmt place stmts.Return

-- ---- control

abbrev pub more_arms : Expr × Block → List (Expr × Block) × Option Block → List (Expr × Block) × Option Block
more_arms arm rest = (arm ∷ rest.0, rest.1)

abbrev pub last_block : Block → List (Expr × Block) × Option Block
last_block block = ([], Some block)

abbrev pub if_stmt : Place → (Expr × Block) × (List (Expr × Block) × Option Block) → Stmt
if_stmt place all = stmt place (stmts.If (all.0 ∷ all.1.0) all.1.1)

abbrev pub while_stmt : Place → Expr × Block → Stmt
while_stmt place arm = stmt place (stmts.While arm.0 arm.1)

abbrev pub unroll_stmt : Place → ℤ × Block → Stmt
unroll_stmt place all = stmt place (stmts.Unroll all.0 all.1)

abbrev pub block_of : Place → List Stmt → Block
block_of place body = roll-Block (record { stmts = body; place = place })

-- ---- probes

abbrev pub found_point : Option Point → Place → Point
found_point (Some point) place = point
found_point None place = points.Begin place

abbrev pub point_of : Class → TokenKind → Place → Point
point_of BeginWord kind place = points.Begin place
point_of EndWord kind place = points.End place
point_of _ kind place = found_point (attach_point (kind_bytes kind) place) place

abbrev pub point_at : Item → Point
point_at t = point_of t.class t.kind t.place

abbrev pub place_of_point : Point → Place
place_of_point (points.Begin place) = place
place_of_point (points.End place) = place
place_of_point (points.Tracepoint system name place) = place
place_of_point (points.Interval unit number place) = place

abbrev pub place_of_points : List Point → Place
place_of_points [] = record { line = 1; column = 1 }
place_of_points (point ∷ more) = place_of_point point

abbrev pub with_points : List Point → (List Point → Probe) → Probe
with_points points f = f points

abbrev pub probe_of : Option Expr → Block → List Point → Probe
probe_of predicate block points = record { points = points; predicate = predicate; block = block; place = place_of_points points }
