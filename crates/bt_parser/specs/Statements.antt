-- The steps of the functions that read statements.
use Rattle.std.specs.Prelude.{ℤ, Bool, true, false, List, [], ◌∷◌, ◌++◌, Option, Some, None, if◌then◌else◌}
use Rattle.bt_core.specs.declared.operator.BinOp.{BinOp}
use Rattle.bt_core.specs.declared.place.Place.{Place}
use Rattle.bt_ast.specs.declared.expr.Expr.{Expr}
use Rattle.bt_ast.specs.declared.expr.MapRef.{MapRef, roll-MapRef}
use Rattle.bt_ast.specs.declared.expr.Target.{Target}
use Rattle.bt_ast.specs.declared.expr.Target.TheVariants as targets
use Rattle.bt_ast.specs.declared.expr.VarRef.{VarRef}
use Rattle.bt_ast.specs.declared.stmt.AggCall.{AggCall}
use Rattle.bt_ast.specs.declared.stmt.AggCall.TheVariants as aggs
use Rattle.bt_ast.specs.declared.stmt.Block.{Block, roll-Block}
use Rattle.bt_ast.specs.declared.stmt.Stmt.{Stmt}
use Rattle.bt_ast.specs.declared.stmt.StmtKind.{StmtKind}
use Rattle.bt_ast.specs.declared.stmt.StmtKind.TheVariants as stmts
use Rattle.bt_parser.specs.declared.agg.Bounds.{Bounds}
use Rattle.bt_parser.specs.declared.call.DeletedKeys.{DeletedKeys}
use Rattle.bt_parser.specs.declared.call.DeletedKeys.TheVariants.{Key, Keys}
use Rattle.bt_ast.specs.declared.gathering.Gathering.{Gathering}
use Rattle.bt_grammar.specs.declared.class.Class.{Class}
use Rattle.bt_grammar.specs.declared.class.Class.TheVariants.{IfWord, ElseWord, WhileWord, UnrollWord, CountWord, LhistWord, PrintfWord, PrintWord, ClearWord, ZeroWord, DeleteWord, ExitWord, BreakWord, ContinueWord, MapName, VarName, TextLiteral, OpenBrace, CloseBrace, OpenParen, CloseParen, OpenBracket, CloseBracket, Comma, Semicolon, Assign}
use Rattle.bt_parser.specs.declared.cursor.Named.{Named}
use Rattle.bt_grammar.specs.Classes.{is, gathering_of, gathers, update_of}
use Rattle.bt_grammar.specs.Tables.{is_call, is_control, fst_of}
use Rattle.bt_grammar.specs.Form.{Item, Expression, Keyed, Assignable, Int, Aggregation, Update, AfterMap, AfterVar, Printf, Print, Delete, CallOrJump, Simple, Arm, Tail, Control, Body, Braced, Form, Tok, Empty, Map, Then, Or, Until}
use Rattle.bt_grammar.specs.Reading.{Out, Done, Refused, read, reads, starts, rest_of}
use Rattle.bt_grammar.specs.Rules.{mark, ends, optional, in_parens, after_comma, empty_parens, value, a_number}
use Rattle.bt_grammar.specs.Trees.{pair, negated, count_call, gather_call, lhist_call, map_ref, step_after, place_of_map, place_of_target, stmt, top_and_div}
use Rattle.bt_grammar.specs.Form.{Call}
use Rattle.bt_parser.specs.Mirror.{◌>>=◌, front_place, when, named_form, var_of, values_on, values_behind, step_at, step_of}

-- what is made of a value
abbrev pub given : {A B : Type 0} → A → Out (A → B) → Out B
given a o = o >>= λ f r. Done (f a) r

-- ---- numbers and map functions

abbrev pub int_by : Bool → List Item → Out ℤ
int_by true ts = read reads a_number (rest_of ts) >>= λ n r. Done (negated n) r
int_by false ts = read reads a_number ts

abbrev pub parens_by : List Item → Out Expr
parens_by ts = read reads (mark OpenParen) ts >>= λ _ r. read reads (Until value CloseParen) r

abbrev pub count_form : Form (AggCall × Place)
count_form = Then count_call (mark CountWord) empty_parens

abbrev pub count_by : List Item → Out (AggCall × Place)
count_by ts = read reads (mark CountWord) ts >>= λ p r. read reads (mark OpenParen) r >>= λ _ r1. read reads (mark CloseParen) r1 >>= λ _ r2. Done (aggs.Count, p) r2

abbrev pub gather_form : Form (AggCall × Place)
gather_form = Then gather_call (Tok gathers) (in_parens value)

abbrev pub gathering_at : List Item → Option Gathering
gathering_at [] = None
gathering_at (t ∷ r) = gathering_of t.class

abbrev pub gather_by : Option Gathering → List Item → Out (AggCall × Place)
gather_by None ts = Refused ts
gather_by (Some g) ts = read reads (in_parens value) (rest_of ts) >>= λ x r. Done (aggs.Gather g x, front_place ts) r

abbrev pub lhist_form : Form (AggCall × Place)
lhist_form = Then lhist_call (mark LhistWord) (in_parens (Then pair (Until value Comma) (Then pair (Until (Call Int) Comma) (Then pair (Until (Call Int) Comma) (Call Int)))))

abbrev pub bounds_by : List Item → Out Bounds
bounds_by ts = reads Int ts >>= λ a r. read reads (mark Comma) r >>= λ _ r1. reads Int r1 >>= λ b r2. read reads (mark Comma) r2 >>= λ _ r3. reads Int r3 >>= λ c r4.
    read reads (mark CloseParen) r4 >>= λ _ r5. Done (record { min = a; max = b; step = c }) r5

abbrev pub lhist_by : List Item → Out (AggCall × Place)
lhist_by ts = read reads (mark LhistWord) ts >>= λ p r. read reads (mark OpenParen) r >>= λ _ r1. read reads (Until value Comma) r1 >>= λ x r2.
    bounds_by r2 >>= λ b r3. Done (aggs.Lhist x b.min b.max b.step, p) r3

abbrev pub aggregation_by : List Item → Out (AggCall × Place)
aggregation_by ts = if starts (ends CountWord) ts then read reads count_form ts
    else (if starts (ends LhistWord) ts then read reads lhist_form ts else read reads gather_form ts)

abbrev pub begins_aggregation : Class → Bool → Bool
begins_aggregation c brace = fst_of Aggregation c

-- ---- what follows a map or a variable

abbrev pub update_at : List Item → Option BinOp
update_at [] = None
update_at (t ∷ r) = update_of t.class

abbrev pub assign_by : Target → Option BinOp → List Item → Out StmtKind
assign_by target op ts = reads (Expression false) ts >>= λ x r. Done (stmts.Assign target op x) r

abbrev pub update_by : Target → Option Bool → Option BinOp → List Item → Out StmtKind
update_by target (Some plus) op ts = Done (stmts.Step (step_after target plus (place_of_target target))) (rest_of ts)
update_by target None (Some op) ts = assign_by target (Some op) (rest_of ts)
update_by target None None ts = Refused ts

abbrev pub set_agg_by : MapRef → List Item → Out StmtKind
set_agg_by m ts = reads Aggregation ts >>= λ a r. Done (stmts.SetAgg m a.0 a.1) r

abbrev pub set_map_by : MapRef → List Item → Out StmtKind
set_map_by m r = if starts begins_aggregation r then set_agg_by m r else assign_by (targets.Map m) None r

abbrev pub after_map_by : MapRef → List Item → Out StmtKind
after_map_by m ts = if starts (ends Assign) ts then set_map_by m (rest_of ts) else given (targets.Map m) (reads Update ts)

abbrev pub after_var_by : VarRef → List Item → Out StmtKind
after_var_by v ts = if starts (ends Assign) ts then assign_by (targets.Var v) None (rest_of ts)
    else given (targets.Var v) (reads Update ts)

-- ---- calls and jumps

abbrev pub bare_map : Named → MapRef
bare_map n = roll-MapRef (record { name = n.bytes; keys = []; place = n.place })

abbrev pub map_form : Form MapRef
map_form = Map (λ t. map_ref t []) (Tok (is MapName))

abbrev pub whole_map_by : List Item → Out MapRef
whole_map_by ts = read reads (named_form MapName) ts >>= λ n r. Done (bare_map n) r

abbrev pub in_parens_map : Form MapRef
in_parens_map = in_parens map_form

abbrev pub map_in_parens_by : List Item → Out MapRef
map_in_parens_by ts = read reads (mark OpenParen) ts >>= λ _ r. read reads map_form r >>= λ m r1. read reads (mark CloseParen) r1 >>= λ _ r2. Done m r2

-- the values of a format and the closing parenthesis
abbrev pub closed_values_by : List Item → Out (List Expr)
closed_values_by ts = values_on [] ts >>= λ vs r. read reads (mark CloseParen) r >>= λ _ r1. Done vs r1

abbrev pub printf_by : List Item → Out StmtKind
printf_by ts = read reads (mark OpenParen) ts >>= λ _ r. read reads (named_form TextLiteral) r >>= λ n r1. closed_values_by r1 >>= λ vs r2. Done (stmts.Printf n.bytes n.place vs) r2

abbrev pub limit_form : Form (Option ℤ)
limit_form = optional (after_comma a_number)

abbrev pub limit_by : List Item → Out (Option ℤ)
limit_by ts = if starts (ends Comma) ts then (read reads a_number (rest_of ts) >>= λ n r. Done (Some n) r) else Done None ts

abbrev pub limits_form : Form (Option ℤ × Option ℤ)
limits_form = Or (Then top_and_div (after_comma a_number) (optional (after_comma a_number))) (Empty (None, None))

abbrev pub limits_on : Option ℤ → List Item → Out (Option ℤ × Option ℤ)
limits_on None ts = Done (None, None) ts
limits_on (Some top) ts = read reads limit_form ts >>= λ div r. Done (Some top, div) r

abbrev pub limits_by : List Item → Out (Option ℤ × Option ℤ)
limits_by ts = read reads limit_form ts >>= limits_on

-- the limits and the closing parenthesis
abbrev pub closed_limits_by : List Item → Out (Option ℤ × Option ℤ)
closed_limits_by ts = read reads limits_form ts >>= λ limits r. read reads (mark CloseParen) r >>= λ _ r1. Done limits r1

abbrev pub print_by : List Item → Out StmtKind
print_by ts = read reads (mark OpenParen) ts >>= λ _ r. read reads map_form r >>= λ m r1. closed_limits_by r1 >>= λ limits r2. Done (stmts.Print m limits.0 limits.1) r2

-- the parts of a key behind its bracket, the bracket behind them, and the closing parenthesis
abbrev pub closed_keys_by : List Item → Out (List Expr)
closed_keys_by ts = values_behind [] ts >>= λ keys r. read reads (mark CloseBracket) r >>= λ _ r1. read reads (mark CloseParen) r1 >>= λ _ r2. Done keys r2

-- which values of a map are deleted
abbrev pub deleted_by : List Item → Out DeletedKeys
deleted_by ts = if starts (ends Comma) ts then (read reads (Until value CloseParen) (rest_of ts) >>= λ x r. Done (Key x) r)
    else (if starts (ends OpenBracket) ts then (closed_keys_by (rest_of ts) >>= λ keys r. Done (Keys keys) r)
    else (read reads (mark CloseParen) ts >>= λ _ r. Done (Keys []) r))

abbrev pub deletion : Named → DeletedKeys → StmtKind
deletion n (Key x) = stmts.DeleteKey (bare_map n) x
deletion n (Keys keys) = stmts.Delete (roll-MapRef (record { name = n.bytes; keys = keys; place = n.place }))

abbrev pub delete_on : Named → List Item → Out StmtKind
delete_on n ts = deleted_by ts >>= λ d r. Done (deletion n d) r

abbrev pub delete_by : List Item → Out StmtKind
delete_by ts = read reads (mark OpenParen) ts >>= λ _ r. read reads (named_form MapName) r >>= delete_on

abbrev pub exit_by : List Item → Out StmtKind
exit_by ts = read reads (mark OpenParen) ts >>= λ _ r. read reads (mark CloseParen) r >>= λ _ r1. Done stmts.Exit r1

abbrev pub clear_by : List Item → Out StmtKind
clear_by ts = read reads in_parens_map ts >>= λ m r. Done (stmts.Clear m) r

abbrev pub zero_by : List Item → Out StmtKind
zero_by ts = read reads in_parens_map ts >>= λ m r. Done (stmts.Zero m) r

-- what follows the first word of a call or jump
abbrev pub behind_word : Class → List Item → Out StmtKind
behind_word PrintfWord ts = reads Printf ts
behind_word PrintWord ts = reads Print ts
behind_word ClearWord ts = clear_by ts
behind_word ZeroWord ts = zero_by ts
behind_word DeleteWord ts = reads Delete ts
behind_word ExitWord ts = exit_by ts
behind_word BreakWord ts = Done stmts.Break ts
behind_word ContinueWord ts = Done stmts.Continue ts
behind_word _ ts = Done stmts.Return ts

abbrev pub call_at : List Item → Option Class
call_at [] = None
call_at (t ∷ r) = when (is_call t.class) t.class

abbrev pub call_by : Option Class → List Item → Out Stmt
call_by None ts = Refused ts
call_by (Some c) ts = behind_word c (rest_of ts) >>= λ k r. Done (stmt (front_place ts) k) r

-- ---- simple statements

abbrev pub step_stmt_by : Bool → Place → List Item → Out Stmt
step_stmt_by plus place ts = reads Assignable ts >>= λ t r. Done (stmt place (stmts.Step (step_of t plus place))) r

abbrev pub map_stmt_by : List Item → Out Stmt
map_stmt_by ts = reads Keyed ts >>= λ m r. given m (reads AfterMap r) >>= λ k r1. Done (stmt (place_of_map m) k) r1

abbrev pub var_stmt_by : List Item → Out Stmt
var_stmt_by ts = read reads (named_form VarName) ts >>= λ n r. given (var_of n) (reads AfterVar r) >>= λ k r1. Done (stmt n.place k) r1

abbrev pub step_or_call : Option Bool → List Item → Out Stmt
step_or_call (Some plus) ts = step_stmt_by plus (front_place ts) (rest_of ts)
step_or_call None ts = reads CallOrJump ts

abbrev pub simple_by : List Item → Out Stmt
simple_by ts = if starts (ends MapName) ts then map_stmt_by ts else (if starts (ends VarName) ts then var_stmt_by ts else step_or_call (step_at ts) ts)

-- ---- control and blocks

abbrev pub arm_by : List Item → Out (Expr × Block)
arm_by ts = read reads (in_parens value) ts >>= λ x r. reads Braced r >>= λ b r1. Done (x, b) r1

-- the arms so far, and what is read of the others
unfoldable pub arms_on : List (Expr × Block) → List Item → Out StmtKind
arms_on arms ts = reads Tail ts >>= λ t r. Done (stmts.If (arms ++ t.0) t.1) r

abbrev pub branches_by : List Item → Out StmtKind
branches_by ts = reads Arm ts >>= λ a r. arms_on (a ∷ []) r

-- whether `else` and `if` come next
abbrev pub is_else_if : List Item → Bool
is_else_if ts = if starts (ends ElseWord) ts then starts (ends IfWord) (rest_of ts) else false

-- the block behind an `else`, where one comes next
abbrev pub otherwise_by : List Item → Out (Option Block)
otherwise_by ts = if starts (ends ElseWord) ts then (reads Braced (rest_of ts) >>= λ b r. Done (Some b) r) else Done None ts

abbrev pub arms_turn : List (Expr × Block) → List Item → Out StmtKind
arms_turn arms ts = if is_else_if ts then (reads Arm (rest_of (rest_of ts)) >>= λ a r. arms_on (arms ++ a ∷ []) r)
    else (otherwise_by ts >>= λ o r. Done (stmts.If arms o) r)

abbrev pub turns_by : List Item → Out ℤ
turns_by ts = read reads (mark OpenParen) ts >>= λ _ r. read reads a_number r >>= λ n r1. read reads (mark CloseParen) r1 >>= λ _ r2. Done n r2

abbrev pub if_by : Place → List Item → Out Stmt
if_by place ts = branches_by ts >>= λ k r. Done (stmt place k) r

abbrev pub while_by : Place → List Item → Out Stmt
while_by place ts = reads Arm ts >>= λ a r. Done (stmt place (stmts.While a.0 a.1)) r

abbrev pub unroll_by : List Item → Out Stmt
unroll_by ts = read reads (mark UnrollWord) ts >>= λ p r. read reads (in_parens a_number) r >>= λ n r1. reads Braced r1 >>= λ b r2. Done (stmt p (stmts.Unroll n b)) r2

abbrev pub control_by : List Item → Out Stmt
control_by ts = if starts (ends IfWord) ts then if_by (front_place ts) (rest_of ts)
    else (if starts (ends WhileWord) ts then while_by (front_place ts) (rest_of ts) else unroll_by ts)

-- the statements so far, and what is read of the others
unfoldable pub body_on : List Stmt → List Item → Out (List Stmt)
body_on body ts = reads Body ts >>= λ b r. Done (body ++ b) r

abbrev pub begins_control : Class → Bool → Bool
begins_control c brace = is_control c

-- a statement without blocks, before what may stand behind it
abbrev pub ended : Stmt → List Item → Out Stmt
ended x r = if starts (ends Semicolon) r then Done x (rest_of r) else (if starts (ends CloseBrace) r then Done x r else Refused r)

abbrev pub ended_by : List Item → Out Stmt
ended_by ts = reads Simple ts >>= ended

abbrev pub stmt_by : List Item → Out Stmt
stmt_by ts = if starts begins_control ts then reads Control ts else ended_by ts

abbrev pub body_turn : List Stmt → List Item → Out (List Stmt)
body_turn body ts = if starts (ends CloseBrace) ts then Done body (rest_of ts) else (stmt_by ts >>= λ x r. body_on (body ++ x ∷ []) r)

abbrev pub block_by : List Item → Out Block
block_by ts = read reads (mark OpenBrace) ts >>= λ p r. reads Body r >>= λ b r1. Done (roll-Block (record { stmts = b; place = p })) r1
