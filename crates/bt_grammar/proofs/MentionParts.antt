-- Each part of the grammar mentions what its tokens do.
use Rattle.std.proofs.Common.{◌≡◌, ℕ, ℤ, zero, suc, Bool, true, false, List, [], ◌∷◌, ◌++◌, Option, Some, None, map, refl, ap, sym, ◌∙◌, append_assoc}
use Rattle.std.specs.Prelude.{option_map, is_some, pos}
use Rattle.std.proofs.lemmas.List.{append-nil, map-append}
use Rattle.bt_core.specs.declared.operator.BinOp.TheVariants.{Sub, Div}
use Rattle.bt_core.specs.declared.place.Place.{Place}
use Rattle.bt_ast.specs.declared.expr.Builtin.{Builtin}
use Rattle.bt_ast.specs.declared.expr.Expr.{Expr}
use Rattle.bt_ast.specs.declared.expr.MapRef.{MapRef}
use Rattle.bt_ast.specs.declared.expr.Target.{Target}
use Rattle.bt_ast.specs.declared.expr.Target.TheVariants as targets
use Rattle.bt_ast.specs.declared.expr.VarRef.{VarRef}
use Rattle.bt_ast.specs.declared.stmt.AggCall.{AggCall}
use Rattle.bt_ast.specs.declared.stmt.Block.{Block}
use Rattle.bt_ast.specs.declared.stmt.Stmt.{Stmt}
use Rattle.bt_ast.specs.declared.stmt.StmtKind.{StmtKind}
use Rattle.bt_ast.specs.declared.stmt.StmtKind.TheVariants as stmts
use Rattle.bt_ast.specs.declared.probe.Point.{Point}
use Rattle.bt_ast.specs.declared.probe.Probe.{Probe}
use Rattle.bt_grammar.specs.declared.class.Class.{Class}
use Rattle.bt_grammar.specs.declared.class.Class.TheVariants.{IfWord, ElseWord, WhileWord, UnrollWord, CountWord, LhistWord, PrintfWord, PrintWord, ClearWord, ZeroWord, DeleteWord, ExitWord, BreakWord, ContinueWord, ReturnWord, ArgsWord, VarName, NumberLiteral, OpenBrace, CloseBrace, OpenParen, CloseParen, OpenBracket, CloseBracket, Comma, Semicolon, Assign, Question, Colon, Increment, AndAnd, GatherWord, Operator}
use Rattle.bt_grammar.specs.declared.class.Tier.{Tier}
use Rattle.bt_grammar.specs.declared.class.Tier.TheVariants.{Products, Sums, Shifts, Orders, Equalities, BitAnds, BitXors, BitOrs, AndThens, OrElses}
use Rattle.bt_grammar.specs.Classes.{is, is_word, is_builtin, is_prefix, is_update, is_step, is_dot, is_point, gathers, builtin_of, prefix_of, update_of, tier_of, of_tier, joins}
use Rattle.bt_grammar.specs.Form.{Item, Part, Primary, Unary, Level, Expression, Values, Keyed, Assignable, Int, Aggregation, Update, AfterMap, AfterVar, Printf, Print, Delete, CallOrJump, Simple, Arm, Tail, Control, Body, Braced, Points, OneProbe, WholeScript, Of, Call, Rel}
use Rattle.bt_grammar.specs.Grammar.{whole_at}
use Rattle.bt_grammar.specs.Mentions.{OfMap, OfText, Mentions, joined, plain, expr_mentions, target_mentions, map_mentions, agg_mentions, arms_mentions, optional_mentions, statement_mentions, block_mentions, stmt_mentions, predicate_mentions, probe_mentions}
use Rattle.bt_grammar.specs.Rules.{rule, operand, empty_parens, value, a_number}
use Rattle.bt_grammar.specs.Trees.{pair, single, snoc, cons, bytes_at, number_at, place_of_expr, place_of_map, place_of_target, expr, map_ref, var_ref, var_target, number_expr, text_expr, builtin_kind, builtin_expr, field_expr, paren_expr, step_before, step_after, prefix_step, map_operand, var_operand, unary_op, unary, binary_kind, binary, choose, stmt, gathering, gather_call, lhist_call, update_target, step_target, gather_map, set_map, on_map, set_var, on_var, map_stmt, var_stmt, step_stmt, printf_kind, print_kind, top_and_div, clear_kind, zero_kind, delete_all, delete_keyed, delete_key, on_item, more_arms, if_stmt, while_stmt, unroll_stmt, block_of, with_points, probe_of}
use Rattle.bt_grammar.proofs.AllClasses.{and_first, implies1}
use Rattle.bt_grammar.proofs.MentionForms.{Telling, Tells, Nothing, Maybe, is_silent, tells_silent, tells_map_name, tells_text, tells_mark, tells_empty, tells_map, tells_then, tells_or, tells_until, tells_op, tells_chain, tells_second, tells_parens, tells_comma, tells_optional}
use Rattle.bt_grammar.proofs.TreeMentions as trees
use Rattle.bt_grammar.proofs.TreeMentions.{arm_of}

-- ---- what each part says

abbrev Says : {A : Type 0} → (A → Mentions) → Telling A
Says f a m = map plain (f a) ≡ m

abbrev values_mentions : List Expr → Mentions
values_mentions values = joined (map expr_mentions values)

abbrev arm_mentions : Expr × Block → Mentions
arm_mentions arm = expr_mentions arm.0 ++ block_mentions arm.1

abbrev tail_mentions : List (Expr × Block) × Option Block → Mentions
tail_mentions tail = arms_mentions (map arm_of tail.0) ++ optional_mentions (option_map block_mentions tail.1)

abbrev body_mentions : List Stmt → Mentions
body_mentions body = joined (map stmt_mentions body)

abbrev probes_mentions : List Probe → Mentions
probes_mentions probes = joined (map probe_mentions probes)

abbrev OnTarget : Telling (Target → StmtKind)
OnTarget f m = (t : Target) → map plain (statement_mentions (f t)) ≡ map plain (target_mentions t) ++ m

abbrev OnMap : Telling (MapRef → StmtKind)
OnMap f m = (r : MapRef) → map plain (statement_mentions (f r)) ≡ map plain (map_mentions r) ++ m

abbrev OnVar : Telling (VarRef → StmtKind)
OnVar f m = (v : VarRef) → map plain (statement_mentions (f v)) ≡ m

abbrev OnItem : Telling (Item → StmtKind)
OnItem f m = (t : Item) → map plain (statement_mentions (f t)) ≡ OfMap (bytes_at t) t.place ∷ m

abbrev OnPoints : Telling (List Point → Probe)
OnPoints f m = (points : List Point) → map plain (probe_mentions (f points)) ≡ m

abbrev Value : (n : Part) → Telling (Of n)
Value Primary = Says expr_mentions
Value Unary = Says expr_mentions
Value (Level p tier) = Says expr_mentions
Value (Expression p) = Says expr_mentions
Value Values = Says values_mentions
Value Keyed = Says map_mentions
Value Assignable = Says target_mentions
Value Int = Nothing
Value Aggregation = Says (λ a. agg_mentions a.0)
Value Update = OnTarget
Value AfterMap = OnMap
Value AfterVar = OnVar
Value Printf = Says statement_mentions
Value Print = Says statement_mentions
Value Delete = Says statement_mentions
Value CallOrJump = Says stmt_mentions
Value Simple = Says stmt_mentions
Value Arm = Says arm_mentions
Value Tail = Says tail_mentions
Value Control = Says stmt_mentions
Value Body = Says body_mentions
Value Braced = Says block_mentions
Value Points = Nothing
Value OneProbe = Says probe_mentions
Value WholeScript = Says probes_mentions

-- ---- lists

both : (f g : Mentions) (x y : Mentions) → map plain f ≡ x → map plain g ≡ y → map plain (f ++ g) ≡ x ++ y
both f g x y ex ey = map-append plain f g ∙ (λ i. ex i ++ ey i)

-- nothing before or behind
before_it : (f x y : Mentions) → x ≡ [] → map plain f ≡ y → map plain f ≡ x ++ y
before_it f x y ex ey = ey ∙ ap (λ (z : Mentions). z ++ y) (sym ex)

behind_it : (f x y : Mentions) → map plain f ≡ x → y ≡ [] → map plain f ≡ x ++ y
behind_it f x y ex ey = ex ∙ sym (append-nil x) ∙ ap (λ (z : Mentions). x ++ z) (sym ey)

joined_snoc : (xs : List Mentions) (x : Mentions) → joined (xs ++ x ∷ []) ≡ joined xs ++ x
joined_snoc [] x = append-nil x
joined_snoc (y ∷ xs) x = ap (λ (z : Mentions). y ++ z) (joined_snoc xs x) ∙ sym (append_assoc y (joined xs) x)

mapped_snoc : {A : Type 0} (f : A → Mentions) (xs : List A) (x : A) → joined (map f (snoc xs x)) ≡ joined (map f xs) ++ f x
mapped_snoc f xs x = ap joined (map-append f xs (x ∷ [])) ∙ joined_snoc (map f xs) (f x)

snoc_case : {A : Type 0} (f : A → Mentions) (xs : List A) (a : A) (x y : Mentions) → Says (λ l. joined (map f l)) xs x → Says f a y → Says (λ l. joined (map f l)) (snoc xs a) (x ++ y)
snoc_case f xs a x y ex ey = ap (map plain) (mapped_snoc f xs a) ∙ both (joined (map f xs)) (f a) x y ex ey

cons_case : {A : Type 0} (f : A → Mentions) (a : A) (xs : List A) (x y : Mentions) → Says f a x → Says (λ l. joined (map f l)) xs y → Says (λ l. joined (map f l)) (cons a xs) (x ++ y)
cons_case f a xs x y ex ey = both (f a) (joined (map f xs)) x y ex ey

single_case : {A : Type 0} (f : A → Mentions) (a : A) (m : Mentions) → Says f a m → Says (λ l. joined (map f l)) (single a) m
single_case f a m e = ap (map plain) (append-nil (f a)) ∙ e

-- ---- expressions

number_case : (t : Item) (m : Mentions) → Nothing t m → Says expr_mentions (number_expr t) m
number_case t m e = ap (map plain) (trees.Number_mentions (number_at t) t.place) ∙ sym e

text_case : (t : Item) (m : Mentions) → m ≡ OfText (bytes_at t) t.place ∷ [] → Says expr_mentions (text_expr t) m
text_case t m e = ap (map plain) (trees.Text_mentions (bytes_at t) t.place) ∙ sym e

builtin_mentions : (o : Option Builtin) (p : Place) → expr_mentions (expr (builtin_kind o) p) ≡ []
builtin_mentions None p = trees.Number_mentions (pos 0) p
builtin_mentions (Some b) p = trees.Builtin_mentions b p

builtin_case : (t : Item) (m : Mentions) → Nothing t m → Says expr_mentions (builtin_expr t) m
builtin_case t m e = ap (map plain) (builtin_mentions (builtin_of t.class) t.place) ∙ sym e

silent_both : {A B : Type 0} (a : A) (b : B) (x y : Mentions) → x ≡ [] → y ≡ [] → x ++ y ≡ []
silent_both a b x y ex ey = (λ i. ex i ++ ey i)

field_case : (p : Place) (t : Item) (x y : Mentions) → x ≡ [] → y ≡ [] → Says expr_mentions (field_expr p t) (x ++ y)
field_case p t x y ex ey = ap (map plain) (trees.Field_mentions (bytes_at t) t.place p) ∙ sym (silent_both p t x y ex ey)

paren_case : (p : Place) (e : Expr) (x y : Mentions) → x ≡ [] → Says expr_mentions e y → Says expr_mentions (paren_expr p e) (x ++ y)
paren_case p e x y ex ey = before_it (expr_mentions (paren_expr p e)) x y ex (ap (map plain) (trees.Paren_mentions e p) ∙ ey)

prefix_case : (t : Item) (a : Target) (x y : Mentions) → x ≡ [] → Says target_mentions a y → Says expr_mentions (prefix_step t a) (x ++ y)
prefix_case t a x y ex ey = before_it (expr_mentions (prefix_step t a)) x y ex (ap (map plain) (trees.Step_mentions (step_before t a) t.place ∙ trees.step_is a (is Increment t.class) true t.place) ∙ ey)

silent_option : (o : Option Item) (m : Mentions) → Maybe Nothing o m → m ≡ []
silent_option None m e = e
silent_option (Some t) m e = e

map_operand_is : (m : MapRef) (o : Option Item) → expr_mentions (map_operand m o) ≡ map_mentions m
map_operand_is m None = trees.Map_mentions m (place_of_map m)
map_operand_is m (Some t) = trees.Step_mentions (step_after (targets.Map m) (is Increment t.class) (place_of_map m)) (place_of_map m)
    ∙ trees.step_is (targets.Map m) (is Increment t.class) false (place_of_map m) ∙ trees.target_Map m

map_operand_case : (m : MapRef) (o : Option Item) (x y : Mentions) → Says map_mentions m x → Maybe Nothing o y → Says expr_mentions (map_operand m o) (x ++ y)
map_operand_case m o x y ex ey = behind_it (expr_mentions (map_operand m o)) x y (ap (map plain) (map_operand_is m o) ∙ ex) (silent_option o y ey)

var_operand_is : (t : Item) (o : Option Item) → expr_mentions (var_operand t o) ≡ []
var_operand_is t None = trees.Var_mentions (var_ref t) t.place
var_operand_is t (Some mark) = trees.Step_mentions (step_after (var_target t) (is Increment mark.class) t.place) t.place
    ∙ trees.step_is (var_target t) (is Increment mark.class) false t.place ∙ trees.target_Var (var_ref t)

var_operand_case : (t : Item) (o : Option Item) (x y : Mentions) → Nothing t x → Maybe Nothing o y → Says expr_mentions (var_operand t o) (x ++ y)
var_operand_case t o x y ex ey = ap (map plain) (var_operand_is t o) ∙ sym (silent_both t o x y ex (silent_option o y ey))

unary_case : (t : Item) (e : Expr) (x y : Mentions) → Nothing t x → Says expr_mentions e y → Says expr_mentions (unary t e) (x ++ y)
unary_case t e x y ex ey = before_it (expr_mentions (unary t e)) x y ex (ap (map plain) (trees.Unary_mentions (unary_op (prefix_of t.class)) e t.place) ∙ ey)

binary_is : (c : Class) (l r : Expr) (p : Place) → expr_mentions (expr (binary_kind c l r) p) ≡ expr_mentions l ++ expr_mentions r
binary_is (Operator op) l r p = trees.Binary_mentions op l r p
binary_is AndAnd l r p = trees.AndThen_mentions l r p
binary_is _ l r p = trees.OrElse_mentions l r p

binary_case : (l : Expr) (o : Item × Expr) (x y : Mentions) → Says expr_mentions l x → Says expr_mentions o.1 y → Says expr_mentions (binary l o) (x ++ y)
binary_case l o x y ex ey = ap (map plain) (binary_is o.0.class l o.1 (place_of_expr l)) ∙ both (expr_mentions l) (expr_mentions o.1) x y ex ey

abbrev TwoValues : Telling (Expr × Expr)
TwoValues o m = map plain (expr_mentions o.0 ++ expr_mentions o.1) ≡ m

choose_case : (e : Expr) (o : Option (Item × (Expr × Expr))) (x y : Mentions) → Says expr_mentions e x → Maybe (λ c. TwoValues c.1) o y → Says expr_mentions (choose e o) (x ++ y)
choose_case e None x y ex ey = behind_it (expr_mentions e) x y ex ey
choose_case e (Some c) x y ex ey = ap (map plain) (trees.Choose_mentions e c.1.0 c.1.1 (place_of_expr e)) ∙ both (expr_mentions e) (expr_mentions c.1.0 ++ expr_mentions c.1.1) x y ex ey

keyed_case : (t : Item) (keys : List Expr) (x y : Mentions) → x ≡ OfMap (bytes_at t) t.place ∷ [] → Says values_mentions keys y → Says map_mentions (map_ref t keys) (x ++ y)
keyed_case t keys x y ex ey = ap (map plain) (trees.map_is (bytes_at t) keys t.place) ∙ (λ i. sym ex i ++ ey i)

-- a map without keys
lone_case : (t : Item) → map plain (map_mentions (map_ref t [])) ≡ OfMap (bytes_at t) t.place ∷ []
lone_case t = ap (map plain) (trees.map_is (bytes_at t) [] t.place)

-- ---- map functions and assignments

gathering_is : (c : Class) (e : Expr) → agg_mentions (gathering c e) ≡ expr_mentions e
gathering_is (GatherWord g) e = refl
gathering_is _ e = refl

gather_case : (t : Item) (e : Expr) (x y : Mentions) → Nothing t x → Says expr_mentions e y → Says (λ a. agg_mentions a.0) (gather_call t e) (x ++ y)
gather_case t e x y ex ey = before_it (agg_mentions (gathering t.class e)) x y ex (ap (map plain) (gathering_is t.class e) ∙ ey)

abbrev FirstValue : Telling (Expr × (ℤ × (ℤ × ℤ)))
FirstValue args m = map plain (expr_mentions args.0) ≡ m

lhist_case : (p : Place) (args : Expr × (ℤ × (ℤ × ℤ))) (x y : Mentions) → x ≡ [] → FirstValue args y → Says (λ a. agg_mentions a.0) (lhist_call p args) (x ++ y)
lhist_case p args x y ex ey = before_it (expr_mentions args.0) x y ex ey

update_case : (t : Item) (e : Expr) (x y : Mentions) → Nothing t x → Says expr_mentions e y → OnTarget (update_target t e) (x ++ y)
update_case t e x y ex ey = λ target. ap (map plain) (trees.Assign_statement target (update_of t.class) e)
    ∙ both (target_mentions target) (expr_mentions e) (map plain (target_mentions target)) (x ++ y) refl (before_it (expr_mentions e) x y ex ey)

step_case : (t : Item) (m : Mentions) → Nothing t m → OnTarget (step_target t) m
step_case t m e = λ target. ap (map plain) (trees.Step_statement (step_after target (is Increment t.class) (place_of_target target)) ∙ trees.step_is target (is Increment t.class) false (place_of_target target))
    ∙ behind_it (target_mentions target) (map plain (target_mentions target)) m refl e

gather_map_case : (a : AggCall × Place) (m : Mentions) → Says (λ a. agg_mentions a.0) a m → OnMap (gather_map a) m
gather_map_case a m e = λ r. ap (map plain) (trees.SetAgg_statement r a.0 a.1) ∙ both (map_mentions r) (agg_mentions a.0) (map plain (map_mentions r)) m refl e

set_map_case : (e : Expr) (m : Mentions) → Says expr_mentions e m → OnMap (set_map e) m
set_map_case e m h = λ r. ap (map plain) (trees.Assign_statement (targets.Map r) None e ∙ ap (λ (z : Mentions). z ++ expr_mentions e) (trees.target_Map r))
    ∙ both (map_mentions r) (expr_mentions e) (map plain (map_mentions r)) m refl h

on_map_case : (f : Target → StmtKind) (m : Mentions) → OnTarget f m → OnMap (on_map f) m
on_map_case f m h = λ r. h (targets.Map r) ∙ ap (λ (z : Mentions). map plain z ++ m) (trees.target_Map r)

set_var_case : (p : Place) (e : Expr) (x y : Mentions) → x ≡ [] → Says expr_mentions e y → OnVar (set_var p e) (x ++ y)
set_var_case p e x y ex ey = λ v. ap (map plain) (trees.Assign_statement (targets.Var v) None e ∙ ap (λ (z : Mentions). z ++ expr_mentions e) (trees.target_Var v)) ∙ before_it (expr_mentions e) x y ex ey

on_var_case : (f : Target → StmtKind) (m : Mentions) → OnTarget f m → OnVar (on_var f) m
on_var_case f m h = λ v. h (targets.Var v) ∙ ap (λ (z : Mentions). map plain z ++ m) (trees.target_Var v)

-- ---- calls and statements

printf_case : (t : Item) (values : List Expr) (x y : Mentions) → x ≡ OfText (bytes_at t) t.place ∷ [] → Says values_mentions values y → Says statement_mentions (printf_kind t values) (x ++ y)
printf_case t values x y ex ey = ap (map plain) (trees.Printf_statement (bytes_at t) t.place values) ∙ (λ i. sym ex i ++ ey i)

print_case : (t : Item) (limits : Option ℤ × Option ℤ) (x y : Mentions) → x ≡ OfMap (bytes_at t) t.place ∷ [] → y ≡ [] → Says statement_mentions (print_kind t limits) (x ++ y)
print_case t limits x y ex ey = behind_it (statement_mentions (print_kind t limits)) x y (ap (map plain) (trees.Print_statement (map_ref t []) limits.0 limits.1) ∙ lone_case t ∙ sym ex) ey

limits_case : (n : ℤ) (o : Option ℤ) (x y : Mentions) → x ≡ [] → Maybe Nothing o y → Nothing (top_and_div n o) (x ++ y)
limits_case n None x y ex ey = silent_both n n x y ex ey
limits_case n (Some k) x y ex ey = silent_both n k x y ex ey

clear_case : (t : Item) (m : Mentions) → m ≡ OfMap (bytes_at t) t.place ∷ [] → Says statement_mentions (clear_kind t) m
clear_case t m e = ap (map plain) (trees.Clear_statement (map_ref t [])) ∙ lone_case t ∙ sym e

zero_case : (t : Item) (m : Mentions) → m ≡ OfMap (bytes_at t) t.place ∷ [] → Says statement_mentions (zero_kind t) m
zero_case t m e = ap (map plain) (trees.Zero_statement (map_ref t [])) ∙ lone_case t ∙ sym e

delete_all_case : (p : Place) (m : Mentions) → m ≡ [] → OnItem (delete_all p) m
delete_all_case p m e = λ t. ap (map plain) (trees.Delete_statement (map_ref t [])) ∙ lone_case t ∙ ap (λ (z : Mentions). OfMap (bytes_at t) t.place ∷ z) (sym e)

delete_keyed_case : (p : Place) (keys : List Expr) (x y : Mentions) → x ≡ [] → Says values_mentions keys y → OnItem (delete_keyed p keys) (x ++ y)
delete_keyed_case p keys x y ex ey = λ t. ap (map plain) (trees.Delete_statement (map_ref t keys) ∙ trees.map_is (bytes_at t) keys t.place)
    ∙ ap (λ (z : Mentions). OfMap (bytes_at t) t.place ∷ z) (before_it (values_mentions keys) x y ex ey)

delete_key_case : (p : Place) (e : Expr) (x y : Mentions) → x ≡ [] → Says expr_mentions e y → OnItem (delete_key p e) (x ++ y)
delete_key_case p e x y ex ey = λ t. ap (map plain) (trees.DeleteKey_statement (map_ref t []) e)
    ∙ both (map_mentions (map_ref t [])) (expr_mentions e) (OfMap (bytes_at t) t.place ∷ []) (x ++ y) (lone_case t) (before_it (expr_mentions e) x y ex ey)

on_item_case : (t : Item) (f : Item → StmtKind) (x y : Mentions) → x ≡ OfMap (bytes_at t) t.place ∷ [] → OnItem f y → Says statement_mentions (on_item t f) (x ++ y)
on_item_case t f x y ex h = h t ∙ ap (λ (z : Mentions). z ++ y) (sym ex)

call_case : (p : Place) (k : StmtKind) (x y : Mentions) → x ≡ [] → Says statement_mentions k y → Says stmt_mentions (stmt p k) (x ++ y)
call_case p k x y ex ey = before_it (stmt_mentions (stmt p k)) x y ex (ap (map plain) (trees.stmt_is p k) ∙ ey)

-- a statement of no parts
jump_case : (p : Place) (k : StmtKind) → statement_mentions k ≡ [] → (m : Mentions) → m ≡ [] → Says stmt_mentions (stmt p k) m
jump_case p k none m e = ap (map plain) (trees.stmt_is p k ∙ none) ∙ sym e

map_stmt_case : (r : MapRef) (f : MapRef → StmtKind) (x y : Mentions) → Says map_mentions r x → OnMap f y → Says stmt_mentions (map_stmt r f) (x ++ y)
map_stmt_case r f x y ex h = ap (map plain) (trees.stmt_is (place_of_map r) (f r)) ∙ h r ∙ ap (λ (z : Mentions). z ++ y) ex

var_stmt_case : (t : Item) (f : VarRef → StmtKind) (x y : Mentions) → Nothing t x → OnVar f y → Says stmt_mentions (var_stmt t f) (x ++ y)
var_stmt_case t f x y ex h = before_it (stmt_mentions (var_stmt t f)) x y ex (ap (map plain) (trees.stmt_is t.place (f (var_ref t))) ∙ h (var_ref t))

step_stmt_case : (t : Item) (a : Target) (x y : Mentions) → Nothing t x → Says target_mentions a y → Says stmt_mentions (step_stmt t a) (x ++ y)
step_stmt_case t a x y ex ey = before_it (stmt_mentions (step_stmt t a)) x y ex
    (ap (map plain) (trees.stmt_is t.place (stmts.Step (step_before t a)) ∙ trees.Step_statement (step_before t a) ∙ trees.step_is a (is Increment t.class) true t.place) ∙ ey)

-- ---- control

arm_case : (e : Expr) (b : Block) (x y : Mentions) → Says expr_mentions e x → Says block_mentions b y → Says arm_mentions (pair e b) (x ++ y)
arm_case e b x y ex ey = both (expr_mentions e) (block_mentions b) x y ex ey

arms_regrouped : (e b arms other : Mentions) → (e ++ (b ++ arms)) ++ other ≡ (e ++ b) ++ (arms ++ other)
arms_regrouped e b arms other = append_assoc e (b ++ arms) other ∙ ap (λ (z : Mentions). e ++ z) (append_assoc b arms other) ∙ sym (append_assoc e b (arms ++ other))

more_arms_case : (arm : Expr × Block) (rest : List (Expr × Block) × Option Block) (x y : Mentions) → Says arm_mentions arm x → Says tail_mentions rest y → Says tail_mentions (more_arms arm rest) (x ++ y)
more_arms_case arm rest x y ex ey =
    ap (map plain) (arms_regrouped (expr_mentions arm.0) (block_mentions arm.1) (arms_mentions (map arm_of rest.0)) (optional_mentions (option_map block_mentions rest.1)))
    ∙ both (arm_mentions arm) (tail_mentions rest) x y ex ey

if_case : (p : Place) (all : (Expr × Block) × (List (Expr × Block) × Option Block)) (x y : Mentions) → x ≡ [] → map plain (tail_mentions (more_arms all.0 all.1)) ≡ y → Says stmt_mentions (if_stmt p all) (x ++ y)
if_case p all x y ex ey = before_it (stmt_mentions (if_stmt p all)) x y ex (ap (map plain) (trees.stmt_is p (stmts.If (all.0 ∷ all.1.0) all.1.1) ∙ trees.If_statement (all.0 ∷ all.1.0) all.1.1) ∙ ey)

while_case : (p : Place) (arm : Expr × Block) (x y : Mentions) → x ≡ [] → Says arm_mentions arm y → Says stmt_mentions (while_stmt p arm) (x ++ y)
while_case p arm x y ex ey = before_it (stmt_mentions (while_stmt p arm)) x y ex (ap (map plain) (trees.stmt_is p (stmts.While arm.0 arm.1) ∙ trees.While_statement arm.0 arm.1) ∙ ey)

turns_case : (n : ℤ) (b : Block) (x y : Mentions) → Nothing n x → Says block_mentions b y → Says (λ a. block_mentions a.1) (pair n b) (x ++ y)
turns_case n b x y ex ey = before_it (block_mentions b) x y ex ey

unroll_case : (p : Place) (all : ℤ × Block) (x y : Mentions) → x ≡ [] → Says (λ a. block_mentions a.1) all y → Says stmt_mentions (unroll_stmt p all) (x ++ y)
unroll_case p all x y ex ey = before_it (stmt_mentions (unroll_stmt p all)) x y ex (ap (map plain) (trees.stmt_is p (stmts.Unroll all.0 all.1) ∙ trees.Unroll_statement all.0 all.1) ∙ ey)

block_case : (p : Place) (body : List Stmt) (x y : Mentions) → x ≡ [] → Says body_mentions body y → Says block_mentions (block_of p body) (x ++ y)
block_case p body x y ex ey = before_it (block_mentions (block_of p body)) x y ex (ap (map plain) (trees.block_is p body) ∙ ey)

-- ---- probes

predicate_case : (o : Option Expr) (m : Mentions) → Maybe (Says expr_mentions) o m → map plain (predicate_mentions o) ≡ m
predicate_case None m e = sym e
predicate_case (Some e) m h = h

behind_points_case : (o : Option Expr) (b : Block) (x y : Mentions) → Maybe (Says expr_mentions) o x → Says block_mentions b y → OnPoints (probe_of o b) (x ++ y)
behind_points_case o b x y ex ey = λ points. both (predicate_mentions o) (block_mentions b) x y (predicate_case o x ex) ey

probe_case : (points : List Point) (f : List Point → Probe) (x y : Mentions) → Nothing points x → OnPoints f y → Says probe_mentions (with_points points f) (x ++ y)
probe_case points f x y ex h = before_it (probe_mentions (f points)) x y ex (h points)

-- ---- the classes of marks

of_some : (tier : Tier) (o : Option Tier) → of_tier tier o ≡ true → is_some o ≡ true
of_some tier None h = cc (h)
of_some tier (Some other) h = refl

joins_silent : (p : Bool) (tier : Tier) (c : Class) (b : Bool) → joins p tier c b ≡ true → is_silent c ≡ true
joins_silent p tier c b h = implies1 (λ c. is_some (tier_of c)) is_silent refl c (of_some tier (tier_of c) (and_first (of_tier tier (tier_of c)) _ h))

-- ---- the parts

module _ (R : Rel) (calls : (n : Part) → Tells R (Call n) (Value n)) where
  one_number : Tells R a_number Nothing
  one_number = tells_map R (tells_silent R (is NumberLiteral) (implies1 (is NumberLiteral) is_silent refl)) (λ t m e. e)

  one_value : Tells R value (Says expr_mentions)
  one_value = calls (Expression false)

  no_arguments : Tells R empty_parens Nothing
  no_arguments = tells_second R OpenParen refl (tells_mark R CloseParen refl)

  operand_tells : (p : Bool) (tier : Tier) → Tells R (operand p tier) (Says expr_mentions)
  operand_tells p Products = calls Unary
  operand_tells p Sums = calls (Level p Products)
  operand_tells p Shifts = calls (Level p Sums)
  operand_tells p Orders = calls (Level p Shifts)
  operand_tells p Equalities = calls (Level p Orders)
  operand_tells p BitAnds = calls (Level p Equalities)
  operand_tells p BitXors = calls (Level p BitAnds)
  operand_tells p BitOrs = calls (Level p BitXors)
  operand_tells p AndThens = calls (Level p BitOrs)
  operand_tells p OrElses = calls (Level p AndThens)

  pub tells_Primary : Tells R (rule Primary) (Says expr_mentions)
  tells_Primary =
      tells_or R (tells_map R (tells_silent R (is NumberLiteral) (implies1 (is NumberLiteral) is_silent refl)) number_case)
      (tells_or R (tells_map R (tells_text R) text_case)
      (tells_or R (tells_map R (tells_silent R is_builtin (implies1 is_builtin is_silent refl)) builtin_case)
      (tells_or R (tells_then R (tells_mark R ArgsWord refl) (tells_then R {X = Nothing} (tells_silent R is_dot (implies1 is_dot is_silent refl)) (tells_silent R is_word (implies1 is_word is_silent refl)) silent_both) field_case)
      (tells_or R (tells_then R (tells_mark R OpenParen refl) (tells_until R CloseParen refl one_value) paren_case)
      (tells_or R (tells_then R (tells_silent R is_step (implies1 is_step is_silent refl)) (calls Assignable) prefix_case)
      (tells_or R (tells_then R (calls Keyed) (tells_optional R (tells_silent R is_step (implies1 is_step is_silent refl))) map_operand_case)
      (tells_then R (tells_silent R (is VarName) (implies1 (is VarName) is_silent refl)) (tells_optional R (tells_silent R is_step (implies1 is_step is_silent refl))) var_operand_case)))))))

  pub tells_Unary : Tells R (rule Unary) (Says expr_mentions)
  tells_Unary = tells_or R (tells_then R (tells_silent R is_prefix (implies1 is_prefix is_silent refl)) (calls Unary) unary_case) (calls Primary)

  pub tells_Level : (p : Bool) (tier : Tier) → Tells R (rule (Level p tier)) (Says expr_mentions)
  tells_Level p tier = tells_chain R (operand_tells p tier) (tells_op R (joins_silent p tier) (operand_tells p tier)) binary_case

  pub tells_Expression : (p : Bool) → Tells R (rule (Expression p)) (Says expr_mentions)
  tells_Expression p = tells_then R (calls (Level p OrElses))
      (tells_optional R (tells_op R {W = TwoValues} (λ c b h. implies1 (is Question) is_silent refl c h)
      (tells_then R (tells_until R Colon refl one_value) (calls (Expression p)) (λ y z a b ea eb. both (expr_mentions y) (expr_mentions z) a b ea eb)))) choose_case

  pub tells_Values : Tells R (rule Values) (Says values_mentions)
  tells_Values = tells_chain R (tells_map R one_value (single_case expr_mentions)) (tells_comma R one_value) (snoc_case expr_mentions)

  pub tells_Keyed : Tells R (rule Keyed) (Says map_mentions)
  tells_Keyed = tells_then R (tells_map_name R) (tells_or R (tells_second R OpenBracket refl (tells_until R CloseBracket refl (calls Values))) (tells_empty R [] {V = Says values_mentions} refl)) keyed_case

  pub tells_Assignable : Tells R (rule Assignable) (Says target_mentions)
  tells_Assignable = tells_or R (tells_map R (calls Keyed) (λ r m e. ap (map plain) (trees.target_Map r) ∙ e))
      (tells_map R (tells_silent R (is VarName) (implies1 (is VarName) is_silent refl)) (λ t m e. ap (map plain) (trees.target_Var (var_ref t)) ∙ sym e))

  pub tells_Int : Tells R (rule Int) Nothing
  tells_Int = tells_or R one_number (tells_map R (tells_second R (Operator Sub) refl one_number) (λ n m e. e))

  pub tells_Aggregation : Tells R (rule Aggregation) (Says (λ a. agg_mentions a.0))
  tells_Aggregation =
      tells_or R (tells_then R (tells_mark R CountWord refl) no_arguments (λ p q x y ex ey. sym (silent_both p q x y ex ey)))
      (tells_or R (tells_then R (tells_silent R gathers (implies1 gathers is_silent refl)) (tells_parens R one_value) gather_case)
      (tells_then R (tells_mark R LhistWord refl) (tells_parens R (tells_then R {X = FirstValue} (tells_until R Comma refl one_value)
      (tells_then R {X = Nothing} (tells_until R Comma refl (calls Int)) (tells_then R {X = Nothing} (tells_until R Comma refl (calls Int)) (calls Int) silent_both) silent_both)
      (λ e ints x y ex ey. behind_it (expr_mentions e) x y ex ey))) lhist_case))

  pub tells_Update : Tells R (rule Update) OnTarget
  tells_Update = tells_or R (tells_then R (tells_silent R is_update (implies1 is_update is_silent refl)) one_value update_case) (tells_map R (tells_silent R is_step (implies1 is_step is_silent refl)) step_case)

  pub tells_AfterMap : Tells R (rule AfterMap) OnMap
  tells_AfterMap = tells_or R (tells_second R Assign refl (tells_or R (tells_map R (calls Aggregation) gather_map_case) (tells_map R one_value set_map_case))) (tells_map R (calls Update) on_map_case)

  pub tells_AfterVar : Tells R (rule AfterVar) OnVar
  tells_AfterVar = tells_or R (tells_then R (tells_mark R Assign refl) one_value set_var_case) (tells_map R (calls Update) on_var_case)

  pub tells_Printf : Tells R (rule Printf) (Says statement_mentions)
  tells_Printf = tells_parens R (tells_then R (tells_text R) (tells_chain R (tells_empty R [] {V = Says values_mentions} refl) (tells_comma R one_value) (snoc_case expr_mentions)) printf_case)

  pub tells_Print : Tells R (rule Print) (Says statement_mentions)
  tells_Print = tells_parens R (tells_then R (tells_map_name R)
      (tells_or R (tells_then R (tells_comma R one_number) (tells_optional R (tells_comma R one_number)) limits_case) (tells_empty R (None, None) {V = Nothing} refl)) print_case)

  pub tells_Delete : Tells R (rule Delete) (Says statement_mentions)
  tells_Delete = tells_second R OpenParen refl (tells_then R (tells_map_name R)
      (tells_or R (tells_map R (tells_mark R CloseParen refl) delete_all_case)
      (tells_or R (tells_then R (tells_mark R OpenBracket refl) (tells_until R CloseParen refl (tells_until R CloseBracket refl (calls Values))) delete_keyed_case)
      (tells_then R (tells_mark R Comma refl) (tells_until R CloseParen refl one_value) delete_key_case))) on_item_case)

  pub tells_CallOrJump : Tells R (rule CallOrJump) (Says stmt_mentions)
  tells_CallOrJump =
      tells_or R (tells_then R (tells_mark R PrintfWord refl) (calls Printf) call_case)
      (tells_or R (tells_then R (tells_mark R PrintWord refl) (calls Print) call_case)
      (tells_or R (tells_then R (tells_mark R ClearWord refl) (tells_parens R (tells_map R (tells_map_name R) clear_case)) call_case)
      (tells_or R (tells_then R (tells_mark R ZeroWord refl) (tells_parens R (tells_map R (tells_map_name R) zero_case)) call_case)
      (tells_or R (tells_then R (tells_mark R DeleteWord refl) (calls Delete) call_case)
      (tells_or R (tells_then R (tells_mark R ExitWord refl) no_arguments (λ p q x y ex ey. jump_case p stmts.Exit trees.Exit_statement (x ++ y) (silent_both p q x y ex ey)))
      (tells_or R (tells_map R (tells_mark R BreakWord refl) (λ p m e. jump_case p stmts.Break trees.Break_statement m e))
      (tells_or R (tells_map R (tells_mark R ContinueWord refl) (λ p m e. jump_case p stmts.Continue trees.Continue_statement m e))
      (tells_map R (tells_mark R ReturnWord refl) (λ p m e. jump_case p stmts.Return trees.Return_statement m e)))))))))

  pub tells_Simple : Tells R (rule Simple) (Says stmt_mentions)
  tells_Simple =
      tells_or R (tells_then R (calls Keyed) (calls AfterMap) map_stmt_case)
      (tells_or R (tells_then R (tells_silent R (is VarName) (implies1 (is VarName) is_silent refl)) (calls AfterVar) var_stmt_case)
      (tells_or R (tells_then R (tells_silent R is_step (implies1 is_step is_silent refl)) (calls Assignable) step_stmt_case) (calls CallOrJump)))

  pub tells_Arm : Tells R (rule Arm) (Says arm_mentions)
  tells_Arm = tells_then R (tells_parens R one_value) (calls Braced) arm_case

  pub tells_Tail : Tells R (rule Tail) (Says tail_mentions)
  tells_Tail = tells_or R (tells_second R ElseWord refl (tells_or R (tells_then R (tells_second R IfWord refl (calls Arm)) (calls Tail) more_arms_case) (tells_map R (calls Braced) (λ b m e. e))))
      (tells_empty R ([], None) {V = Says tail_mentions} refl)

  pub tells_Control : Tells R (rule Control) (Says stmt_mentions)
  tells_Control =
      tells_or R (tells_then R (tells_mark R IfWord refl) (tells_then R {X = λ all m. map plain (tail_mentions (more_arms all.0 all.1)) ≡ m} (calls Arm) (calls Tail) more_arms_case) if_case)
      (tells_or R (tells_then R (tells_mark R WhileWord refl) (calls Arm) while_case)
      (tells_then R (tells_mark R UnrollWord refl) (tells_then R {X = Says (λ a. block_mentions a.1)} (tells_parens R one_number) (calls Braced) turns_case) unroll_case))

  pub tells_Body : Tells R (rule Body) (Says body_mentions)
  tells_Body =
      tells_or R (tells_map R (tells_mark R CloseBrace refl) (λ p m e. sym e))
      (tells_or R (tells_then R (calls Control) (calls Body) (cons_case stmt_mentions))
      (tells_then R (calls Simple) (tells_or R (tells_second R Semicolon refl (calls Body)) (tells_map R {W = Says body_mentions} (tells_mark R CloseBrace refl) (λ p m e. sym e))) (cons_case stmt_mentions)))

  pub tells_Braced : Tells R (rule Braced) (Says block_mentions)
  tells_Braced = tells_then R (tells_mark R OpenBrace refl) (calls Body) block_case

  pub tells_Points : Tells R (rule Points) Nothing
  tells_Points = tells_chain R (tells_map R (tells_silent R is_point (implies1 is_point is_silent refl)) (λ t m e. e))
      (tells_comma R (tells_map R {W = Nothing} (tells_silent R is_point (implies1 is_point is_silent refl)) (λ t m e. e))) silent_both

  pub tells_OneProbe : Tells R (rule OneProbe) (Says probe_mentions)
  tells_OneProbe = tells_then R (calls Points) (tells_then R (tells_optional R (tells_second R (Operator Div) refl (tells_until R (Operator Div) refl (calls (Expression true))))) (calls Braced) behind_points_case) probe_case

  pub tells_WholeScript : Tells R (rule WholeScript) (Says probes_mentions)
  tells_WholeScript = tells_chain R (tells_map R (calls OneProbe) (single_case probe_mentions)) (calls OneProbe) (snoc_case probe_mentions)

rules : (d : ℕ) → ((n : Part) → Tells (whole_at d) (Call n) (Value n)) → (n : Part) → Tells (whole_at d) (rule n) (Value n)
rules d calls Primary = tells_Primary (whole_at d) calls
rules d calls Unary = tells_Unary (whole_at d) calls
rules d calls (Level p tier) = tells_Level (whole_at d) calls p tier
rules d calls (Expression p) = tells_Expression (whole_at d) calls p
rules d calls Values = tells_Values (whole_at d) calls
rules d calls Keyed = tells_Keyed (whole_at d) calls
rules d calls Assignable = tells_Assignable (whole_at d) calls
rules d calls Int = tells_Int (whole_at d) calls
rules d calls Aggregation = tells_Aggregation (whole_at d) calls
rules d calls Update = tells_Update (whole_at d) calls
rules d calls AfterMap = tells_AfterMap (whole_at d) calls
rules d calls AfterVar = tells_AfterVar (whole_at d) calls
rules d calls Printf = tells_Printf (whole_at d) calls
rules d calls Print = tells_Print (whole_at d) calls
rules d calls Delete = tells_Delete (whole_at d) calls
rules d calls CallOrJump = tells_CallOrJump (whole_at d) calls
rules d calls Simple = tells_Simple (whole_at d) calls
rules d calls Arm = tells_Arm (whole_at d) calls
rules d calls Tail = tells_Tail (whole_at d) calls
rules d calls Control = tells_Control (whole_at d) calls
rules d calls Body = tells_Body (whole_at d) calls
rules d calls Braced = tells_Braced (whole_at d) calls
rules d calls Points = tells_Points (whole_at d) calls
rules d calls OneProbe = tells_OneProbe (whole_at d) calls
rules d calls WholeScript = tells_WholeScript (whole_at d) calls

pub tells_part : (d : ℕ) (n : Part) → Tells (whole_at d) (Call n) (Value n)
tells_part zero n = record { tell = λ ts a w. absurd w }
tells_part (suc d) n = record { tell = (rules d (tells_part d) n).tell }
