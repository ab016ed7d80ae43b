-- What a statement of one line was read of can be written again.
use Rattle.std.proofs.Common.{◌≡◌, ℕ, ℤ, Bool, true, false, List, [], ◌++◌, Option, Some, None, refl, ap, sym, ◌∙◌, append_assoc}
use Rattle.std.specs.Prelude.{codes, map}
use Rattle.std.proofs.lemmas.List.{append-nil}
use Rattle.std.proofs.lemmas.Bool.{false≢true}
use Rattle.bt_core.specs.declared.operator.BinOp.{BinOp}
use Rattle.bt_core.specs.declared.operator.BinOp.TheVariants as ops
use Rattle.bt_core.specs.declared.place.Place.{Place}
use Rattle.bt_ast.specs.declared.expr.Expr.{Expr}
use Rattle.bt_ast.specs.declared.expr.MapRef.{MapRef, roll-MapRef}
use Rattle.bt_ast.specs.declared.expr.VarRef.{VarRef}
use Rattle.bt_ast.specs.declared.expr.IncDec.{roll-IncDec}
use Rattle.bt_ast.specs.declared.expr.Target.{Target}
use Rattle.bt_ast.specs.declared.expr.Target.TheVariants as targets
use Rattle.bt_ast.specs.declared.stmt.AggCall.{AggCall}
use Rattle.bt_ast.specs.declared.stmt.AggCall.TheVariants as aggs
use Rattle.bt_ast.specs.declared.stmt.StmtKind.{StmtKind}
use Rattle.bt_ast.specs.declared.stmt.StmtKind.TheVariants as stmts
use Rattle.ast_text.specs.Words.{token, number_text, assign_mark}
use Rattle.ast_text.specs.Exprs.{expr_text, target_text, map_text, marked, key_text}
use Rattle.ast_text.specs.Stmts.{call_text, simple, agg_text, optional_text, kind_text}
use Rattle.bt_ast.specs.declared.gathering.Gathering.{Gathering}
use Rattle.bt_ast.specs.declared.gathering.Gathering.TheVariants.{Sum}
use Rattle.bt_grammar.specs.declared.class.Class.{Class}
use Rattle.bt_grammar.specs.declared.class.Class.TheVariants.{CountWord, LhistWord, PrintfWord, PrintWord, ClearWord, ZeroWord, DeleteWord, ExitWord, BreakWord, ContinueWord, ReturnWord, MapName, VarName, TextLiteral, Increment, OpenParen, CloseParen, OpenBracket, CloseBracket, Comma, Assign, GatherWord, UpdateMark}
use Rattle.bt_grammar.specs.Classes.{is, is_update, update_of, is_step, gathers}
use Rattle.bt_grammar.specs.Form.{Item, Part, Expression, Values, Keyed, Assignable, Int, Aggregation, Update, AfterMap, AfterVar, Printf, Print, Delete, CallOrJump, Simple, Call, Rel}
use Rattle.bt_grammar.specs.Words.{word_of, mark_of}
use Rattle.bt_grammar.specs.Tokens.{origin}
use Rattle.bt_grammar.specs.Trees.{bytes_at, kind_bytes, snoc, place_of_map, var_ref, map_ref, step_before, step_after, stmt, gathering, count_call, gather_call, lhist_call, update_target, place_of_target, step_target, gather_map, set_map, on_map, set_var, on_var, map_stmt, var_stmt, step_stmt, printf_kind, print_kind, top_and_div, clear_kind, zero_kind, delete_all, delete_keyed, delete_key, on_item, exit_stmt, break_stmt, continue_stmt, return_stmt}
use Rattle.bt_grammar.specs.Rules.{rule, empty_parens}
use Rattle.read_back_laws.specs.Bare.{bare_expr, bare_target, bare_map, bare_agg, bare_statement, bare_stmt}
use Rattle.bt_grammar.proofs.AllClasses.{implies1}
use Rattle.read_back_laws.proofs.BareExprs.{map_target_text, var_target_text, map_ref_text, map_ref_bare, step_text_is, step_bare_is}
use Rattle.read_back_laws.proofs.BareStmts.{SetAgg_text, SetAgg_bare, Assign_text, Assign_bare, Step_text, Step_bare, Printf_text, Printf_bare, Print_text, Print_bare, Clear_text, Clear_bare, Zero_text, Zero_bare, Delete_text, Delete_bare, DeleteKey_text, DeleteKey_bare, Exit_text, Break_text, Continue_text, Return_text, stmt_text_is, stmt_bare_is}
use Rattle.read_back_laws.proofs.Lexemes.{lexeme}
use Rattle.read_back_laws.proofs.LexemesFixed.{kind_of, is_fixed}
use Rattle.read_back_laws.proofs.CanonicalForms.{Back, Lift, Behind, Before, Parens, Both, Maybe, Kept, Fixed, Marked, lift_kept, lift_fixed, lift_mark, lift_empty, lift_map, lift_then, lift_or, lift_until, lift_chain, lift_as, lift_optional, lift_pair, lift_second, lift_parens, lift_comma}
use Rattle.read_back_laws.proofs.CanonicalValues.{IsExpr, IsValues, IsMapRef, IsTarget, IsInt, IsAgg, IsUpdate, IsAfterMap, IsAfterVar, IsCall, IsSimple, Value}
use Rattle.read_back_laws.proofs.CanonicalNumbers.{lift_number}
use Rattle.read_back_laws.proofs.CanonicalExprs.{joined_by, map_lexeme, var_lexeme, text_lexeme, same_var, step_lexeme, map_targets, var_targets, bare_inc, commas_snoc, snoc_same, keys_case}

-- ---- aggregations

count_case : (p q p' q' : Place) (x y : List ℕ) → Marked (token (codes "count")) p x q → Behind (token (codes "(")) (Marked (token (codes ")"))) p' y q' → IsAgg (count_call p p') (x ++ y) (count_call q q')
count_case p q p' q' x y ex (z, ey, ez) = (joined_by ex (ey ∙ ap (λ (l : List ℕ). token (codes "(") ++ l) ez), refl)

gather_lexeme : (c : Class) → gathers c ≡ true → (e : Expr) → lexeme (kind_of c) ++ (token (codes "(") ++ (expr_text e ++ token (codes ")"))) ≡ agg_text (gathering c e)
unfolding word_of
gather_lexeme (GatherWord g) h e = by g
  where
    by : (x : Gathering) → lexeme (kind_of (GatherWord x)) ++ (token (codes "(") ++ (expr_text e ++ token (codes ")"))) ≡ agg_text (aggs.Gather x e)
    by Sum = refl
    by _ = refl
gather_lexeme _ h e = absurd (false≢true h)

gather_bared : (c : Class) (e : Expr) → bare_agg (gathering c e) ≡ gathering c (bare_expr e)
gather_bared (GatherWord g) e = refl
gather_bared _ e = refl

gather_case : (t u : Item) (e f : Expr) (x y : List ℕ) → Fixed gathers t x u → Parens IsExpr e y f → IsAgg (gather_call t e) (x ++ y) (gather_call u f)
gather_case t u e f x y (ex, ec, q) (z, ey, (ez, eb)) = (
  joined_by ex (ey ∙ ap (λ (l : List ℕ). token (codes "(") ++ (l ++ token (codes ")"))) ez) ∙ gather_lexeme t.class q e,
  gather_bared u.class f ∙ ((λ i. gathering (ec i) (eb i)) ∙ sym (gather_bared t.class e)),
)

abbrev Bounds : Back (Expr × (ℤ × (ℤ × ℤ)))
Bounds = Both (Before (token (codes ",")) IsExpr) (Both (Before (token (codes ",")) IsInt) (Both (Before (token (codes ",")) IsInt) IsInt))

bounds_text : (e c l g s : List ℕ) → (e ++ c) ++ ((l ++ c) ++ ((g ++ c) ++ s)) ≡ e ++ (c ++ (l ++ (c ++ (g ++ (c ++ s)))))
bounds_text e c l g s = append_assoc e c ((l ++ c) ++ ((g ++ c) ++ s)) ∙ ap (λ (z : List ℕ). e ++ (c ++ z)) (append_assoc l c ((g ++ c) ++ s) ∙ ap (λ (z : List ℕ). l ++ (c ++ z)) (append_assoc g c s))

lhist_case : (p q : Place) (a b : Expr × (ℤ × (ℤ × ℤ))) (x y : List ℕ) → Marked (token (codes "lhist")) p x q → Parens Bounds a y b → IsAgg (lhist_call p a) (x ++ y) (lhist_call q b)
lhist_case p q a b x y ex (z, ey, (x1, y1, e1, (w1, f1, (g1, h1)), (x2, y2, e2, (w2, f2, (g2, h2)), (x3, y3, e3, (w3, f3, (g3, h3)), (g4, h4))))) =
    let c : List ℕ = token (codes ",") in
    let at1 : x1 ≡ expr_text a.0 ++ token (codes ",") = f1 ∙ ap (λ (l : List ℕ). l ++ token (codes ",")) g1 in
    let at2 : x2 ≡ number_text a.1.0 ++ token (codes ",") = f2 ∙ ap (λ (l : List ℕ). l ++ token (codes ",")) g2 in
    let at3 : x3 ≡ number_text a.1.1.0 ++ token (codes ",") = f3 ∙ ap (λ (l : List ℕ). l ++ token (codes ",")) g3 in
    let inside = e1 ∙ (joined_by at1 (e2 ∙ joined_by at2 (e3 ∙ joined_by at3 g4)) ∙ bounds_text (expr_text a.0) (token (codes ",")) (number_text a.1.0) (number_text a.1.1.0) (number_text a.1.1.1)) in (
      joined_by ex (ey ∙ ap (λ (l : List ℕ). token (codes "(") ++ (l ++ token (codes ")"))) inside),
      (λ i. aggs.Lhist (h1 i) (h2 i) (h3 i) (h4 i)),
    )

-- ---- assignments

update_lexeme : (c : Class) → is_update c ≡ true → lexeme (kind_of c) ≡ token (assign_mark (update_of c))
unfolding word_of mark_of
update_lexeme (UpdateMark op) h = by op h
  where
    by : (o : BinOp) → is_update (UpdateMark o) ≡ true → lexeme (kind_of (UpdateMark o)) ≡ token (assign_mark (update_of (UpdateMark o)))
    by ops.Eq h = absurd (false≢true h)
    by ops.Ne h = absurd (false≢true h)
    by ops.Lt h = absurd (false≢true h)
    by ops.Le h = absurd (false≢true h)
    by ops.Gt h = absurd (false≢true h)
    by ops.Ge h = absurd (false≢true h)
    by _ h = refl
update_lexeme _ h = absurd (false≢true h)

update_case : (m n : Item) (e f : Expr) (x y : List ℕ) → Fixed is_update m x n → IsExpr e y f → IsUpdate (update_target m e) (x ++ y) (update_target n f)
update_case m n e f x y (ex, ec, q) (ey, eb) = λ t u et. (
  ap (λ (z : List ℕ). simple (target_text t ++ z)) (joined_by (ex ∙ update_lexeme m.class q) ey) ∙ sym (Assign_text t (update_of m.class) e),
  Assign_bare u (update_of n.class) f ∙ ((λ i. stmts.Assign (et i) (update_of (ec i)) (eb i)) ∙ sym (Assign_bare t (update_of m.class) e)),
)

inc_bare : (t u : Target) (c d : Class) (before : Bool) (p q : Place) → bare_target u ≡ bare_target t → d ≡ c
    → bare_statement (stmts.Step (roll-IncDec (record { target = u; plus = is Increment d; «prefix» = before; place = q })))
    ≡ bare_statement (stmts.Step (roll-IncDec (record { target = t; plus = is Increment c; «prefix» = before; place = p })))
inc_bare t u c d before p q et ec =
    Step_bare (roll-IncDec (record { target = u; plus = is Increment d; «prefix» = before; place = q })) ∙ (ap stmts.Step (step_bare_is u (is Increment d) before q)
    ∙ ((λ i. stmts.Step (bare_inc (et i) (is Increment (ec i)) before))
    ∙ sym (Step_bare (roll-IncDec (record { target = t; plus = is Increment c; «prefix» = before; place = p })) ∙ ap stmts.Step (step_bare_is t (is Increment c) before p))))

step_case : (m n : Item) (x : List ℕ) → Fixed is_step m x n → IsUpdate (step_target m) x (step_target n)
step_case m n x (ex, ec, q) = λ t u et. (
  ap (λ (z : List ℕ). simple (target_text t ++ z)) (ex ∙ step_lexeme m.class q)
      ∙ sym (Step_text (step_after t (is Increment m.class) (place_of_target t)) ∙ ap simple (step_text_is t (is Increment m.class) false (place_of_target t))),
  inc_bare t u m.class n.class false (place_of_target t) (place_of_target u) et ec,
)

abbrev IsSet : Back (MapRef → StmtKind)
IsSet f x g = (m n : MapRef) → bare_map n ≡ bare_map m → (simple (map_text m ++ (token (codes "=") ++ x)) ≡ kind_text (f m)) × (bare_statement (g n) ≡ bare_statement (f m))

gather_map_case : (a b : AggCall × Place) (x : List ℕ) → IsAgg a x b → IsSet (gather_map a) x (gather_map b)
gather_map_case a b x (ex, eb) = λ m n em. (
  ap (λ (z : List ℕ). simple (map_text m ++ (token (codes "=") ++ z))) ex ∙ sym (SetAgg_text m a.0 a.1),
  SetAgg_bare n b.0 b.1 ∙ ((λ i. stmts.SetAgg (em i) (eb i) origin) ∙ sym (SetAgg_bare m a.0 a.1)),
)

set_map_case : (e f : Expr) (x : List ℕ) → IsExpr e x f → IsSet (set_map e) x (set_map f)
set_map_case e f x (ex, eb) = λ m n em. (
  (λ i. simple (sym (map_target_text m) i ++ (token (codes "=") ++ ex i))) ∙ sym (Assign_text (targets.Map m) None e),
  Assign_bare (targets.Map n) None f ∙ ((λ i. stmts.Assign (map_targets m n em i) None (eb i)) ∙ sym (Assign_bare (targets.Map m) None e)),
)

assign_case : (f g : MapRef → StmtKind) (x : List ℕ) → Behind (token (codes "=")) IsSet f x g → IsAfterMap f x g
assign_case f g x (y, ex, h) = λ m n em. let (e, b) = h m n em in (ap (λ (z : List ℕ). simple (map_text m ++ z)) ex ∙ e, b)

on_map_case : (f g : Target → StmtKind) (x : List ℕ) → IsUpdate f x g → IsAfterMap (on_map f) x (on_map g)
on_map_case f g x h = λ m n em. let (e, b) = h (targets.Map m) (targets.Map n) (map_targets m n em) in
    (ap (λ (z : List ℕ). simple (z ++ x)) (sym (map_target_text m)) ∙ e, b)

set_var_case : (p q : Place) (e f : Expr) (x y : List ℕ) → Marked (token (codes "=")) p x q → IsExpr e y f → IsAfterVar (set_var p e) (x ++ y) (set_var q f)
set_var_case p q e f x y ex (ey, eb) = λ v w ev. (
  (λ i. simple (sym (var_target_text v) i ++ (ex i ++ ey i))) ∙ sym (Assign_text (targets.Var v) None e),
  Assign_bare (targets.Var w) None f ∙ ((λ i. stmts.Assign (var_targets v w ev i) None (eb i)) ∙ sym (Assign_bare (targets.Var v) None e)),
)

on_var_case : (f g : Target → StmtKind) (x : List ℕ) → IsUpdate f x g → IsAfterVar (on_var f) x (on_var g)
on_var_case f g x h = λ v w ev. let (e, b) = h (targets.Var v) (targets.Var w) (var_targets v w ev) in
    (ap (λ (z : List ℕ). simple (z ++ x)) (sym (var_target_text v)) ∙ e, b)

-- ---- calls

-- a statement by what stands in its parentheses
abbrev IsInside : List ℕ → Back StmtKind
IsInside word k x l = (simple (call_text word x) ≡ kind_text k) × (bare_statement l ≡ bare_statement k)

parens_case : (word : List ℕ) (k l : StmtKind) (x : List ℕ) → Parens (IsInside word) k x l → IsCall word k x l
parens_case word k l x (y, ex, (e, b)) = (ap (λ (z : List ℕ). simple (token word ++ z)) ex ∙ e, b)

abbrev IsMore : Back (List Expr)
IsMore es x fs = (x ≡ marked (codes ",") (map expr_text es)) × (map bare_expr fs ≡ map bare_expr es)

more_case : (es fs : List Expr) (e f : Expr) (x y : List ℕ) → IsMore es x fs → Behind (token (codes ",")) IsExpr e y f → IsMore (snoc es e) (x ++ y) (snoc fs f)
more_case es fs e f x y (ex, eb) (z, ey, (ez, ef)) =
    (joined_by ex (ey ∙ ap (λ (l : List ℕ). token (codes ",") ++ l) ez) ∙ sym (commas_snoc es e), snoc_same bare_expr es fs e f eb ef)

printf_case : (t u : Item) (es fs : List Expr) (x y : List ℕ) → Kept (is TextLiteral) t x u → IsMore es y fs → IsInside (codes "printf") (printf_kind t es) (x ++ y) (printf_kind u fs)
printf_case t u es fs x y k (ey, eb) = (
  ap (λ (z : List ℕ). simple (call_text (codes "printf") z)) (joined_by (text_lexeme t u x k) ey) ∙ sym (Printf_text (bytes_at t) t.place es),
  Printf_bare (bytes_at u) u.place fs ∙ ((λ i. stmts.Printf (ap kind_bytes k.1 i) origin (eb i)) ∙ sym (Printf_bare (bytes_at t) t.place es)),
)

-- a map that is named as a whole
lone_text : (t : Item) → token (bytes_at t) ≡ map_text (map_ref t [])
lone_text t = sym (append-nil (token (bytes_at t))) ∙ sym (map_ref_text (bytes_at t) [] t.place)

lone_bare : (t u : Item) (es fs : List Expr) → u.kind ≡ t.kind → map bare_expr fs ≡ map bare_expr es → bare_map (map_ref u fs) ≡ bare_map (map_ref t es)
lone_bare t u es fs ek eb = map_ref_bare (bytes_at u) fs u.place ∙ ((λ i. roll-MapRef (record { name = kind_bytes (ek i); keys = eb i; place = origin })) ∙ sym (map_ref_bare (bytes_at t) es t.place))

abbrev pub IsCount : Back ℤ
IsCount n x m = (x ≡ number_text n) × (m ≡ n)

abbrev IsLimits : Back (Option ℤ × Option ℤ)
IsLimits l x m = (x ≡ optional_text l.0 ++ optional_text l.1) × (m ≡ l)

limits_case : (n m : ℤ) (o p : Option ℤ) (x y : List ℕ) → Behind (token (codes ",")) IsCount n x m → Maybe (Behind (token (codes ",")) IsCount) o y p → IsLimits (top_and_div n o) (x ++ y) (top_and_div m p)
limits_case n m None p x y (z, ex, (ez, en)) (ey, ep) = (joined_by (ex ∙ ap (λ (l : List ℕ). token (codes ",") ++ l) ez) ey, (λ i. (Some (en i), ep i)))
limits_case n m (Some k) p x y (z, ex, (ez, en)) (j, ep, (w, ey, (ew, ek))) =
    (joined_by (ex ∙ ap (λ (l : List ℕ). token (codes ",") ++ l) ez) (ey ∙ ap (λ (l : List ℕ). token (codes ",") ++ l) ew), (λ i. (Some (en i), (ep ∙ ap Some ek) i)))

print_case : (t u : Item) (l m : Option ℤ × Option ℤ) (x y : List ℕ) → Kept (is MapName) t x u → IsLimits l y m → IsInside (codes "print") (print_kind t l) (x ++ y) (print_kind u m)
print_case t u l m x y k (ey, eb) = (
  ap (λ (z : List ℕ). simple (call_text (codes "print") z)) (joined_by (map_lexeme t u x k ∙ lone_text t) ey) ∙ sym (Print_text (map_ref t []) l.0 l.1),
  Print_bare (map_ref u []) m.0 m.1 ∙ ((λ i. stmts.Print (lone_bare t u [] [] k.1 refl i) (eb i).0 (eb i).1) ∙ sym (Print_bare (map_ref t []) l.0 l.1)),
)

clear_case : (t u : Item) (x : List ℕ) → Kept (is MapName) t x u → IsInside (codes "clear") (clear_kind t) x (clear_kind u)
clear_case t u x k = (
  ap (λ (z : List ℕ). simple (call_text (codes "clear") z)) (map_lexeme t u x k ∙ lone_text t) ∙ sym (Clear_text (map_ref t [])),
  Clear_bare (map_ref u []) ∙ (ap stmts.Clear (lone_bare t u [] [] k.1 refl) ∙ sym (Clear_bare (map_ref t []))),
)

zero_case : (t u : Item) (x : List ℕ) → Kept (is MapName) t x u → IsInside (codes "zero") (zero_kind t) x (zero_kind u)
zero_case t u x k = (
  ap (λ (z : List ℕ). simple (call_text (codes "zero") z)) (map_lexeme t u x k ∙ lone_text t) ∙ sym (Zero_text (map_ref t [])),
  Zero_bare (map_ref u []) ∙ (ap stmts.Zero (lone_bare t u [] [] k.1 refl) ∙ sym (Zero_bare (map_ref t []))),
)

-- what stands behind the map of `delete`
abbrev IsDeleted : Back (Item → StmtKind)
IsDeleted f x g = (t u : Item) → u.kind ≡ t.kind → (simple (token (codes "delete") ++ (token (codes "(") ++ (token (bytes_at t) ++ x))) ≡ kind_text (f t)) × (bare_statement (g u) ≡ bare_statement (f t))

abbrev IsOpened : Back StmtKind
IsOpened k x l = (simple (token (codes "delete") ++ (token (codes "(") ++ x)) ≡ kind_text k) × (bare_statement l ≡ bare_statement k)

abbrev deleted : List ℕ → List ℕ
deleted x = simple (token (codes "delete") ++ (token (codes "(") ++ x))

all_case : (p q : Place) (x : List ℕ) → Marked (token (codes ")")) p x q → IsDeleted (delete_all p) x (delete_all q)
all_case p q x ex = λ t u ek. (
  ap deleted (joined_by (lone_text t) ex) ∙ sym (Delete_text (map_ref t [])),
  Delete_bare (map_ref u []) ∙ (ap stmts.Delete (lone_bare t u [] [] ek refl) ∙ sym (Delete_bare (map_ref t []))),
)

delete_keyed_case : (p q : Place) (es fs : List Expr) (x y : List ℕ) → Marked (token (codes "[")) p x q → Before (token (codes ")")) (Before (token (codes "]")) IsValues) es y fs → IsDeleted (delete_keyed p es) (x ++ y) (delete_keyed q fs)
delete_keyed_case p q es fs x y ex (z, ey, (w, ez, values)) = λ t u ek.
    let (keys, eb) = keys_case es fs (token (codes "[") ++ (w ++ token (codes "]"))) (w ++ token (codes "]"), refl, (w, refl, values)) in
    let whole_key : x ++ y ≡ key_text (map expr_text es) ++ token (codes ")") =
    joined_by ex (ey ∙ ap (λ (l : List ℕ). l ++ token (codes ")")) ez) ∙ (sym (append_assoc (token (codes "[")) (w ++ token (codes "]")) (token (codes ")"))) ∙ ap (λ (l : List ℕ). l ++ token (codes ")")) keys) in (
      ap (λ (l : List ℕ). deleted (token (bytes_at t) ++ l)) whole_key
          ∙ (ap deleted (sym (append_assoc (token (bytes_at t)) (key_text (map expr_text es)) (token (codes ")"))) ∙ ap (λ (l : List ℕ). l ++ token (codes ")")) (sym (map_ref_text (bytes_at t) es t.place)))
          ∙ sym (Delete_text (map_ref t es))),
      Delete_bare (map_ref u fs) ∙ (ap stmts.Delete (lone_bare t u es fs ek eb) ∙ sym (Delete_bare (map_ref t es))),
    )

delete_key_case : (p q : Place) (e f : Expr) (x y : List ℕ) → Marked (token (codes ",")) p x q → Before (token (codes ")")) IsExpr e y f → IsDeleted (delete_key p e) (x ++ y) (delete_key q f)
delete_key_case p q e f x y ex (z, ey, (ez, eb)) = λ t u ek. (
  ap deleted (joined_by (lone_text t) (joined_by ex (ey ∙ ap (λ (l : List ℕ). l ++ token (codes ")")) ez) ∙ sym (append_assoc (token (codes ",")) (expr_text e) (token (codes ")")))) ∙ sym (append_assoc (map_text (map_ref t [])) (token (codes ",") ++ expr_text e) (token (codes ")"))))
      ∙ sym (DeleteKey_text (map_ref t []) e),
  DeleteKey_bare (map_ref u []) f ∙ ((λ i. stmts.DeleteKey (lone_bare t u [] [] ek refl i) (eb i)) ∙ sym (DeleteKey_bare (map_ref t []) e)),
)

on_item_case : (t u : Item) (f g : Item → StmtKind) (x y : List ℕ) → Kept (is MapName) t x u → IsDeleted f y g → IsOpened (on_item t f) (x ++ y) (on_item u g)
on_item_case t u f g x y k h = let (e, b) = h t u k.1 in (ap (λ (l : List ℕ). deleted (l ++ y)) (map_lexeme t u x k) ∙ e, b)

delete_case : (k l : StmtKind) (x : List ℕ) → Behind (token (codes "(")) IsOpened k x l → IsCall (codes "delete") k x l
delete_case k l x (y, ex, (e, b)) = (ap (λ (z : List ℕ). simple (token (codes "delete") ++ z)) ex ∙ e, b)

-- ---- statements

pub stmts_same : (p q : Place) (k l : StmtKind) → bare_statement l ≡ bare_statement k → bare_stmt (stmt q l) ≡ bare_stmt (stmt p k)
stmts_same p q k l e = stmt_bare_is q l ∙ (ap (stmt origin) e ∙ sym (stmt_bare_is p k))

call_case : (word : List ℕ) (p q : Place) (k l : StmtKind) (x y : List ℕ) → Marked (token word) p x q → IsCall word k y l → IsSimple (stmt p k) (x ++ y) (stmt q l)
call_case word p q k l x y ex (e, b) = (ap (λ (z : List ℕ). simple (z ++ y)) ex ∙ (e ∙ sym (stmt_text_is p k)), stmts_same p q k l b)

exit_case : (p q p' q' : Place) (x y : List ℕ) → Marked (token (codes "exit")) p x q → Behind (token (codes "(")) (Marked (token (codes ")"))) p' y q' → IsSimple (exit_stmt p p') (x ++ y) (exit_stmt q q')
exit_case p q p' q' x y ex (z, ey, ez) =
    (ap simple (joined_by ex (ey ∙ ap (λ (l : List ℕ). token (codes "(") ++ l) ez)) ∙ (sym Exit_text ∙ sym (stmt_text_is p stmts.Exit)), stmts_same p q stmts.Exit stmts.Exit refl)

break_case : (p q : Place) (x : List ℕ) → Marked (token (codes "break")) p x q → IsSimple (break_stmt p) x (break_stmt q)
break_case p q x ex = (ap simple ex ∙ (sym Break_text ∙ sym (stmt_text_is p stmts.Break)), stmts_same p q stmts.Break stmts.Break refl)

continue_case : (p q : Place) (x : List ℕ) → Marked (token (codes "continue")) p x q → IsSimple (continue_stmt p) x (continue_stmt q)
continue_case p q x ex = (ap simple ex ∙ (sym Continue_text ∙ sym (stmt_text_is p stmts.Continue)), stmts_same p q stmts.Continue stmts.Continue refl)

return_case : (p q : Place) (x : List ℕ) → Marked (token (codes "return")) p x q → IsSimple (return_stmt p) x (return_stmt q)
return_case p q x ex = (ap simple ex ∙ (sym Return_text ∙ sym (stmt_text_is p stmts.Return)), stmts_same p q stmts.Return stmts.Return refl)

map_stmt_case : (m n : MapRef) (f g : MapRef → StmtKind) (x y : List ℕ) → IsMapRef m x n → IsAfterMap f y g → IsSimple (map_stmt m f) (x ++ y) (map_stmt n g)
map_stmt_case m n f g x y (ex, eb) h = let (e, b) = h m n eb in
    (ap (λ (z : List ℕ). simple (z ++ y)) ex ∙ (e ∙ sym (stmt_text_is (place_of_map m) (f m))), stmts_same (place_of_map m) (place_of_map n) (f m) (g n) b)

var_stmt_case : (t u : Item) (f g : VarRef → StmtKind) (x y : List ℕ) → Kept (is VarName) t x u → IsAfterVar f y g → IsSimple (var_stmt t f) (x ++ y) (var_stmt u g)
var_stmt_case t u f g x y k h = let (e, b) = h (var_ref t) (var_ref u) (same_var t u k.1) in
    (ap (λ (z : List ℕ). simple (z ++ y)) (var_lexeme t u x k) ∙ (e ∙ sym (stmt_text_is t.place (f (var_ref t)))), stmts_same t.place u.place (f (var_ref t)) (g (var_ref u)) b)

step_stmt_case : (t u : Item) (a b : Target) (x y : List ℕ) → Fixed is_step t x u → IsTarget a y b → IsSimple (step_stmt t a) (x ++ y) (step_stmt u b)
step_stmt_case t u a b x y (ex, ec, q) (ey, eb) = (
  ap simple (joined_by (ex ∙ step_lexeme t.class q) ey) ∙ sym (stmt_text_is t.place (stmts.Step (step_before t a)) ∙ (Step_text (step_before t a) ∙ ap simple (step_text_is a (is Increment t.class) true t.place))),
  stmts_same t.place u.place (stmts.Step (step_before t a)) (stmts.Step (step_before u b)) (inc_bare a b t.class u.class true t.place u.place eb ec),
)

-- ---- the parts

module _ (R : Rel) (calls : (n : Part) → Lift R (Call n) (Value n)) where
  no_arguments : Lift R empty_parens (Behind (token (codes "(")) (Marked (token (codes ")"))))
  no_arguments = lift_second R OpenParen refl (lift_mark R CloseParen refl)

  pub lift_Aggregation : Lift R (rule Aggregation) IsAgg
  lift_Aggregation =
      lift_or R (lift_then R (lift_mark R CountWord refl) no_arguments count_case)
      (lift_or R (lift_then R (lift_fixed R gathers (implies1 gathers is_fixed refl)) (lift_parens R (calls (Expression false))) gather_case)
      (lift_then R (lift_mark R LhistWord refl) (lift_parens R (lift_pair R (lift_until R Comma refl (calls (Expression false)))
      (lift_pair R (lift_until R Comma refl (calls Int)) (lift_pair R (lift_until R Comma refl (calls Int)) (calls Int))))) lhist_case))

  pub lift_Update : Lift R (rule Update) IsUpdate
  lift_Update = lift_or R (lift_then R (lift_fixed R is_update (implies1 is_update is_fixed refl)) (calls (Expression false)) update_case)
      (lift_map R (lift_fixed R is_step (implies1 is_step is_fixed refl)) step_case)

  pub lift_AfterMap : Lift R (rule AfterMap) IsAfterMap
  lift_AfterMap = lift_or R (lift_as R (lift_second R Assign refl (lift_or R (lift_map R (calls Aggregation) gather_map_case) (lift_map R (calls (Expression false)) set_map_case))) assign_case)
      (lift_map R (calls Update) on_map_case)

  pub lift_AfterVar : Lift R (rule AfterVar) IsAfterVar
  lift_AfterVar = lift_or R (lift_then R (lift_mark R Assign refl) (calls (Expression false)) set_var_case) (lift_map R (calls Update) on_var_case)

  pub lift_Printf : Lift R (rule Printf) (IsCall (codes "printf"))
  lift_Printf = lift_as R (lift_parens R (lift_then R (lift_kept R (is TextLiteral))
      (lift_chain R (lift_empty R [] {V = IsMore} (refl, refl)) (lift_comma R (calls (Expression false))) more_case) printf_case)) (parens_case (codes "printf"))

  pub lift_Print : Lift R (rule Print) (IsCall (codes "print"))
  lift_Print = lift_as R (lift_parens R (lift_then R (lift_kept R (is MapName))
      (lift_or R (lift_then R (lift_comma R (lift_number R)) (lift_optional R (lift_comma R (lift_number R))) limits_case) (lift_empty R (None, None) {V = IsLimits} (refl, refl))) print_case)) (parens_case (codes "print"))

  pub lift_Delete : Lift R (rule Delete) (IsCall (codes "delete"))
  lift_Delete = lift_as R (lift_second R OpenParen refl (lift_then R (lift_kept R (is MapName))
      (lift_or R (lift_map R (lift_mark R CloseParen refl) all_case)
      (lift_or R (lift_then R (lift_mark R OpenBracket refl) (lift_until R CloseParen refl (lift_until R CloseBracket refl (calls Values))) delete_keyed_case)
      (lift_then R (lift_mark R Comma refl) (lift_until R CloseParen refl (calls (Expression false))) delete_key_case))) on_item_case)) delete_case

  pub lift_CallOrJump : Lift R (rule CallOrJump) IsSimple
  lift_CallOrJump =
      lift_or R (lift_then R (lift_mark R PrintfWord refl) (calls Printf) (call_case (codes "printf")))
      (lift_or R (lift_then R (lift_mark R PrintWord refl) (calls Print) (call_case (codes "print")))
      (lift_or R (lift_then R (lift_mark R ClearWord refl) (lift_as R (lift_parens R (lift_map R (lift_kept R (is MapName)) clear_case)) (parens_case (codes "clear"))) (call_case (codes "clear")))
      (lift_or R (lift_then R (lift_mark R ZeroWord refl) (lift_as R (lift_parens R (lift_map R (lift_kept R (is MapName)) zero_case)) (parens_case (codes "zero"))) (call_case (codes "zero")))
      (lift_or R (lift_then R (lift_mark R DeleteWord refl) (calls Delete) (call_case (codes "delete")))
      (lift_or R (lift_then R (lift_mark R ExitWord refl) no_arguments exit_case)
      (lift_or R (lift_map R (lift_mark R BreakWord refl) break_case)
      (lift_or R (lift_map R (lift_mark R ContinueWord refl) continue_case)
      (lift_map R (lift_mark R ReturnWord refl) return_case))))))))

  pub lift_Simple : Lift R (rule Simple) IsSimple
  lift_Simple =
      lift_or R (lift_then R (calls Keyed) (calls AfterMap) map_stmt_case)
      (lift_or R (lift_then R (lift_kept R (is VarName)) (calls AfterVar) var_stmt_case)
      (lift_or R (lift_then R (lift_fixed R is_step (implies1 is_step is_fixed refl)) (calls Assignable) step_stmt_case)
      (calls CallOrJump)))
