-- What an expression was read of can be written again.
use Rattle.std.proofs.Common.{◌≡◌, ℕ, ℤ, pos, Bool, true, false, not, cond, List, [], ◌∷◌, ◌++◌, Option, Some, None, refl, ap, sym, ◌∙◌, append_assoc}
use Rattle.std.specs.Prelude.{codes, map, is_some}
use Rattle.std.proofs.lemmas.List.{append-nil}
use Rattle.std.proofs.lemmas.Bool.{false≢true}
use Rattle.bt_core.specs.declared.operator.BinOp.{BinOp}
use Rattle.bt_core.specs.declared.operator.BinOp.TheVariants as ops
use Rattle.bt_lexer.specs.declared.token.TokenKind.{TokenKind}
use Rattle.bt_lexer.specs.declared.token.TokenKind.TheVariants as kinds
use Rattle.bt_core.specs.declared.place.Place.{Place}
use Rattle.bt_ast.specs.declared.expr.Builtin.{Builtin}
use Rattle.bt_ast.specs.declared.expr.Builtin.TheVariants as builtins
use Rattle.bt_ast.specs.declared.expr.Expr.{Expr}
use Rattle.bt_ast.specs.declared.expr.ExprKind.TheVariants as exprs
use Rattle.bt_ast.specs.declared.expr.MapRef.{MapRef, roll-MapRef}
use Rattle.bt_ast.specs.declared.expr.VarRef.{VarRef}
use Rattle.bt_ast.specs.declared.expr.IncDec.{IncDec, roll-IncDec}
use Rattle.bt_ast.specs.declared.expr.Target.{Target}
use Rattle.bt_ast.specs.declared.expr.Target.TheVariants as targets
use Rattle.ast_text.specs.Words.{token, quoted_text, quoted_bytes, builtin_word, unary_mark, binary_mark}
use Rattle.ast_text.specs.Exprs.{expr_text, target_text, map_text, marked, key_text, step_mark}
use Rattle.bt_grammar.specs.declared.class.Class.{Class}
use Rattle.bt_grammar.specs.declared.class.Class.TheVariants.{ArgsWord, MapName, VarName, NumberLiteral, TextLiteral, Increment, Decrement, OpenParen, CloseParen, OpenBracket, CloseBracket, AndAnd, OrOr, Tilde, Bang, Question, Colon, BuiltinWord, Operator}
use Rattle.bt_grammar.specs.declared.class.Tier.{Tier}
use Rattle.bt_grammar.specs.declared.class.Tier.TheVariants.{Products, Sums, Shifts, Orders, Equalities, BitAnds, BitXors, BitOrs, AndThens, OrElses}
use Rattle.bt_grammar.specs.Classes.{is, is_word, is_builtin, builtin_of, is_prefix, prefix_of, is_step, tier_of, of_tier, ends_predicate, joins}
use Rattle.bt_grammar.specs.Form.{Item, brace_next, Part, Primary, Unary, Level, Expression, Values, Keyed, Assignable, Call, Rel, whole}
use Rattle.bt_grammar.specs.Words.{word_of, mark_of}
use Rattle.bt_grammar.specs.Tokens.{origin}
use Rattle.bt_grammar.specs.Trees.{kind_bytes, kind_number, bytes_at, number_at, single, snoc, expr, place_of_expr, place_of_map, var_ref, map_ref, var_target, number_expr, text_expr, builtin_kind, builtin_expr, field_expr, paren_expr, prefix_step, map_operand, var_operand, unary_op, unary, binary_kind, binary, choose}
use Rattle.bt_grammar.specs.Rules.{rule, operand}
use Rattle.read_back_laws.specs.Bare.{bare_var, bare_expr, bare_target, bare_map}
use Rattle.bt_grammar.proofs.AllClasses.{and_first, implies1, is_same}
use Rattle.read_back_laws.proofs.BareExprs.{Number_text, Number_bare, Text_text, Text_bare, Builtin_text, Builtin_bare, Field_text, Field_bare, Var_text, Var_bare, Map_text, Map_bare, Step_text, Step_bare, Paren_text, Paren_bare, Unary_text, Unary_bare, Binary_text, Binary_bare, AndThen_text, AndThen_bare, OrElse_text, OrElse_bare, Choose_text, Choose_bare, map_target_text, map_target_bare, var_target_text, var_target_bare, map_ref_text, map_ref_bare, step_text_is, step_bare_is}
use Rattle.read_back_laws.proofs.Lexemes.{lexeme}
use Rattle.bt_grammar.proofs.KindClasses.{map_kind, var_kind, number_kind, text_kind, word_kind}
use Rattle.read_back_laws.proofs.LexemesFixed.{kind_of, is_fixed}
use Rattle.read_back_laws.proofs.CanonicalForms.{Lift, Behind, Before, Both, Maybe, Kept, Fixed, Marked, Op-back, lift_kept, lift_fixed, lift_mark, lift_empty, lift_map, lift_then, lift_or, lift_until, lift_op, lift_chain, lift_as, lift_dot, lift_optional, lift_pair, lift_second, lift_comma}
use Rattle.read_back_laws.proofs.CanonicalValues.{IsExpr, IsValues, IsKeys, IsMapRef, IsTarget, Value}

pub joined_by : {a b x y : List ℕ} → x ≡ a → y ≡ b → x ++ y ≡ a ++ b
joined_by e f = λ i. e i ++ f i

-- ---- tokens

pub map_lexeme : (t u : Item) (x : List ℕ) → Kept (is MapName) t x u → x ≡ token (bytes_at t)
map_lexeme t u x (ex, ek, ec, eh, q) = ex ∙ ap lexeme (map_kind t.kind (sym (is_same MapName t.class q) ∙ eh))

pub var_lexeme : (t u : Item) (x : List ℕ) → Kept (is VarName) t x u → x ≡ token (bytes_at t)
var_lexeme t u x (ex, ek, ec, eh, q) = ex ∙ ap lexeme (var_kind t.kind (sym (is_same VarName t.class q) ∙ eh))

pub number_lexeme : (t u : Item) (x : List ℕ) → Kept (is NumberLiteral) t x u → x ≡ lexeme (kinds.Number (number_at t))
number_lexeme t u x (ex, ek, ec, eh, q) = ex ∙ ap lexeme (number_kind t.kind (sym (is_same NumberLiteral t.class q) ∙ eh))

pub text_lexeme : (t u : Item) (x : List ℕ) → Kept (is TextLiteral) t x u → x ≡ quoted_text (bytes_at t)
text_lexeme t u x (ex, ek, ec, eh, q) = ex ∙ (ap lexeme (text_kind t.kind (sym (is_same TextLiteral t.class q) ∙ eh))
    ∙ ap (λ (z : List ℕ). 34 ∷ z) (append_assoc (quoted_bytes (bytes_at t)) (34 ∷ []) (32 ∷ [])))

word_lexeme : (t u : Item) (x : List ℕ) → Kept is_word t x u → x ≡ token (bytes_at t)
word_lexeme t u x (ex, ek, ec, eh, q) = ex ∙ ap lexeme (word_kind t.class t.kind eh q)

pub same_var : (t u : Item) → u.kind ≡ t.kind → bare_var (var_ref u) ≡ bare_var (var_ref t)
same_var t u e = ap (λ (k : TokenKind). record { name = kind_bytes k; place = origin }) e

-- ---- operators by their classes

builtin_lexeme : (c : Class) → is_builtin c ≡ true → (p : Place) → lexeme (kind_of c) ≡ expr_text (expr (builtin_kind (builtin_of c)) p)
unfolding word_of mark_of
builtin_lexeme (BuiltinWord b) h p = by b ∙ sym (Builtin_text b p)
  where
    by : (x : Builtin) → lexeme (kind_of (BuiltinWord x)) ≡ token (builtin_word x)
    by builtins.Pid = refl
    by _ = refl
builtin_lexeme _ h p = absurd (false≢true h)

builtin_bared : (o : Option Builtin) (p : Place) → bare_expr (expr (builtin_kind o) p) ≡ expr (builtin_kind o) origin
builtin_bared None p = Number_bare (pos 0) p
builtin_bared (Some b) p = Builtin_bare b p

pub step_lexeme : (c : Class) → is_step c ≡ true → lexeme (kind_of c) ≡ token (step_mark (is Increment c))
step_lexeme Increment h = refl
step_lexeme Decrement h = refl
step_lexeme _ h = absurd (false≢true h)

prefix_lexeme : (c : Class) → is_prefix c ≡ true → lexeme (kind_of c) ≡ token (unary_mark (unary_op (prefix_of c)))
unfolding word_of mark_of
prefix_lexeme Bang h = refl
prefix_lexeme Tilde h = refl
prefix_lexeme (Operator ops.Sub) h = refl
prefix_lexeme _ h = absurd (false≢true h)

operator_lexeme : (op : BinOp) → lexeme (kind_of (Operator op)) ≡ token (binary_mark op)
unfolding word_of mark_of
operator_lexeme ops.Add = refl
operator_lexeme _ = refl

binary_lexeme : (c : Class) → is_some (tier_of c) ≡ true → (l r : Expr) (p : Place) → expr_text l ++ (lexeme (kind_of c) ++ expr_text r) ≡ expr_text (expr (binary_kind c l r) p)
binary_lexeme AndAnd h l r p = sym (AndThen_text l r p)
binary_lexeme OrOr h l r p = sym (OrElse_text l r p)
binary_lexeme (Operator op) h l r p = ap (λ (z : List ℕ). expr_text l ++ (z ++ expr_text r)) (operator_lexeme op) ∙ sym (Binary_text op l r p)
binary_lexeme _ h l r p = absurd (false≢true h)

binary_bared : (c : Class) (l r : Expr) (p : Place) → bare_expr (expr (binary_kind c l r) p) ≡ expr (binary_kind c (bare_expr l) (bare_expr r)) origin
binary_bared (Operator op) l r p = Binary_bare op l r p
binary_bared AndAnd l r p = AndThen_bare l r p
binary_bared _ l r p = OrElse_bare l r p

-- ---- operands

number_case : (t u : Item) (x : List ℕ) → Kept (is NumberLiteral) t x u → IsExpr (number_expr t) x (number_expr u)
number_case t u x k = (
  number_lexeme t u x k ∙ sym (Number_text (number_at t) t.place),
  Number_bare (number_at u) u.place ∙ (ap (λ (z : ℤ). expr (exprs.Number z) origin) (ap kind_number k.1) ∙ sym (Number_bare (number_at t) t.place)),
)

text_case : (t u : Item) (x : List ℕ) → Kept (is TextLiteral) t x u → IsExpr (text_expr t) x (text_expr u)
text_case t u x k = (
  text_lexeme t u x k ∙ sym (Text_text (bytes_at t) t.place),
  Text_bare (bytes_at u) u.place ∙ (ap (λ (z : List ℕ). expr (exprs.Text z) origin) (ap kind_bytes k.1) ∙ sym (Text_bare (bytes_at t) t.place)),
)

builtin_case : (t u : Item) (x : List ℕ) → Fixed is_builtin t x u → IsExpr (builtin_expr t) x (builtin_expr u)
builtin_case t u x (ex, ec, q) = (
  ex ∙ builtin_lexeme t.class q t.place,
  builtin_bared (builtin_of u.class) u.place ∙ (ap (λ (c : Class). expr (builtin_kind (builtin_of c)) origin) ec ∙ sym (builtin_bared (builtin_of t.class) t.place)),
)

field_case : (p q : Place) (t u : Item) (x y : List ℕ) → Marked (token (codes "args")) p x q → (w v : List ℕ) × (y ≡ w ++ v) × (w ≡ token (codes ".")) × Kept is_word t v u → IsExpr (field_expr p t) (x ++ y) (field_expr q u)
field_case p q t u x y ex (w, v, ey, ew, k) = (
  joined_by ex (ey ∙ joined_by ew (word_lexeme t u v k)) ∙ sym (Field_text (bytes_at t) t.place p),
  Field_bare (bytes_at u) u.place q ∙ (ap (λ (z : List ℕ). expr (exprs.Field z origin) origin) (ap kind_bytes k.1) ∙ sym (Field_bare (bytes_at t) t.place p)),
)

paren_case : (p q : Place) (e f : Expr) (x y : List ℕ) → Marked (token (codes "(")) p x q → Before (token (codes ")")) IsExpr e y f → IsExpr (paren_expr p e) (x ++ y) (paren_expr q f)
paren_case p q e f x y ex (z, ey, (ez, eb)) = (
  joined_by ex (ey ∙ joined_by ez refl) ∙ sym (Paren_text e p),
  Paren_bare f q ∙ (ap (λ (a : Expr). expr (exprs.Paren a) origin) eb ∙ sym (Paren_bare e p)),
)

abbrev pub bare_inc : Target → Bool → Bool → IncDec
bare_inc t plus before = roll-IncDec (record { target = t; plus = plus; «prefix» = before; place = origin })

step_expr_text : (t : Target) (plus before : Bool) (p q : Place) → expr_text (expr (exprs.Step (roll-IncDec (record { target = t; plus = plus; «prefix» = before; place = p }))) q) ≡ cond before (token (step_mark plus) ++ target_text t) (target_text t ++ token (step_mark plus))
step_expr_text t plus before p q = Step_text (roll-IncDec (record { target = t; plus = plus; «prefix» = before; place = p })) q ∙ step_text_is t plus before p

step_expr_bare : (t : Target) (plus before : Bool) (p q : Place) → bare_expr (expr (exprs.Step (roll-IncDec (record { target = t; plus = plus; «prefix» = before; place = p }))) q) ≡ expr (exprs.Step (bare_inc (bare_target t) plus before)) origin
step_expr_bare t plus before p q = Step_bare (roll-IncDec (record { target = t; plus = plus; «prefix» = before; place = p })) q ∙ ap (λ (s : IncDec). expr (exprs.Step s) origin) (step_bare_is t plus before p)

pub steps_same : (t u : Target) (c d : Class) (before : Bool) (p q p' q' : Place) → bare_target u ≡ bare_target t → d ≡ c
    → bare_expr (expr (exprs.Step (roll-IncDec (record { target = u; plus = is Increment d; «prefix» = before; place = p' }))) q')
    ≡ bare_expr (expr (exprs.Step (roll-IncDec (record { target = t; plus = is Increment c; «prefix» = before; place = p }))) q)
steps_same t u c d before p q p' q' et ec = step_expr_bare u (is Increment d) before p' q'
    ∙ ((λ i. expr (exprs.Step (bare_inc (et i) (is Increment (ec i)) before)) origin) ∙ sym (step_expr_bare t (is Increment c) before p q))

prefix_case : (t u : Item) (a b : Target) (x y : List ℕ) → Fixed is_step t x u → IsTarget a y b → IsExpr (prefix_step t a) (x ++ y) (prefix_step u b)
prefix_case t u a b x y (ex, ec, q) (ey, eb) = (
  joined_by (ex ∙ step_lexeme t.class q) ey ∙ sym (step_expr_text a (is Increment t.class) true t.place t.place),
  steps_same a b t.class u.class true t.place t.place u.place u.place eb ec,
)

pub map_targets : (m n : MapRef) → bare_map n ≡ bare_map m → bare_target (targets.Map n) ≡ bare_target (targets.Map m)
map_targets m n e = map_target_bare n ∙ (ap targets.Map e ∙ sym (map_target_bare m))

pub var_targets : (v w : VarRef) → bare_var w ≡ bare_var v → bare_target (targets.Var w) ≡ bare_target (targets.Var v)
var_targets v w e = var_target_bare w ∙ (ap targets.Var e ∙ sym (var_target_bare v))

map_case : (m n : MapRef) (o p : Option Item) (x y : List ℕ) → IsMapRef m x n → Maybe (Fixed is_step) o y p → IsExpr (map_operand m o) (x ++ y) (map_operand n p)
map_case m n None p x y (ex, eb) (ey, ep) = (
  joined_by ex ey ∙ (append-nil (map_text m) ∙ sym (Map_text m (place_of_map m))),
  ap (λ (z : Option Item). bare_expr (map_operand n z)) ep ∙ (Map_bare n (place_of_map n) ∙ (ap (λ (z : MapRef). expr (exprs.Map z) origin) eb ∙ sym (Map_bare m (place_of_map m)))),
)
map_case m n (Some t) p x y (ex, eb) (u, ep, (ey, ec, q)) = (
  joined_by (ex ∙ sym (map_target_text m)) (ey ∙ step_lexeme t.class q) ∙ sym (step_expr_text (targets.Map m) (is Increment t.class) false (place_of_map m) (place_of_map m)),
  ap (λ (z : Option Item). bare_expr (map_operand n z)) ep ∙ steps_same (targets.Map m) (targets.Map n) t.class u.class false (place_of_map m) (place_of_map m) (place_of_map n) (place_of_map n) (map_targets m n eb) ec,
)

var_case : (v w : Item) (o p : Option Item) (x y : List ℕ) → Kept (is VarName) v x w → Maybe (Fixed is_step) o y p → IsExpr (var_operand v o) (x ++ y) (var_operand w p)
var_case v w None p x y k (ey, ep) = (
  joined_by (var_lexeme v w x k) ey ∙ (append-nil (token (bytes_at v)) ∙ sym (Var_text (var_ref v) v.place)),
  ap (λ (z : Option Item). bare_expr (var_operand w z)) ep ∙ (Var_bare (var_ref w) w.place ∙ (ap (λ (z : VarRef). expr (exprs.Var z) origin) (same_var v w k.1) ∙ sym (Var_bare (var_ref v) v.place))),
)
var_case v w (Some t) p x y k (u, ep, (ey, ec, q)) = (
  joined_by (var_lexeme v w x k ∙ sym (var_target_text (var_ref v))) (ey ∙ step_lexeme t.class q) ∙ sym (step_expr_text (var_target v) (is Increment t.class) false v.place v.place),
  ap (λ (z : Option Item). bare_expr (var_operand w z)) ep ∙ steps_same (var_target v) (var_target w) t.class u.class false v.place v.place w.place w.place (var_targets (var_ref v) (var_ref w) (same_var v w k.1)) ec,
)

-- ---- operators

unary_case : (t u : Item) (e f : Expr) (x y : List ℕ) → Fixed is_prefix t x u → IsExpr e y f → IsExpr (unary t e) (x ++ y) (unary u f)
unary_case t u e f x y (ex, ec, q) (ey, eb) = (
  joined_by (ex ∙ prefix_lexeme t.class q) ey ∙ sym (Unary_text (unary_op (prefix_of t.class)) e t.place),
  Unary_bare (unary_op (prefix_of u.class)) f u.place ∙ ((λ i. expr (exprs.Unary (unary_op (prefix_of (ec i))) (eb i)) origin) ∙ sym (Unary_bare (unary_op (prefix_of t.class)) e t.place)),
)

abbrev is_binary : Class → Bool
is_binary c = is_some (tier_of c)

binary_case : (a b : Expr) (r s : Item × Expr) (x y : List ℕ) → IsExpr a x b → Op-back is_binary IsExpr r y s → IsExpr (binary a r) (x ++ y) (binary b s)
binary_case a b r s x y (ex, eb) (z, ey, ec, q, (ez, er)) = (
  joined_by ex (ey ∙ joined_by refl ez) ∙ binary_lexeme r.0.class q a r.1 (place_of_expr a),
  binary_bared s.0.class b s.1 (place_of_expr b) ∙ ((λ i. expr (binary_kind (ec i) (eb i) (er i)) origin) ∙ sym (binary_bared r.0.class a r.1 (place_of_expr a))),
)

choose_case : (a b : Expr) (r s : Option (Item × (Expr × Expr))) (x y : List ℕ) → IsExpr a x b → Maybe (Op-back (is Question) (Both (Before (token (codes ":")) IsExpr) IsExpr)) r y s → IsExpr (choose a r) (x ++ y) (choose b s)
choose_case a b None s x y (ex, eb) (ey, es) = (joined_by ex ey ∙ append-nil (expr_text a), ap (λ (z : Option (Item × (Expr × Expr))). bare_expr (choose b z)) es ∙ eb)
choose_case a b (Some r) s x y (ex, eb) (c, es, (z, ey, ec, q, (u, v, ez, (w, eu, (ew, e1)), (ev, e2)))) = (
  joined_by ex (ey ∙ joined_by (ap (λ (k : Class). lexeme (kind_of k)) (is_same Question r.0.class q)) (ez ∙ (joined_by (eu ∙ joined_by ew refl) ev ∙ append_assoc (expr_text r.1.0) (token (codes ":")) (expr_text r.1.1))))
      ∙ sym (Choose_text a r.1.0 r.1.1 (place_of_expr a)),
  ap (λ (z : Option (Item × (Expr × Expr))). bare_expr (choose b z)) es ∙ (Choose_bare b c.1.0 c.1.1 (place_of_expr b) ∙ ((λ i. expr (exprs.Choose (eb i) (e1 i) (e2 i)) origin) ∙ sym (Choose_bare a r.1.0 r.1.1 (place_of_expr a)))),
)

-- ---- lists and maps

-- a list behind commas with one more
pub commas_snoc : (es : List Expr) (e : Expr) → marked (codes ",") (map expr_text (es ++ e ∷ [])) ≡ marked (codes ",") (map expr_text es) ++ (token (codes ",") ++ expr_text e)
commas_snoc [] e = ap (λ (z : List ℕ). token (codes ",") ++ z) (append-nil (expr_text e))
commas_snoc (f ∷ es) e = ap (λ (z : List ℕ). token (codes ",") ++ (expr_text f ++ z)) (commas_snoc es e)
    ∙ ap (λ (z : List ℕ). token (codes ",") ++ z) (sym (append_assoc (expr_text f) (marked (codes ",") (map expr_text es)) (token (codes ",") ++ expr_text e)))

pub map_snoc : {A B : Type 0} (f : A → B) (xs : List A) (x : A) → map f (xs ++ x ∷ []) ≡ map f xs ++ f x ∷ []
map_snoc f [] x = refl
map_snoc f (y ∷ xs) x = ap (λ l. f y ∷ l) (map_snoc f xs x)

pub snoc_same : {A B : Type 0} (f : A → B) (xs ys : List A) (x y : A) → map f ys ≡ map f xs → f y ≡ f x → map f (ys ++ y ∷ []) ≡ map f (xs ++ x ∷ [])
snoc_same f xs ys x y e e' = map_snoc f ys y ∙ ((λ i. e i ++ e' i ∷ []) ∙ sym (map_snoc f xs x))

single_case : (e f : Expr) (x : List ℕ) → IsExpr e x f → IsValues (single e) x (single f)
single_case e f x (ex, eb) = (e, [], refl, ex ∙ sym (append-nil (expr_text e)), ap (λ (z : Expr). z ∷ []) eb)

snoc_case : (es fs : List Expr) (e f : Expr) (x y : List ℕ) → IsValues es x fs → Behind (token (codes ",")) IsExpr e y f → IsValues (snoc es e) (x ++ y) (snoc fs f)
snoc_case es fs e f x y (g, more, ees, ex, eb) (z, ey, (ez, ef)) = (
  g,
  more ++ e ∷ [],
  ap (λ (l : List Expr). l ++ e ∷ []) ees,
  joined_by ex (ey ∙ ap (λ (l : List ℕ). token (codes ",") ++ l) ez) ∙ (append_assoc (expr_text g) (marked (codes ",") (map expr_text more)) (token (codes ",") ++ expr_text e) ∙ ap (λ (l : List ℕ). expr_text g ++ l) (sym (commas_snoc more e))),
  snoc_same bare_expr es fs e f eb ef,
)

pub keys_case : (es fs : List Expr) (x : List ℕ) → Behind (token (codes "[")) (Before (token (codes "]")) IsValues) es x fs → IsKeys es x fs
keys_case es fs x (y, ex, (z, ey, (e, more, ees, ez, eb))) = (
  ex ∙ (ap (λ (l : List ℕ). token (codes "[") ++ l) (ey ∙ joined_by ez refl) ∙ (sym (append_assoc (token (codes "[")) (expr_text e ++ marked (codes ",") (map expr_text more)) (token (codes "]")))
      ∙ ap (λ (l : List Expr). key_text (map expr_text l)) (sym ees))),
  eb,
)

keyed_case : (t u : Item) (es fs : List Expr) (x y : List ℕ) → Kept (is MapName) t x u → IsKeys es y fs → IsMapRef (map_ref t es) (x ++ y) (map_ref u fs)
keyed_case t u es fs x y k (ey, eb) = (
  joined_by (map_lexeme t u x k) ey ∙ sym (map_ref_text (bytes_at t) es t.place),
  map_ref_bare (bytes_at u) fs u.place ∙ ((λ i. roll-MapRef (record { name = ap kind_bytes k.1 i; keys = eb i; place = origin })) ∙ sym (map_ref_bare (bytes_at t) es t.place)),
)

map_target_case : (m n : MapRef) (x : List ℕ) → IsMapRef m x n → IsTarget (targets.Map m) x (targets.Map n)
map_target_case m n x (ex, eb) = (ex ∙ sym (map_target_text m), map_targets m n eb)

var_target_case : (t u : Item) (x : List ℕ) → Kept (is VarName) t x u → IsTarget (var_target t) x (var_target u)
var_target_case t u x k = (var_lexeme t u x k ∙ sym (var_target_text (var_ref t)), var_targets (var_ref t) (var_ref u) (same_var t u k.1))

-- ---- the parts

of_some : (tier : Tier) (o : Option Tier) → of_tier tier o ≡ true → is_some o ≡ true
of_some tier None h = h
of_some tier (Some t) h = refl

joins_some : (p : Bool) (tier : Tier) (c : Class) (b : Bool) → joins p tier c b ≡ true → is_binary c ≡ true
joins_some p tier c b h = of_some tier (tier_of c) (and_first (of_tier tier (tier_of c)) (not (ends_predicate p c b)) h)

joins_calm : (p : Bool) (tier : Tier) (c : Class) (b : Bool) → joins p tier c b ≡ true → joins p tier c false ≡ true
joins_calm true tier c b h = rw (and_first (of_tier tier (tier_of c)) (not (ends_predicate true c b)) h) refl
joins_calm false tier c b h = rw (and_first (of_tier tier (tier_of c)) (not (ends_predicate false c b)) h) refl

module _ (R : Rel) (calls : (n : Part) → Lift R (Call n) (Value n))
    (unbraced : (p : Bool) (tier : Tier) (us : List Item) (v : Expr) → whole R (operand p tier) us v → brace_next us ≡ false) where
  pub lift_Primary : Lift R (rule Primary) IsExpr
  lift_Primary =
      lift_or R (lift_map R (lift_kept R (is NumberLiteral)) number_case)
      (lift_or R (lift_map R (lift_kept R (is TextLiteral)) text_case)
      (lift_or R (lift_map R (lift_fixed R is_builtin (implies1 is_builtin is_fixed refl)) builtin_case)
      (lift_or R (lift_then R (lift_mark R ArgsWord refl) (lift_then R (lift_dot R) (lift_kept R is_word) (λ a a' b b' x y r s. (x, y, refl, r, s))) field_case)
      (lift_or R (lift_then R (lift_mark R OpenParen refl) (lift_until R CloseParen refl (calls (Expression false))) paren_case)
      (lift_or R (lift_then R (lift_fixed R is_step (implies1 is_step is_fixed refl)) (calls Assignable) prefix_case)
      (lift_or R (lift_then R (calls Keyed) (lift_optional R (lift_fixed R is_step (implies1 is_step is_fixed refl))) map_case)
      (lift_then R (lift_kept R (is VarName)) (lift_optional R (lift_fixed R is_step (implies1 is_step is_fixed refl))) var_case)))))))

  pub lift_Unary : Lift R (rule Unary) IsExpr
  lift_Unary = lift_or R (lift_then R (lift_fixed R is_prefix (implies1 is_prefix is_fixed refl)) (calls Unary) unary_case) (calls Primary)

  lift_operand : (p : Bool) (tier : Tier) → Lift R (operand p tier) IsExpr
  lift_operand p Products = calls Unary
  lift_operand p Sums = calls (Level p Products)
  lift_operand p Shifts = calls (Level p Sums)
  lift_operand p Orders = calls (Level p Shifts)
  lift_operand p Equalities = calls (Level p Orders)
  lift_operand p BitAnds = calls (Level p Equalities)
  lift_operand p BitXors = calls (Level p BitAnds)
  lift_operand p BitOrs = calls (Level p BitXors)
  lift_operand p AndThens = calls (Level p BitOrs)
  lift_operand p OrElses = calls (Level p AndThens)

  pub lift_Level : (p : Bool) (tier : Tier) → Lift R (rule (Level p tier)) IsExpr
  lift_Level p tier = lift_chain R (lift_operand p tier)
      (lift_op R is_binary (joins_some p tier) (implies1 is_binary is_fixed refl)
      (λ c b us v h w. ap (joins p tier c) (unbraced p tier us v w) ∙ joins_calm p tier c b h) (lift_operand p tier)) binary_case

  pub lift_Expression : (p : Bool) → Lift R (rule (Expression p)) IsExpr
  lift_Expression p = lift_then R (calls (Level p OrElses))
      (lift_optional R (lift_op R (is Question) (λ c b h. h) (implies1 (is Question) is_fixed refl) (λ c b us v h w. h)
      (lift_pair R (lift_until R Colon refl (calls (Expression false))) (calls (Expression p))))) choose_case

  pub lift_Values : Lift R (rule Values) IsValues
  lift_Values = lift_chain R (lift_map R (calls (Expression false)) single_case) (lift_comma R (calls (Expression false))) snoc_case

  pub lift_Keyed : Lift R (rule Keyed) IsMapRef
  lift_Keyed = lift_then R (lift_kept R (is MapName))
      (lift_or R (lift_as R (lift_second R OpenBracket refl (lift_until R CloseBracket refl (calls Values))) keys_case) (lift_empty R [] (refl, refl))) keyed_case

  pub lift_Assignable : Lift R (rule Assignable) IsTarget
  lift_Assignable = lift_or R (lift_map R (calls Keyed) map_target_case) (lift_map R (lift_kept R (is VarName)) var_target_case)
