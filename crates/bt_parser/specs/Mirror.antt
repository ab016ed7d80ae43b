-- The steps of the functions that read.
use Rattle.std.specs.Prelude.{ℕ, suc, Bool, true, false, List, [], ◌∷◌, ◌++◌, Option, Some, None, if◌then◌else◌}
use Rattle.bt_core.specs.declared.operator.UnOp.{UnOp}
use Rattle.bt_core.specs.declared.place.Place.{Place}
use Rattle.bt_ast.specs.declared.expr.Builtin.{Builtin}
use Rattle.bt_ast.specs.declared.expr.Expr.{Expr}
use Rattle.bt_ast.specs.declared.expr.ExprKind.TheVariants as exprs
use Rattle.bt_ast.specs.declared.expr.IncDec.{IncDec, roll-IncDec}
use Rattle.bt_ast.specs.declared.expr.MapRef.{MapRef, roll-MapRef}
use Rattle.bt_ast.specs.declared.expr.Target.{Target}
use Rattle.bt_ast.specs.declared.expr.Target.TheVariants as targets
use Rattle.bt_ast.specs.declared.expr.VarRef.{VarRef}
use Rattle.bt_lexer.specs.declared.token.TokenKind.{TokenKind}
use Rattle.bt_lexer.specs.declared.token.TokenKind.TheVariants as kinds
use Rattle.bt_grammar.specs.declared.class.Class.{Class}
use Rattle.bt_grammar.specs.declared.class.Class.TheVariants.{Increment, Decrement, MapName, VarName, NumberLiteral, TextLiteral, ArgsWord, OpenParen, CloseParen, OpenBracket, CloseBracket, Comma, Question, Colon}
use Rattle.bt_grammar.specs.declared.class.Tier.{Tier}
use Rattle.bt_grammar.specs.declared.class.Tier.TheVariants.{Products, Sums, Shifts, Orders, Equalities, BitAnds, BitXors, BitOrs, AndThens, OrElses}
use Rattle.bt_parser.specs.declared.cursor.Named.{Named}
use Rattle.bt_parser.specs.declared.expr.Both.{Both}
use Rattle.bt_grammar.specs.Classes.{is, tier_number, is_builtin, is_step, is_dot, is_word, builtin_of, prefix_of, joins}
use Rattle.bt_grammar.specs.Form.{Item, brace_next, Primary, Unary, Level, Expression, Keyed, Assignable, Form, Tok, Map, Then, Or, Until}
use Rattle.bt_grammar.specs.Reading.{Out, Done, and_then, read, reads, goes_on, starts, rest_of}
use Rattle.bt_grammar.specs.Rules.{mark, ends, optional, after_comma, value, operation}
use Rattle.bt_grammar.specs.Trees.{second, snoc, place_at, bytes_at, expr, place_of_expr, place_of_map, binary, binary_kind, number_expr, text_expr, builtin_expr, field_expr, var_operand, step_after}

infixl 10 ◌>>=◌
abbrev pub ◌>>=◌ : {A B : Type 0} → Out A → (A → List Item → Out B) → Out B
o >>= f = and_then o f

-- ---- the next token

abbrev pub class_at : List Item → Option Class
class_at [] = None
class_at (t ∷ r) = Some t.class

abbrev pub front_place : List Item → Place
front_place [] = record { line = 1; column = 1 }
front_place (t ∷ r) = t.place

abbrev pub when : Bool → Class → Option Class
when true c = Some c
when false c = None

-- the operator of the tier that comes next
abbrev pub operator_at : Bool → Tier → List Item → Option Class
operator_at p tier [] = None
operator_at p tier (t ∷ r) = when (joins p tier t.class (brace_next r)) t.class

abbrev pub prefix_at : List Item → Option UnOp
prefix_at [] = None
prefix_at (t ∷ r) = prefix_of t.class

abbrev pub builtin_at : List Item → Option Builtin
builtin_at [] = None
builtin_at (t ∷ r) = builtin_of t.class

-- whether a step comes next, and whether it is `++`
abbrev pub plus_of : Class → Option Bool
plus_of Increment = Some true
plus_of Decrement = Some false
plus_of _ = None

abbrev pub step_at : List Item → Option Bool
step_at [] = None
step_at (t ∷ r) = plus_of t.class

-- the bytes of a token and its place
abbrev pub named : Item → Named
named t = record { bytes = bytes_at t; place = t.place }

abbrev pub named_form : Class → Form Named
named_form c = Map named (Tok (is c))

abbrev pub is_word_kind : TokenKind → Bool
is_word_kind (kinds.Word word) = true
is_word_kind _ = false

abbrev pub word_form : Form Named
word_form = Map named (Tok is_word)

-- ---- expressions

abbrev pub tighter : Tier → Option Tier
tighter Products = None
tighter Sums = Some Products
tighter Shifts = Some Sums
tighter Orders = Some Shifts
tighter Equalities = Some Orders
tighter BitAnds = Some Equalities
tighter BitXors = Some BitAnds
tighter BitOrs = Some BitXors
tighter AndThens = Some BitOrs
tighter OrElses = Some AndThens

-- how many tiers there are up to this one
abbrev pub tier_rank : Option Tier → ℕ
tier_rank None = 0
tier_rank (Some tier) = suc (tier_number tier)

abbrev pub operand_by : Bool → Option Tier → List Item → Out Expr
operand_by p None ts = reads Unary ts
operand_by p (Some tier) ts = reads (Level p tier) ts

-- what is read after a left operand
abbrev pub level_on : Bool → Tier → Expr → List Item → Out Expr
level_on p tier left ts = goes_on binary (operation p tier) left ts

abbrev pub level_by : Bool → Tier → List Item → Out Expr
level_by p tier ts = operand_by p (tighter tier) ts >>= λ x r. level_on p tier x r

abbrev pub joined : Class → Expr → Expr → Expr
joined c left right = expr (binary_kind c left right) (place_of_expr left)

-- a left operand with the one that comes next
abbrev pub joined_by : Bool → Tier → Class → Expr → List Item → Out Expr
joined_by p tier c left ts = operand_by p (tighter tier) ts >>= λ right r. Done (joined c left right) r

abbrev pub level_turn : Bool → Tier → Option Class → Expr → List Item → Out Expr
level_turn p tier None left ts = Done left ts
level_turn p tier (Some c) left ts = joined_by p tier c left (rest_of ts) >>= λ x r. level_on p tier x r

-- two expressions with a colon between them
abbrev pub alternatives_by : Bool → List Item → Out Both
alternatives_by p ts = read reads (Until value Colon) ts >>= λ y r. reads (Expression p) r >>= λ z r1. Done (record { first = y; second = z }) r1

-- a condition with the two expressions behind its `?`
abbrev pub chosen_by : Bool → Expr → List Item → Out Expr
chosen_by p x ts = alternatives_by p ts >>= λ both r. Done (expr (exprs.Choose x both.first both.second) (place_of_expr x)) r

abbrev pub choice_by : Bool → Expr → List Item → Out Expr
choice_by p x r = if starts (ends Question) r then chosen_by p x (rest_of r) else Done x r

abbrev pub expression_by : Bool → List Item → Out Expr
expression_by p ts = reads (Level p OrElses) ts >>= λ x r. choice_by p x r

abbrev pub unary_by : Option UnOp → List Item → Out Expr
unary_by None ts = reads Primary ts
unary_by (Some op) ts = reads Unary (rest_of ts) >>= λ x r. Done (expr (exprs.Unary op x) (front_place ts)) r

-- a step before its target
abbrev pub step_of : Target → Bool → Place → IncDec
step_of target plus place = roll-IncDec (record { target = target; plus = plus; «prefix» = true; place = place })

abbrev pub number_form : Form Expr
number_form = Map number_expr (Tok (is NumberLiteral))

abbrev pub text_form : Form Expr
text_form = Map text_expr (Tok (is TextLiteral))

abbrev pub builtin_form : Form Expr
builtin_form = Map builtin_expr (Tok is_builtin)

abbrev pub dot_form : Form Place
dot_form = Map place_at (Tok is_dot)

abbrev pub field_form : Form Expr
field_form = Then field_expr (mark ArgsWord) (Then second (Tok is_dot) (Tok is_word))

abbrev pub field_by : List Item → Out Expr
field_by ts = read reads (mark ArgsWord) ts >>= λ place r. read reads dot_form r >>= λ _ r1. read reads word_form r1 >>= λ word r2.
    Done (expr (exprs.Field word.bytes word.place) place) r2

abbrev pub variable_form : Form Expr
variable_form = Then var_operand (Tok (is VarName)) (optional (Tok is_step))

-- an operand that is not in parentheses and has no map
abbrev pub leaf : Form Expr
leaf = Or number_form (Or text_form (Or builtin_form (Or field_form variable_form)))

abbrev pub map_value : MapRef → Option Bool → Expr
map_value m None = expr (exprs.Map m) (place_of_map m)
map_value m (Some plus) = expr (exprs.Step (step_after (targets.Map m) plus (place_of_map m))) (place_of_map m)

-- with the step, where one comes next
abbrev pub step_on : {A : Type 0} → (Option Bool → A) → Option Bool → List Item → Out A
step_on f None ts = Done (f None) ts
step_on f (Some plus) ts = Done (f (Some plus)) (rest_of ts)

-- an expression in parentheses, behind the first of them
abbrev pub paren_by : Place → List Item → Out Expr
paren_by place ts = read reads (Until value CloseParen) ts >>= λ x r. Done (expr (exprs.Paren x) place) r

-- the target of a step that stands before it
abbrev pub step_by : Bool → Place → List Item → Out Expr
step_by plus place ts = reads Assignable ts >>= λ t r. Done (expr (exprs.Step (step_of t plus place)) place) r

abbrev pub step_or_leaf : Option Bool → List Item → Out Expr
step_or_leaf (Some plus) ts = step_by plus (front_place ts) (rest_of ts)
step_or_leaf None ts = read reads leaf ts

abbrev pub primary_by : List Item → Out Expr
primary_by ts = if starts (ends OpenParen) ts then paren_by (front_place ts) (rest_of ts)
    else (if starts (ends MapName) ts then (reads Keyed ts >>= λ m r. step_on (map_value m) (step_at r) r) else step_or_leaf (step_at ts) ts)

-- more values behind commas
abbrev pub values_on : List Expr → List Item → Out (List Expr)
values_on values ts = goes_on snoc (after_comma value) values ts

-- one and more, behind those that there are
abbrev pub values_behind : List Expr → List Item → Out (List Expr)
values_behind values ts = reads (Expression false) ts >>= λ x r. values_on (values ++ x ∷ []) r

-- the parts of a key in brackets, where a bracket comes next
abbrev pub keys_by : List Item → Out (List Expr)
keys_by ts = if starts (ends OpenBracket) ts
    then (values_behind [] (rest_of ts) >>= λ keys r. read reads (mark CloseBracket) r >>= λ _ r1. Done keys r1)
    else Done [] ts

abbrev pub keyed_by : Named → List Item → Out MapRef
keyed_by n ts = keys_by ts >>= λ keys r. Done (roll-MapRef (record { name = n.bytes; keys = keys; place = n.place })) r

abbrev pub map_by : List Item → Out MapRef
map_by ts = read reads (named_form MapName) ts >>= keyed_by

abbrev pub var_of : Named → VarRef
var_of n = record { name = n.bytes; place = n.place }

abbrev pub assignable_by : Bool → List Item → Out Target
assignable_by true ts = reads Keyed ts >>= λ m r. Done (targets.Map m) r
assignable_by false ts = read reads (named_form VarName) ts >>= λ n r. Done (targets.Var (var_of n)) r

abbrev pub values_turn : List Expr → List Item → Out (List Expr)
values_turn values ts = if starts (ends Comma) ts then (reads (Expression false) (rest_of ts) >>= λ x r. values_on (values ++ x ∷ []) r) else Done values ts
