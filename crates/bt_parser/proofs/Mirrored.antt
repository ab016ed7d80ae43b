-- Each part of an expression is read by its steps.
use Rattle.std.proofs.Common.{◌≡◌, ℕ, ◌<◌, ◌≤◌, Bool, true, false, not, List, [], ◌∷◌, ◌++◌, Result, Ok, Err, refl, sym, ap, ◌∙◌, inl, inr, ◌⊎◌, Option, Some, None, if◌then◌else◌}
use Rattle.std.specs.Prelude.{◌≢◌, IsErr, IsErrAnd, OnOk}
use Rattle.std.proofs.Math.Nat.{le_of_lt, lt_of_lt_of_le, lt_trans}
use Rattle.std.proofs.lemmas.Bool.{false≢true}
use Rattle.bt_core.specs.Want.{out_of_memory}
use Rattle.bt_parser.specs.declared.fault.Fault.TheVariants.{OutOfMemory}
use Rattle.bt_core.specs.declared.operator.UnOp.{UnOp}
use Rattle.bt_lexer.specs.declared.token.Token.{Token}
use Rattle.bt_lexer.specs.declared.token.TokenKind.{TokenKind}
use Rattle.bt_core.specs.declared.place.Place.{Place}
use Rattle.bt_ast.specs.declared.expr.Expr.{Expr}
use Rattle.bt_ast.specs.declared.expr.ExprKind.TheVariants as exprs
use Rattle.bt_ast.specs.declared.expr.MapRef.{MapRef}
use Rattle.bt_ast.specs.declared.expr.Target.TheVariants as targets
use Rattle.bt_grammar.specs.declared.class.Class.{Class}
use Rattle.bt_grammar.specs.declared.class.Class.TheVariants.{ArgsWord, BuiltinWord, NumberLiteral, TextLiteral, Arrow, Dot, Increment, Decrement, MapName, VarName, OpenParen, OpenBracket, CloseBracket, Comma, Question, Colon}
use Rattle.bt_grammar.specs.declared.class.Tier.{Tier}
use Rattle.bt_grammar.specs.declared.class.Tier.TheVariants.{Products, Sums, Shifts, Orders, Equalities, BitAnds, BitXors, BitOrs, AndThens, OrElses}
use Rattle.bt_grammar.specs.Classes.{is, is_step, prefix_of, joins}
use Rattle.bt_grammar.specs.Form.{Item, brace_next, Primary, Unary, Level, Expression, Values, Keyed, Assignable, Tok, Empty, Call, Then, Or, Until, Op}
use Rattle.bt_grammar.specs.Fine.{FineAt, Led}
use Rattle.bt_grammar.specs.Tokens.{items}
use Rattle.bt_grammar.specs.Reading.{Out, Done, Refused, Unfinished, and_then, read, reads, goes_on, starts, rest_of, first, sens, differs}
use Rattle.bt_grammar.specs.Rules.{rule, a_number, mark, ends, optional, after_comma, value, operand, operation}
use Rattle.bt_grammar.specs.Trees.{second, snoc, pair, choose, map_ref, map_operand, binary, expr, step_after, var_operand}
use Rattle.bt_parser.specs.declared.cursor.Named.{Named}
use Rattle.bt_parser.specs.declared.fault.Fault.{Fault}
use Rattle.bt_parser.specs.Contract.{Makes, Reads}
use Rattle.bt_parser.specs.Mirror.{builtin_form, leaf, front_place, operator_at, when, prefix_at, named, operand_by, tighter, level_on, level_by, level_turn, choice_by, expression_by, unary_by, primary_by, keyed_by, map_by, assignable_by, dot_form, field_form, field_by, keys_by, values_on, values_behind, values_turn, plus_of, step_at, step_on, map_value, named_form, number_form, text_form, var_of, variable_form}
use Rattle.bt_grammar.proofs.Enough.{reads_is}
use Rattle.bt_grammar.proofs.Steps.{goes_on_stop, goes_on_more}
use Rattle.bt_grammar.proofs.Checked.{fine_rule}

-- ---- outcomes one after another

pub and_then_assoc : {A B C : Type 0} (o : Out A) (f : A → List Item → Out B) (g : B → List Item → Out C) → and_then (and_then o f) g ≡ and_then o (λ a r. and_then (f a r) g)
and_then_assoc (Done a r) f g = refl
and_then_assoc (Refused r) f g = refl
and_then_assoc Unfinished f g = refl

pub and_then_same : {A B : Type 0} (o : Out A) (f g : A → List Item → Out B) → ((a : A) (r : List Item) → f a r ≡ g a r) → and_then o f ≡ and_then o g
and_then_same (Done a r) f g h = h a r
and_then_same (Refused r) f g h = refl
and_then_same Unfinished f g h = refl

-- what is made of what was read
pub made_reads : {A : Type 0} (out : Out A) (a : A) (r : Result A Fault) (left : List Token) → Makes a r → out ≡ Done a (items left) → Reads out r left
made_reads out a (Ok b) left m h = h ∙ ap (λ x. Done x (items left)) (sym m)
made_reads out a (Err e) left m h = λ other. absurd (other m)

-- what was refused
pub refused_reads : {A : Type 0} (out : Out A) (e : Fault) (r : Result A Fault) (left : List Token) → IsErrAnd r (λ d. d ≡ e) → (e ≢ OutOfMemory out_of_memory → out ≡ Refused (items left)) → Reads out r left
refused_reads out e (Ok b) left m h = absurd m
refused_reads out e (Err d) left m h = λ other. h (λ x. other (m ∙ x))

-- what holds if there is a value
pub on_ok : {A E : Type 0} (r : Result A E) (P : Type 0) → P → OnOk r P
on_ok (Ok b) P h = h
on_ok (Err d) P h = tt

pub on_err : {A E : Type 0} (r : Result A E) (P : Type 0) → IsErr r → OnOk r P
on_err (Ok b) P m = cc (m)
on_err (Err d) P m = tt

-- what a last call leaves is less than what there was before it
pub shorter_on : {A E : Type 0} (r : Result A E) (c b a : ℕ) → OnOk r (c < b) → b < a → OnOk r (c < a)
shorter_on (Ok x) c b a h k = lt_trans h k
shorter_on (Err d) c b a h k = tt

pub shorter_behind : {A E : Type 0} (r : Result A E) (c b a : ℕ) → OnOk r (c < b) → b ≤ a → OnOk r (c < a)
shorter_behind (Ok x) c b a h k = lt_of_lt_of_le h k
shorter_behind (Err d) c b a h k = tt

pub no_longer_on : {A E : Type 0} (r : Result A E) (c b : ℕ) → OnOk r (c < b) → OnOk r (c ≤ b)
no_longer_on (Ok x) c b h = le_of_lt h
no_longer_on (Err d) c b h = tt

-- a case that cannot be
pub no_case : {A : Type 0} → false ≡ true → A
no_case h = absurd (false≢true h)

-- ---- a choice by the next token

-- by a test of the next token
pub choice : {A : Type 0} (b : Bool) (x y z w : A) → (b ≡ true → x ≡ z) → (b ≡ false → y ≡ w) → (if b then x else y) ≡ (if b then z else w)
choice true x y z w hit miss = hit refl
choice false x y z w hit miss = miss refl

pub choice_then : {A B : Type 0} (b : Bool) (x y : Out A) (f : A → List Item → Out B) → and_then (if b then x else y) f ≡ (if b then and_then x f else and_then y f)
choice_then true x y f = refl
choice_then false x y f = refl

-- ---- the parts

pub operand_is : (p : Bool) (tier : Tier) (ts : List Item) → read reads (operand p tier) ts ≡ operand_by p (tighter tier) ts
operand_is p Products ts = refl
operand_is p Sums ts = refl
operand_is p Shifts ts = refl
operand_is p Orders ts = refl
operand_is p Equalities ts = refl
operand_is p BitAnds ts = refl
operand_is p BitXors ts = refl
operand_is p BitOrs ts = refl
operand_is p AndThens ts = refl
operand_is p OrElses ts = refl

pub level_is : (p : Bool) (tier : Tier) (ts : List Item) → reads (Level p tier) ts ≡ level_by p tier ts
unfolding goes_on operation
level_is p tier ts = rw (← operand_is p tier ts) (reads_is (Level p tier) ts)

level_fine : (p : Bool) (tier : Tier) → FineAt true (operation p tier)
unfolding operation
level_fine p tier = (fine_rule (Level p tier)).1

operand_some : (p : Bool) (tier : Tier) (left : Expr) (t : Item) (r : List Item) (b : Bool) → joins p tier t.class (brace_next r) ≡ b
    → level_on p tier left (t ∷ r) ≡ level_turn p tier (when b t.class) left (t ∷ r)
unfolding operation
operand_some p tier left t r true h = goes_on_more binary (Op (joins p tier) (operand p tier)) (level_fine p tier) (inl tt) refl left (t ∷ r) h ∙ rw (h, ← operand_is p tier r) (simp and_then_assoc)
operand_some p tier left t r false h = goes_on_stop binary (Op (joins p tier) (operand p tier)) (level_fine p tier) (inl tt) refl left (t ∷ r) h

level_end : (p : Bool) (tier : Tier) (left : Expr) → level_on p tier left [] ≡ Done left []
unfolding operation
level_end p tier left = goes_on_stop binary (Op (joins p tier) (operand p tier)) (level_fine p tier) (inl tt) refl left [] refl

pub level_turns : (p : Bool) (tier : Tier) (left : Expr) (ts : List Item) → level_on p tier left ts ≡ level_turn p tier (operator_at p tier ts) left ts
level_turns p tier left [] = level_end p tier left
level_turns p tier left (t ∷ r) = operand_some p tier left t r (joins p tier t.class (brace_next r)) refl

choice_at : (p : Bool) (x : Expr) (t : Item) (r : List Item) (b : Bool) → is Question t.class ≡ b
    → and_then (read reads (optional (Op (ends Question) (Then pair (Until value Colon) (Call (Expression p))))) (t ∷ r)) (λ y r'. Done (choose x y) r')
    ≡ choice_by p x (t ∷ r)
choice_at p x t r true h = rw h (simp and_then_assoc)
choice_at p x t r false h = rw h refl

choice_is : (p : Bool) (x : Expr) (r : List Item)
    → and_then (read reads (optional (Op (ends Question) (Then pair (Until value Colon) (Call (Expression p))))) r) (λ y r'. Done (choose x y) r') ≡ choice_by p x r
choice_is p x [] = refl
choice_is p x (t ∷ r) = choice_at p x t r (is Question t.class) refl

pub expression_is : (p : Bool) (ts : List Item) → reads (Expression p) ts ≡ expression_by p ts
expression_is p ts = rw (reads_is (Expression p) ts) (and_then_same (reads (Level p OrElses) ts) _ _ (λ x r. choice_is p x r))

unary_at : (t : Item) (r : List Item) (o : Option UnOp) → prefix_of t.class ≡ o → read reads (rule Unary) (t ∷ r) ≡ unary_by o (t ∷ r)
unary_at t r (Some op) h = rw h (simp h)
unary_at t r None h = rw h refl

pub unary_is : (ts : List Item) → reads Unary ts ≡ unary_by (prefix_at ts) ts
unary_is [] = reads_is Unary []
unary_is (t ∷ r) = rw (reads_is Unary (t ∷ r)) (unary_at t r (prefix_of t.class) refl)

pub values_start : (ts : List Item) → reads Values ts ≡ values_behind [] ts
unfolding goes_on
values_start ts = rw (reads_is Values ts) (simp and_then_assoc)

keys_is : (r : List Item) → read reads (Or (Then second (mark OpenBracket) (Until (Call Values) CloseBracket)) (Empty [])) r ≡ keys_by r
keys_is [] = refl
keys_is (u ∷ r) = choice (is OpenBracket u.class) _ _ _ _ (λ h. rw (h, ← values_start r) (simp and_then_assoc)) (λ h. refl)

keys_at : (t : Item) (r : List Item)
    → and_then (read reads (Or (Then second (mark OpenBracket) (Until (Call Values) CloseBracket)) (Empty [])) r) (λ keys r'. Done (map_ref t keys) r') ≡ keyed_by (named t) r
keys_at t r = rw (keys_is r) refl

pub keyed_is : (ts : List Item) → reads Keyed ts ≡ map_by ts
keyed_is ts = rw (reads_is Keyed ts) (and_then_same (read reads (Tok (is MapName)) ts) _ _ keys_at ∙ sym (and_then_assoc (read reads (Tok (is MapName)) ts) (λ t r. Done (named t) r) keyed_by))

pub assignable_is : (ts : List Item) → reads Assignable ts ≡ assignable_by (starts (ends MapName) ts) ts
assignable_is [] = reads_is Assignable []
assignable_is (t ∷ r) = rw (reads_is Assignable (t ∷ r)) (by_map (is MapName t.class) refl)
  where
    by_map : (b : Bool) → is MapName t.class ≡ b → read reads (rule Assignable) (t ∷ r) ≡ assignable_by b (t ∷ r)
    by_map true h = rw h refl
    by_map false h = rw h (simp and_then_assoc)

pub same_twice : (b : Bool) → (if b then not b else b) ≡ false
same_twice true = refl
same_twice false = refl

calm_comma : Led (after_comma value) ⊎ ((c : Class) → (sens (after_comma value) c ≡ false) × (differs (first (after_comma value)) c ≡ false))
calm_comma = inr (λ c. (refl, same_twice (is Comma c)))

comma_stop : (values : List Expr) (ts : List Item) → starts (ends Comma) ts ≡ false → values_on values ts ≡ Done values ts
comma_stop values ts h = goes_on_stop snoc (after_comma value) (fine_rule Values).1 calm_comma refl values ts h

comma_more : (values : List Expr) (ts : List Item) → starts (ends Comma) ts ≡ true → values_on values ts ≡ and_then (reads (Expression false) (rest_of ts)) (λ x r. values_on (values ++ x ∷ []) r)
comma_more values [] h = no_case h
comma_more values (t ∷ r) h = goes_on_more snoc (after_comma value) (fine_rule Values).1 calm_comma refl values (t ∷ r) h ∙ rw h (simp and_then_assoc)

pub values_turns : (values : List Expr) (ts : List Item) → values_on values ts ≡ values_turn values ts
values_turns values ts = by_comma (starts (ends Comma) ts) refl
  where
    by_comma : (b : Bool) → starts (ends Comma) ts ≡ b → values_on values ts ≡ values_turn values ts
    by_comma true h = comma_more values ts h ∙ sym (rw h refl)
    by_comma false h = comma_stop values ts h ∙ sym (rw h refl)

-- ---- operands

abbrev pub it : Class → TokenKind → Place → Item
it c k p = record { class = c; kind = k; place = p }

-- `++` and `--` are the classes of steps, and which of them it is
pub step_class : (c : Class) → plus_of c ≡ (if is_step c then Some (is Increment c) else None)
step_class Increment = refl
step_class Decrement = refl
step_class _ = refl

-- a step behind a map
map_step_at : (m : MapRef) (c : Class) (k : TokenKind) (p : Place) (r : List Item)
    → and_then (read reads (optional (Tok is_step)) (it c k p ∷ r)) (λ s r'. Done (map_operand m s) r') ≡ step_on (map_value m) (step_at (it c k p ∷ r)) (it c k p ∷ r)
map_step_at m Increment k p r = refl
map_step_at m Decrement k p r = refl
map_step_at m _ k p r = refl

map_step : (m : MapRef) (r : List Item) → and_then (read reads (optional (Tok is_step)) r) (λ s r'. Done (map_operand m s) r') ≡ step_on (map_value m) (step_at r) r
map_step m [] = refl
map_step m (t ∷ r) = map_step_at m t.class t.kind t.place r

-- a variable, with the step behind it
abbrev pub var_value : Named → Option Bool → Expr
var_value n None = expr (exprs.Var (var_of n)) n.place
var_value n (Some plus) = expr (exprs.Step (step_after (targets.Var (var_of n)) plus n.place)) n.place

abbrev var_on : Named → List Item → Out Expr
var_on n r = step_on (var_value n) (step_at r) r

var_step_at : (t : Item) (c : Class) (k : TokenKind) (p : Place) (r : List Item)
    → and_then (read reads (optional (Tok is_step)) (it c k p ∷ r)) (λ s r'. Done (var_operand t s) r') ≡ var_on (named t) (it c k p ∷ r)
var_step_at t Increment k p r = refl
var_step_at t Decrement k p r = refl
var_step_at t _ k p r = refl

var_step : (t : Item) (r : List Item) → and_then (read reads (optional (Tok is_step)) r) (λ s r'. Done (var_operand t s) r') ≡ var_on (named t) r
var_step t [] = refl
var_step t (u ∷ r) = var_step_at t u.class u.kind u.place r

pub variable_is : (ts : List Item) → read reads variable_form ts ≡ and_then (read reads (named_form VarName) ts) (λ n r. step_on (var_value n) (step_at r) r)
variable_is ts = and_then_same (read reads (Tok (is VarName)) ts) _ _ var_step ∙ sym (and_then_assoc (read reads (Tok (is VarName)) ts) (λ t r. Done (named t) r) var_on)

primary_at : (c : Class) (k : TokenKind) (p : Place) (r : List Item) → read reads (rule Primary) (it c k p ∷ r) ≡ primary_by (it c k p ∷ r)
primary_at OpenParen k p r = simp and_then_assoc
primary_at MapName k p r = and_then_same (reads Keyed (it MapName k p ∷ r)) _ _ map_step
primary_at Increment k p r = refl
primary_at Decrement k p r = refl
primary_at _ k p r = refl

pub primary_is : (ts : List Item) → reads Primary ts ≡ primary_by ts
primary_is [] = reads_is Primary []
primary_is (t ∷ r) = rw (reads_is Primary (t ∷ r)) (primary_at t.class t.kind t.place r)

-- ---- literals

pub number_read : (ts : List Item) → read reads number_form ts ≡ and_then (read reads a_number ts) (λ n r. Done (expr (exprs.Number n) (front_place ts)) r)
number_read [] = refl
number_read (t ∷ r) = by_number (is NumberLiteral t.class) refl
  where
    by_number : (b : Bool) → is NumberLiteral t.class ≡ b
        → read reads number_form (t ∷ r) ≡ and_then (read reads a_number (t ∷ r)) (λ n r1. Done (expr (exprs.Number n) (front_place (t ∷ r))) r1)
    by_number true h = rw h refl
    by_number false h = rw h refl

pub text_is : (ts : List Item) → read reads text_form ts ≡ and_then (read reads (named_form TextLiteral) ts) (λ n r. Done (expr (exprs.Text n.bytes) n.place) r)
text_is ts = simp and_then_assoc

-- ---- fields

dot_at : (c : Class) (k : TokenKind) (p : Place) (r : List Item)
    → read reads dot_form (it c k p ∷ r) ≡ (if starts (ends Arrow) (it c k p ∷ r) then Done p r else read reads (mark Dot) (it c k p ∷ r))
dot_at Arrow k p r = refl
dot_at _ k p r = refl

pub dot_is : (ts : List Item) → read reads dot_form ts ≡ (if starts (ends Arrow) ts then Done (front_place ts) (rest_of ts) else read reads (mark Dot) ts)
dot_is [] = refl
dot_is (t ∷ r) = dot_at t.class t.kind t.place r

pub field_is : (ts : List Item) → read reads field_form ts ≡ field_by ts
field_is ts = simp and_then_assoc

-- ---- operands without operands in them

abbrev leaf_by : List Item → Out Expr
leaf_by ts = if starts (ends NumberLiteral) ts then read reads number_form ts
    else (if starts (ends TextLiteral) ts then read reads text_form ts
    else (if starts (ends ArgsWord) ts then read reads field_form ts
    else (if starts (ends VarName) ts then read reads variable_form ts else read reads builtin_form ts)))

leaf_at : (c : Class) (k : TokenKind) (p : Place) (r : List Item) → read reads leaf (it c k p ∷ r) ≡ leaf_by (it c k p ∷ r)
leaf_at NumberLiteral k p r = refl
leaf_at TextLiteral k p r = refl
leaf_at ArgsWord k p r = refl
leaf_at VarName k p r = refl
leaf_at (BuiltinWord b) k p r = refl
leaf_at _ k p r = refl

pub leaf_is : (ts : List Item) → read reads leaf ts ≡ leaf_by ts
leaf_is [] = refl
leaf_is (t ∷ r) = leaf_at t.class t.kind t.place r
