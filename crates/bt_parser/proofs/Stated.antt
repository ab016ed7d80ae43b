-- Each part of a statement is read by its steps.
use Rattle.std.proofs.Common.{◌≡◌, Bool, true, false, List, [], ◌∷◌, refl, sym, subst, ◌∙◌, None}
use Rattle.bt_lexer.specs.declared.token.TokenKind.{TokenKind}
use Rattle.bt_core.specs.declared.place.Place.{Place}
use Rattle.bt_ast.specs.declared.expr.MapRef.{MapRef}
use Rattle.bt_ast.specs.declared.expr.Target.{Target}
use Rattle.bt_ast.specs.declared.expr.VarRef.{VarRef}
use Rattle.bt_ast.specs.declared.stmt.StmtKind.{StmtKind}
use Rattle.bt_core.specs.declared.operator.BinOp.{BinOp}
use Rattle.bt_core.specs.declared.operator.BinOp.TheVariants.{Sub}
use Rattle.bt_grammar.specs.declared.class.Class.{Class}
use Rattle.bt_grammar.specs.declared.class.Class.TheVariants.{CountWord, LhistWord, PrintfWord, PrintWord, ClearWord, ZeroWord, DeleteWord, ExitWord, BreakWord, ContinueWord, ReturnWord, MapName, VarName, OpenParen, CloseParen, OpenBracket, CloseBracket, Comma, Assign, Increment, Decrement, GatherWord, Operator, UpdateMark}
use Rattle.bt_grammar.specs.Classes.{compares, is, is_step, gathering_of}
use Rattle.bt_grammar.specs.Form.{Item, Values, Int, Aggregation, Update, AfterMap, AfterVar, Printf, Print, Delete, CallOrJump, Simple, Assignable, Form, Tok, Call, Map, Then, Or, Until}
use Rattle.bt_grammar.specs.Reading.{Out, Done, Refused, Unfinished, and_then, read, reads, starts, goes_on}
use Rattle.bt_grammar.specs.Rules.{rule, mark, ends, in_parens, value}
use Rattle.bt_grammar.specs.Trees.{gather_map, set_map, on_item, delete_all, delete_keyed, delete_key, step_stmt}
use Rattle.bt_parser.specs.Mirror.{named, named_form, step_at}
use Rattle.bt_parser.specs.Contract.{behind}
use Rattle.bt_parser.specs.declared.agg.Bounds.{Bounds}
use Rattle.bt_parser.specs.Mirror.{◌>>=◌}
use Rattle.bt_parser.specs.Statements.{bounds_by, given, int_by, parens_by, count_form, count_by, gather_form, gathering_at, gather_by, lhist_form, lhist_by, aggregation_by, begins_aggregation, update_at, update_by, set_map_by, after_map_by, after_var_by, map_form, whole_map_by, in_parens_map, map_in_parens_by, printf_by, limit_form, limit_by, limits_form, limits_by, print_by, delete_on, delete_by, call_at, call_by, simple_by, step_or_call}
use Rattle.bt_grammar.proofs.Enough.{reads_is}
use Rattle.bt_grammar.proofs.AllClasses.{is_same}
use Rattle.bt_parser.proofs.Mirrored.{and_then_assoc, and_then_same, choice, choice_then, values_start, step_class, it}

-- ---- numbers and map functions

int_at : (c : Class) (k : TokenKind) (p : Place) (r : List Item) → read reads (rule Int) (it c k p ∷ r) ≡ int_by (starts (ends (Operator Sub)) (it c k p ∷ r)) (it c k p ∷ r)
int_at (Operator op) k p r = int_of op
  where
    int_of : (o : BinOp) → read reads (rule Int) (it (Operator o) k p ∷ r) ≡ int_by (starts (ends (Operator Sub)) (it (Operator o) k p ∷ r)) (it (Operator o) k p ∷ r)
    int_of Sub = simp and_then_assoc
    int_of _ = refl
int_at _ k p r = refl

pub int_is : (ts : List Item) → reads Int ts ≡ int_by (starts (ends (Operator Sub)) ts) ts
int_is [] = reads_is Int []
int_is (t ∷ r) = rw (reads_is Int (t ∷ r)) (int_at t.class t.kind t.place r)

pub parens_is : (ts : List Item) → read reads (in_parens value) ts ≡ parens_by ts
parens_is ts = simp and_then_assoc

pub count_is : (ts : List Item) → read reads count_form ts ≡ count_by ts
count_is ts = simp and_then_assoc

gather_at : (c : Class) (k : TokenKind) (p : Place) (r : List Item) → read reads gather_form (it c k p ∷ r) ≡ gather_by (gathering_of c) (it c k p ∷ r)
gather_at (GatherWord g) k p r = refl
gather_at _ k p r = refl

pub gather_is : (ts : List Item) → read reads gather_form ts ≡ gather_by (gathering_at ts) ts
gather_is [] = refl
gather_is (t ∷ r) = gather_at t.class t.kind t.place r

-- each bound with the mark behind it
abbrev bounds_behind : List Item → Out Bounds
bounds_behind ts = behind Comma (reads Int ts) >>= λ a r. behind Comma (reads Int r) >>= λ b r1. behind CloseParen (reads Int r1) >>= λ c r2. Done (record { min = a; max = b; step = c }) r2

pub bounds_is : (ts : List Item) → bounds_by ts ≡ bounds_behind ts
bounds_is ts = simp and_then_assoc

pub lhist_is : (ts : List Item) → read reads lhist_form ts ≡ lhist_by ts
lhist_is ts = simp and_then_assoc

aggregation_at : (c : Class) (k : TokenKind) (p : Place) (r : List Item) → read reads (rule Aggregation) (it c k p ∷ r) ≡ aggregation_by (it c k p ∷ r)
aggregation_at CountWord k p r = refl
aggregation_at LhistWord k p r = refl
aggregation_at _ k p r = refl

pub aggregation_is : (ts : List Item) → reads Aggregation ts ≡ aggregation_by ts
aggregation_is [] = reads_is Aggregation []
aggregation_is (t ∷ r) = rw (reads_is Aggregation (t ∷ r)) (aggregation_at t.class t.kind t.place r)

-- ---- what follows a map or a variable

update_kind : (target : Target) (c : Class) (k : TokenKind) (p : Place) (r : List Item)
    → given target (read reads (rule Update) (it c k p ∷ r)) ≡ update_by target (step_at (it c k p ∷ r)) (update_at (it c k p ∷ r)) (it c k p ∷ r)
update_kind target (UpdateMark op) k p r = by_operator (compares op) refl
  where
    by_operator : (b : Bool) → compares op ≡ b
        → given target (read reads (rule Update) (it (UpdateMark op) k p ∷ r))
        ≡ update_by target None (update_at (it (UpdateMark op) k p ∷ r)) (it (UpdateMark op) k p ∷ r)
    by_operator true h = rw h refl
    by_operator false h = rw h (simp (h, and_then_assoc))
update_kind target Increment k p r = refl
update_kind target Decrement k p r = refl
update_kind target _ k p r = refl

pub update_is : (target : Target) (ts : List Item) → given target (reads Update ts) ≡ update_by target (step_at ts) (update_at ts) ts
update_is target [] = rw (reads_is Update []) refl
update_is target (t ∷ r) = rw (reads_is Update (t ∷ r)) (update_kind target t.class t.kind t.place r)

map_value_is : (m : MapRef) (r : List Item)
    → and_then (read reads (Or (Map gather_map (Call Aggregation)) (Map set_map value)) r) (λ f r1. Done (f m) r1) ≡ set_map_by m r
map_value_is m r = choice_then (starts begins_aggregation r) _ _ _ ∙ choice (starts begins_aggregation r) _ _ _ _ (λ h. simp and_then_assoc) (λ h. simp and_then_assoc)

after_map_at : (m : MapRef) (t : Item) (r : List Item) (b : Bool) → is Assign t.class ≡ b → given m (read reads (rule AfterMap) (t ∷ r)) ≡ after_map_by m (t ∷ r)
after_map_at m t r true h = rw h (and_then_assoc (read reads (Or (Map gather_map (Call Aggregation)) (Map set_map value)) r) _ _ ∙ map_value_is m r)
after_map_at m t r false h = rw h (simp and_then_assoc)

pub after_map_is : (m : MapRef) (ts : List Item) → given m (reads AfterMap ts) ≡ after_map_by m ts
after_map_is m [] = rw (reads_is AfterMap []) (simp and_then_assoc)
after_map_is m (t ∷ r) = rw (reads_is AfterMap (t ∷ r)) (after_map_at m t r (is Assign t.class) refl)

after_var_at : (v : VarRef) (t : Item) (r : List Item) (b : Bool) → is Assign t.class ≡ b → given v (read reads (rule AfterVar) (t ∷ r)) ≡ after_var_by v (t ∷ r)
after_var_at v t r true h = rw h (simp and_then_assoc)
after_var_at v t r false h = rw h (simp and_then_assoc)

pub after_var_is : (v : VarRef) (ts : List Item) → given v (reads AfterVar ts) ≡ after_var_by v ts
after_var_is v [] = rw (reads_is AfterVar []) (simp and_then_assoc)
after_var_is v (t ∷ r) = rw (reads_is AfterVar (t ∷ r)) (after_var_at v t r (is Assign t.class) refl)

-- ---- calls and jumps

pub whole_map_is : (ts : List Item) → read reads map_form ts ≡ whole_map_by ts
whole_map_is ts = simp and_then_assoc

pub map_in_parens_is : (ts : List Item) → read reads in_parens_map ts ≡ map_in_parens_by ts
map_in_parens_is ts = simp and_then_assoc

pub printf_is : (ts : List Item) → reads Printf ts ≡ printf_by ts
unfolding goes_on
printf_is ts = rw (reads_is Printf ts) (simp and_then_assoc)

limit_at : (t : Item) (r : List Item) (b : Bool) → is Comma t.class ≡ b → read reads limit_form (t ∷ r) ≡ limit_by (t ∷ r)
limit_at t r true h = rw h (simp and_then_assoc)
limit_at t r false h = rw h refl

pub limit_is : (ts : List Item) → read reads limit_form ts ≡ limit_by ts
limit_is [] = refl
limit_is (t ∷ r) = limit_at t r (is Comma t.class) refl

limits_at : (t : Item) (r : List Item) (b : Bool) → is Comma t.class ≡ b → read reads limits_form (t ∷ r) ≡ limits_by (t ∷ r)
limits_at t r true h = rw h (simp and_then_assoc)
limits_at t r false h = rw h refl

pub limits_is : (ts : List Item) → read reads limits_form ts ≡ limits_by ts
limits_is [] = refl
limits_is (t ∷ r) = limits_at t r (is Comma t.class) refl

pub print_is : (ts : List Item) → reads Print ts ≡ print_by ts
print_is ts = rw (reads_is Print ts) (simp and_then_assoc)

abbrev behind_name : Form (Item → StmtKind)
behind_name = Or (Map delete_all (mark CloseParen))
    (Or (Then delete_keyed (mark OpenBracket) (Until (Until (Call Values) CloseBracket) CloseParen)) (Then delete_key (mark Comma) (Until value CloseParen)))

-- by the classes that may stand behind the name, of which each is not the others
delete_at : (t : Item) (c : Class) (k : TokenKind) (p : Place) (r : List Item) (b d : Bool) → is Comma c ≡ b → is OpenBracket c ≡ d
    → and_then (read reads behind_name (it c k p ∷ r)) (λ f r1. Done (on_item t f) r1) ≡ delete_on (named t) (it c k p ∷ r)
delete_at t c k p r true d h i = subst (λ c. and_then (read reads behind_name (it c k p ∷ r)) (λ f r1. Done (on_item t f) r1) ≡ delete_on (named t) (it c k p ∷ r)) (sym (is_same Comma c h)) (simp and_then_assoc)
delete_at t c k p r false true h i =
    subst (λ c. and_then (read reads behind_name (it c k p ∷ r)) (λ f r1. Done (on_item t f) r1) ≡ delete_on (named t) (it c k p ∷ r)) (sym (is_same OpenBracket c i)) (rw (← values_start r) (simp and_then_assoc))
delete_at t c k p r false false h i = delete_end t c k p r (is CloseParen c) refl h i
  where
    delete_end : (t : Item) (c : Class) (k : TokenKind) (p : Place) (r : List Item) (e : Bool) → is CloseParen c ≡ e → is Comma c ≡ false → is OpenBracket c ≡ false
        → and_then (read reads behind_name (it c k p ∷ r)) (λ f r1. Done (on_item t f) r1) ≡ delete_on (named t) (it c k p ∷ r)
    delete_end t c k p r true g h i = rw (g, h, i) refl
    delete_end t c k p r false g h i = rw (g, h, i) refl

delete_rest : (t : Item) (ts : List Item) → and_then (read reads behind_name ts) (λ f r1. Done (on_item t f) r1) ≡ delete_on (named t) ts
delete_rest t [] = refl
delete_rest t (u ∷ r) = delete_at t u.class u.kind u.place r (is Comma u.class) (is OpenBracket u.class) refl refl

delete_name : (ts : List Item) → read reads (Then on_item (Tok (is MapName)) behind_name) ts ≡ and_then (read reads (named_form MapName) ts) delete_on
delete_name ts = and_then_same (read reads (Tok (is MapName)) ts) _ _ delete_rest ∙ sym (and_then_assoc (read reads (Tok (is MapName)) ts) (λ t r. Done (named t) r) delete_on)

pub delete_is : (ts : List Item) → reads Delete ts ≡ delete_by ts
delete_is ts = rw (reads_is Delete ts) (and_then_same (read reads (mark OpenParen) ts) _ _ (λ p r. same_value _ ∙ delete_name r))
  where
    same_value : {A : Type 0} (o : Out A) → and_then o (λ b r1. Done b r1) ≡ o
    same_value (Done b r1) = refl
    same_value (Refused r1) = refl
    same_value Unfinished = refl

call_kind : (c : Class) (k : TokenKind) (p : Place) (r : List Item) → read reads (rule CallOrJump) (it c k p ∷ r) ≡ call_by (call_at (it c k p ∷ r)) (it c k p ∷ r)
call_kind PrintfWord k p r = refl
call_kind PrintWord k p r = refl
call_kind ClearWord k p r = simp and_then_assoc
call_kind ZeroWord k p r = simp and_then_assoc
call_kind DeleteWord k p r = refl
call_kind ExitWord k p r = simp and_then_assoc
call_kind BreakWord k p r = refl
call_kind ContinueWord k p r = refl
call_kind ReturnWord k p r = refl
call_kind _ k p r = refl

pub call_is : (ts : List Item) → reads CallOrJump ts ≡ call_by (call_at ts) ts
call_is [] = reads_is CallOrJump []
call_is (t ∷ r) = rw (reads_is CallOrJump (t ∷ r)) (call_kind t.class t.kind t.place r)

-- ---- simple statements

step_or_call_at : (t : Item) (r : List Item) (b : Bool) → is_step t.class ≡ b
    → read reads (Or (Then step_stmt (Tok is_step) (Call Assignable)) (Call CallOrJump)) (t ∷ r) ≡ step_or_call (step_at (t ∷ r)) (t ∷ r)
step_or_call_at t r true h = rw (step_class t.class, h) refl
step_or_call_at t r false h = rw (step_class t.class, h) refl

simple_at : (t : Item) (r : List Item) (b d : Bool) → is MapName t.class ≡ b → is VarName t.class ≡ d → read reads (rule Simple) (t ∷ r) ≡ simple_by (t ∷ r)
simple_at t r true d h i = rw h (simp and_then_assoc)
simple_at t r false true h i = rw (h, i) (simp and_then_assoc)
simple_at t r false false h i = rw (h, i) (step_or_call_at t r (is_step t.class) refl)

pub simple_is : (ts : List Item) → reads Simple ts ≡ simple_by ts
simple_is [] = reads_is Simple []
simple_is (t ∷ r) = rw (reads_is Simple (t ∷ r)) (simple_at t r (is MapName t.class) (is VarName t.class) refl refl)
