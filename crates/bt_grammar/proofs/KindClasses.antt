-- Which kinds the tokens of a class have.
use Rattle.std.proofs.Common.{◌≡◌, ℕ, Bool, true, false, cond, List, ◌∷◌, Option, Some, None, refl, ap, sym, ◌∙◌, arith}
use Rattle.std.specs.Prelude.{nat_lt, nat_eq, bytes_eq, not, []}
use Rattle.std.proofs.lemmas.Bool.{false≢true}
use Rattle.std.proofs.lemmas.Bool.Decides.{nat_tests}
use Rattle.bt_lexer.specs.declared.token.TokenKind.{TokenKind}
use Rattle.bt_lexer.specs.declared.token.TokenKind.TheVariants as kinds
use Rattle.bt_ast.specs.declared.probe.Point.{Point}
use Rattle.bt_ast.specs.declared.probe.Point.TheVariants as points
use Rattle.bt_grammar.specs.declared.class.Class.{Class}
use Rattle.bt_grammar.specs.declared.class.Class.TheVariants.{BuiltinWord, GatherWord, Operator, UpdateMark, OtherWord, TracepointPoint, IntervalPoint, MapName, VarName, NumberLiteral, TextLiteral, Foreign}
use Rattle.bt_grammar.specs.Attach.{attach_point}
use Rattle.bt_grammar.specs.Classes.{class_number, is_word}
use Rattle.bt_grammar.specs.Tokens.{point_class, class_of, origin}
use Rattle.bt_grammar.specs.Words.{words, marks, class_in, word_class, mark_class}
use Rattle.bt_grammar.proofs.AllClasses.{passes_all, and_first, and_second, implies1}
use Rattle.bt_grammar.specs.Trees.{kind_bytes, kind_number}

abbrev pub is_mark : Class → Bool
is_mark (Operator op) = true
is_mark (UpdateMark op) = true
is_mark (BuiltinWord builtin) = false
is_mark (GatherWord gathering) = false
is_mark c = nat_lt 24 (class_number c)

abbrev pub is_attach : Class → Bool
is_attach TracepointPoint = true
is_attach IntervalPoint = true
is_attach Foreign = true
is_attach _ = false

-- ---- what is found in a list is of one of its rows

found_passes : (P : Class → Bool) (rows : List (List ℕ × Class)) (text : List ℕ) (other : Class) → passes_all (λ (row : List ℕ × Class). P row.1) rows ≡ true → P other ≡ true → P (class_in rows text other) ≡ true
found_passes P [] text other h k = k
found_passes P (row ∷ rows) text other h k = by (bytes_eq row.0 text) (found_passes P rows text other (and_second (P row.1) (passes_all (λ (row : List ℕ × Class). P row.1) rows) h) k)
  where
    by : (b : Bool) → P (class_in rows text other) ≡ true → P (cond b row.1 (class_in rows text other)) ≡ true
    by true rest = and_first (P row.1) (passes_all (λ (row : List ℕ × Class). P row.1) rows) h
    by false rest = rest

pub word_is_word : (w : List ℕ) → is_word (word_class w) ≡ true
unfolding word_class
word_is_word w = found_passes is_word words w OtherWord refl refl

pub mark_is_mark : (m : List ℕ) → is_mark (mark_class m) ≡ true
unfolding mark_class
mark_is_mark m = found_passes is_mark marks m Foreign refl refl

pub point_is_attach : (o : Option Point) → is_attach (point_class o) ≡ true
point_is_attach None = refl
point_is_attach (Some (points.Begin p)) = refl
point_is_attach (Some (points.End p)) = refl
point_is_attach (Some (points.Tracepoint s n p)) = refl
point_is_attach (Some (points.Interval u n p)) = refl

no_word : (c : Class) (w : List ℕ) → c ≡ word_class w → is_word c ≡ false → ⊥
no_word c w e h = false≢true (sym h ∙ (ap is_word e ∙ word_is_word w))

no_mark : (c : Class) (m : List ℕ) → c ≡ mark_class m → is_mark c ≡ false → ⊥
no_mark c m e h = false≢true (sym h ∙ (ap is_mark e ∙ mark_is_mark m))

no_attach : (c : Class) (o : Option Point) → c ≡ point_class o → is_attach c ≡ false → ⊥
no_attach c o e h = false≢true (sym h ∙ (ap is_attach e ∙ point_is_attach o))

pub apart : (c d : Class) → c ≡ d → nat_eq (class_number c) (class_number d) ≡ false → ⊥
apart c d e h = false≢true (sym h ∙ (ap (λ (x : Class). nat_eq (class_number c) (class_number x)) (sym e) ∙ same (class_number c)))
  where
    same : (n : ℕ) → nat_eq n n ≡ true
    same n = grind (arith, nat_tests)

pub map_kind : (k : TokenKind) → MapName ≡ class_of k → k ≡ kinds.Map (kind_bytes k)
map_kind (kinds.Word x) e = absurd (no_word MapName x e refl)
map_kind (kinds.Attach x) e = absurd (no_attach MapName (attach_point x origin) e refl)
map_kind (kinds.Map x) e = refl
map_kind (kinds.Var x) e = absurd (apart MapName VarName e refl)
map_kind (kinds.Number x) e = absurd (apart MapName NumberLiteral e refl)
map_kind (kinds.Text x) e = absurd (apart MapName TextLiteral e refl)
map_kind (kinds.Mark x) e = absurd (no_mark MapName x e refl)

pub var_kind : (k : TokenKind) → VarName ≡ class_of k → k ≡ kinds.Var (kind_bytes k)
var_kind (kinds.Word x) e = absurd (no_word VarName x e refl)
var_kind (kinds.Attach x) e = absurd (no_attach VarName (attach_point x origin) e refl)
var_kind (kinds.Map x) e = absurd (apart VarName MapName e refl)
var_kind (kinds.Var x) e = refl
var_kind (kinds.Number x) e = absurd (apart VarName NumberLiteral e refl)
var_kind (kinds.Text x) e = absurd (apart VarName TextLiteral e refl)
var_kind (kinds.Mark x) e = absurd (no_mark VarName x e refl)

pub number_kind : (k : TokenKind) → NumberLiteral ≡ class_of k → k ≡ kinds.Number (kind_number k)
number_kind (kinds.Word x) e = absurd (no_word NumberLiteral x e refl)
number_kind (kinds.Attach x) e = absurd (no_attach NumberLiteral (attach_point x origin) e refl)
number_kind (kinds.Map x) e = absurd (apart NumberLiteral MapName e refl)
number_kind (kinds.Var x) e = absurd (apart NumberLiteral VarName e refl)
number_kind (kinds.Number x) e = refl
number_kind (kinds.Text x) e = absurd (apart NumberLiteral TextLiteral e refl)
number_kind (kinds.Mark x) e = absurd (no_mark NumberLiteral x e refl)

pub text_kind : (k : TokenKind) → TextLiteral ≡ class_of k → k ≡ kinds.Text (kind_bytes k)
text_kind (kinds.Word x) e = absurd (no_word TextLiteral x e refl)
text_kind (kinds.Attach x) e = absurd (no_attach TextLiteral (attach_point x origin) e refl)
text_kind (kinds.Map x) e = absurd (apart TextLiteral MapName e refl)
text_kind (kinds.Var x) e = absurd (apart TextLiteral VarName e refl)
text_kind (kinds.Number x) e = absurd (apart TextLiteral NumberLiteral e refl)
text_kind (kinds.Text x) e = refl
text_kind (kinds.Mark x) e = absurd (no_mark TextLiteral x e refl)

pub tracepoint_kind : (k : TokenKind) → TracepointPoint ≡ class_of k → k ≡ kinds.Attach (kind_bytes k)
tracepoint_kind (kinds.Word x) e = absurd (no_word TracepointPoint x e refl)
tracepoint_kind (kinds.Attach x) e = refl
tracepoint_kind (kinds.Map x) e = absurd (apart TracepointPoint MapName e refl)
tracepoint_kind (kinds.Var x) e = absurd (apart TracepointPoint VarName e refl)
tracepoint_kind (kinds.Number x) e = absurd (apart TracepointPoint NumberLiteral e refl)
tracepoint_kind (kinds.Text x) e = absurd (apart TracepointPoint TextLiteral e refl)
tracepoint_kind (kinds.Mark x) e = absurd (no_mark TracepointPoint x e refl)

pub interval_kind : (k : TokenKind) → IntervalPoint ≡ class_of k → k ≡ kinds.Attach (kind_bytes k)
interval_kind (kinds.Word x) e = absurd (no_word IntervalPoint x e refl)
interval_kind (kinds.Attach x) e = refl
interval_kind (kinds.Map x) e = absurd (apart IntervalPoint MapName e refl)
interval_kind (kinds.Var x) e = absurd (apart IntervalPoint VarName e refl)
interval_kind (kinds.Number x) e = absurd (apart IntervalPoint NumberLiteral e refl)
interval_kind (kinds.Text x) e = absurd (apart IntervalPoint TextLiteral e refl)
interval_kind (kinds.Mark x) e = absurd (no_mark IntervalPoint x e refl)

pub point_no_word : (o : Option Point) → is_word (point_class o) ≡ true → ⊥
point_no_word None h = false≢true h
point_no_word (Some (points.Begin p)) h = false≢true h
point_no_word (Some (points.End p)) h = false≢true h
point_no_word (Some (points.Tracepoint s n p)) h = false≢true h
point_no_word (Some (points.Interval u n p)) h = false≢true h

pub mark_no_word : (c : Class) → is_mark c ≡ true → is_word c ≡ true → ⊥
mark_no_word c h k = opposed (is_word c) k (implies1 is_mark (λ d. not (is_word d)) refl c h)
  where
    opposed : (b : Bool) → b ≡ true → not b ≡ true → ⊥
    opposed true e n = false≢true n
    opposed false e n = false≢true e

pub word_kind : (c : Class) (k : TokenKind) → c ≡ class_of k → is_word c ≡ true → k ≡ kinds.Word (kind_bytes k)
word_kind c (kinds.Word x) e h = refl
word_kind c (kinds.Attach x) e h = absurd (point_no_word (attach_point x origin) (ap is_word (sym e) ∙ h))
word_kind c (kinds.Map x) e h = absurd (false≢true (ap is_word (sym e) ∙ h))
word_kind c (kinds.Var x) e h = absurd (false≢true (ap is_word (sym e) ∙ h))
word_kind c (kinds.Number x) e h = absurd (false≢true (ap is_word (sym e) ∙ h))
word_kind c (kinds.Text x) e h = absurd (false≢true (ap is_word (sym e) ∙ h))
word_kind c (kinds.Mark x) e h = absurd (mark_no_word (mark_class x) (mark_is_mark x) (ap is_word (sym e) ∙ h))
