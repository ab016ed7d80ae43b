-- The front of tokens, by the list of their classes.
use Rattle.std.proofs.Common.{◌≡◌, ℕ, zero, suc, ◌+◌, ◌^◌, Option, ◌<◌, ◌≤◌, Bool, true, false, List, [], ◌∷◌, length, get_or, take, Some, None, refl, sym, ◌∙◌, ap, subst, arith}
use Rattle.std.specs.Prelude.{ℤ, IfSome}
use Rattle.std.proofs.lemmas.List.{length-map, length-take-le}
use Rattle.bt_lexer.specs.declared.token.Token.{Token}
use Rattle.bt_lexer.specs.declared.token.TokenKind.{TokenKind}
use Rattle.bt_lexer.specs.declared.token.TokenKind.TheVariants as kinds
use Rattle.bt_grammar.specs.declared.class.Class.{Class}
use Rattle.bt_grammar.specs.declared.class.Class.TheVariants.{NumberLiteral}
use Rattle.bt_grammar.specs.declared.class.Tier.{Tier}
use Rattle.bt_grammar.specs.Classes.{is, is_point, is_word, joins}
use Rattle.bt_grammar.specs.Form.{Item, brace_next, is_brace}
use Rattle.bt_grammar.specs.Reading.{Done, Refused, read, reads, rest_of, starts}
use Rattle.bt_grammar.specs.Rules.{a_number, ends}
use Rattle.bt_grammar.specs.Tokens.{class_of, items}
use Rattle.bt_grammar.specs.Trees.{kind_bytes, kind_number, point_of}
use Rattle.bt_grammar.proofs.KindClasses.{word_is_word}
use Rattle.bt_parser.specs.ClassLists.{classes_of}
use Rattle.bt_ast.specs.declared.probe.Point.{Point}
use Rattle.bt_parser.specs.Probes.{point_form}
use Rattle.bt_core.specs.declared.place.Place.{Place}
use Rattle.bt_parser.specs.Mirror.{class_at, front_place, is_word_kind, named_form, operator_at, when, word_form}
use Rattle.bt_parser.proofs.WordKinds.{word_kinds}

pub front_class : (rest now : List Token) (classes : List Class) (d : Class) → classes ≡ classes_of rest → rest ≡ now → 1 ≤ length classes → Some (get_or classes 0 d) ≡ class_at (items now)
front_class [] now classes d e v some = let h : length classes ≡ 0 = ap length e in absurd (omega arith)
front_class (t ∷ rest) now classes d e v some = ap (λ z. Some (get_or z 0 d)) e ∙ ap (λ z. class_at (items z)) v

-- where there is a class, there is a token
pub front_there : (rest now : List Token) (classes : List Class) → classes ≡ classes_of rest → rest ≡ now → 1 ≤ length classes → 0 < length now
front_there [] now classes e v some = let h : length classes ≡ 0 = ap length e in absurd (omega arith)
front_there (t ∷ rest) now classes e v some = let h : length (t ∷ rest) ≡ length now = ap length v in omega arith

pub second_there : (rest now : List Token) (classes : List Class) → classes ≡ classes_of rest → rest ≡ now → 2 ≤ length classes → 1 < length now
second_there [] now classes e v some = let h : length classes ≡ 0 = ap length e in absurd (omega arith)
second_there (t ∷ []) now classes e v some = let h : length classes ≡ 1 = ap length e in absurd (omega arith)
second_there (t ∷ u ∷ rest) now classes e v some = let h : length (t ∷ u ∷ rest) ≡ length now = ap length v in omega arith

pub no_front : (rest now : List Token) (classes : List Class) → classes ≡ classes_of rest → rest ≡ now → length classes < 1 → None ≡ class_at (items now)
no_front [] now classes e v none = ap (λ z. class_at (items z)) v
no_front (t ∷ rest) now classes e v none = let h : length classes ≡ suc (length (classes_of rest)) = ap length e in absurd (omega arith)

-- the class behind the front
pub second_class : (rest now : List Token) (classes : List Class) (d : Class) → classes ≡ classes_of rest → rest ≡ now → 2 ≤ length classes → is_brace (get_or classes 1 d) ≡ brace_next (rest_of (items now))
second_class [] now classes d e v some = let h : length classes ≡ 0 = ap length e in absurd (omega arith)
second_class (t ∷ []) now classes d e v some = let h : length classes ≡ 1 = ap length e in absurd (omega arith)
second_class (t ∷ u ∷ rest) now classes d e v some = ap (λ z. is_brace (get_or z 1 d)) e ∙ ap (λ z. brace_next (rest_of (items z))) v

pub no_second : (rest now : List Token) (classes : List Class) → classes ≡ classes_of rest → rest ≡ now → length classes < 2 → false ≡ brace_next (rest_of (items now))
no_second [] now classes e v none = ap (λ z. brace_next (rest_of (items z))) v
no_second (t ∷ []) now classes e v none = ap (λ z. brace_next (rest_of (items z))) v
no_second (t ∷ u ∷ rest) now classes e v none = let h : length classes ≡ suc (suc (length (classes_of rest))) = ap length e in absurd (omega arith)

-- whether the class behind the front is the expected one
pub second_is : (rest now : List Token) (classes : List Class) (k d : Class) → classes ≡ classes_of rest → rest ≡ now → 2 ≤ length classes
    → is k (get_or classes 1 d) ≡ starts (ends k) (rest_of (items now))
second_is [] now classes k d e v some = let h : length classes ≡ 0 = ap length e in absurd (omega arith)
second_is (t ∷ []) now classes k d e v some = let h : length classes ≡ 1 = ap length e in absurd (omega arith)
second_is (t ∷ u ∷ rest) now classes k d e v some = ap (λ z. is k (get_or z 1 d)) e ∙ ap (λ z. starts (ends k) (rest_of (items z))) v

pub second_none : (rest now : List Token) (classes : List Class) (k : Class) → classes ≡ classes_of rest → rest ≡ now → length classes < 2
    → false ≡ starts (ends k) (rest_of (items now))
second_none [] now classes k e v none = ap (λ z. starts (ends k) (rest_of (items z))) v
second_none (t ∷ []) now classes k e v none = ap (λ z. starts (ends k) (rest_of (items z))) v
second_none (t ∷ u ∷ rest) now classes k e v none = let h : length classes ≡ suc (suc (length (classes_of rest))) = ap length e in absurd (omega arith)

-- the classes of a front
pub classes_of-take : (n : ℕ) (tokens : List Token) → take n (classes_of tokens) ≡ classes_of (take n tokens)
classes_of-take zero tokens = refl
classes_of-take (suc n) [] = refl
classes_of-take (suc n) (t ∷ tokens) = ap (λ z. class_of t.kind ∷ z) (classes_of-take n tokens)

pub operator_is : (p : Bool) (tier : Tier) (ts : List Item) (c : Class) → Some c ≡ class_at ts → when (joins p tier c (brace_next (rest_of ts))) c ≡ operator_at p tier ts
operator_is p tier [] c e = cc (e)
operator_is p tier (t ∷ r) c e = let same : c ≡ t.class = cc (e) in ap (λ k. when (joins p tier k (brace_next r)) k) same

-- the class of the token at the front
pub token_class : (rest now : List Token) (t : Token) (k : Class) (b : Bool) → rest ≡ now → 1 ≤ length rest → t ≡ get_or rest 0 t → b ≡ true → b ≡ starts (ends k) (items now) → is k (class_of t.kind) ≡ true
token_class [] now t k b v some e h s = absurd (omega arith)
token_class (u ∷ rest) now t k b v some e h s = ap (λ z. is k (class_of z.kind)) e ∙ ap (λ z. starts (ends k) (items z)) v ∙ sym s ∙ h

not_word : (kind : TokenKind) → ((bytes : List ℕ) → kind ≡ kinds.Word bytes → ⊥) → is_word_kind kind ≡ false
not_word (kinds.Word bytes) h = absurd (h bytes refl)
not_word (kinds.Attach bytes) h = refl
not_word (kinds.Map name) h = refl
not_word (kinds.Var name) h = refl
not_word (kinds.Number n) h = refl
not_word (kinds.Text text) h = refl
not_word (kinds.Mark mark) h = refl

-- a token that is no word is refused
pub no_word : (rest now : List Token) (t : Token) → rest ≡ now → 1 ≤ length rest → t ≡ get_or rest 0 t → ((bytes : List ℕ) → t.kind ≡ kinds.Word bytes → ⊥)
    → read reads word_form (items now) ≡ Refused (items now)
no_word [] now t v some e h = absurd (omega arith)
no_word (u ∷ rest) now t v some e h =
    let other : is_word (class_of u.kind) ≡ false = word_kinds u.kind ∙ ap (λ (z : Token). is_word_kind z.kind) (sym e) ∙ not_word t.kind h in
    subst (λ z. read reads word_form (items z) ≡ Refused (items z)) v (rw other refl)

-- a word is answered with its bytes and its place
pub a_word : (rest now : List Token) (t : Token) (word bytes : List ℕ) (place : Place) (left : List Item) → rest ≡ now → 1 ≤ length rest → t ≡ get_or rest 0 t
    → t.kind ≡ kinds.Word word → bytes ≡ word → place ≡ front_place (items now) → left ≡ rest_of (items now)
    → read reads word_form (items now) ≡ Done (record { bytes = bytes; place = place }) left
a_word [] now t word bytes place left v some e k b p l = absurd (omega arith)
a_word (u ∷ rest) now t word bytes place left v some e k b p l =
    let here : u.kind ≡ kinds.Word word = ap (λ (z : Token). z.kind) (sym e) ∙ k in
    let is_one : is_word (class_of u.kind) ≡ true = ap (λ z. is_word (class_of z)) here ∙ word_is_word word in
    let same_bytes : kind_bytes u.kind ≡ bytes = ap kind_bytes here ∙ sym b in
    let same_place : u.place ≡ place = ap (λ z. front_place (items z)) v ∙ sym p in
    let same_left : items rest ≡ left = ap (λ z. rest_of (items z)) v ∙ sym l in
    subst (λ z. read reads word_form (items z) ≡ Done (record { bytes = bytes; place = place }) left) v (rw is_one (cc (same_place, same_left, same_bytes)))

-- a token of the class is answered with its bytes and its place
pub a_named : (rest now : List Token) (t : Token) (k : Class) (bytes : List ℕ) (place : Place) (left : List Item) → rest ≡ now → 1 ≤ length rest → t ≡ get_or rest 0 t
    → is k (class_of t.kind) ≡ true → bytes ≡ kind_bytes t.kind → place ≡ front_place (items now) → left ≡ rest_of (items now)
    → read reads (named_form k) (items now) ≡ Done (record { bytes = bytes; place = place }) left
a_named [] now t k bytes place left v some e h b p l = absurd (omega arith)
a_named (u ∷ rest) now t k bytes place left v some e h b p l =
    let is_one : is k (class_of u.kind) ≡ true = ap (λ (z : Token). is k (class_of z.kind)) (sym e) ∙ h in
    let same_bytes : kind_bytes u.kind ≡ bytes = ap (λ (z : Token). kind_bytes z.kind) (sym e) ∙ sym b in
    let same_place : u.place ≡ place = ap (λ z. front_place (items z)) v ∙ sym p in
    let same_left : items rest ≡ left = ap (λ z. rest_of (items z)) v ∙ sym l in
    subst (λ z. read reads (named_form k) (items z) ≡ Done (record { bytes = bytes; place = place }) left) v (rw is_one (cc (same_place, same_left, same_bytes)))

-- no token is left
pub no_token : (rest now : List Token) → rest ≡ now → length rest < 1 → now ≡ []
no_token [] now v none = sym v
no_token (t ∷ rest) now v none = absurd (omega arith)

-- a number is answered
pub a_counted : (rest now : List Token) (t : Token) (n : ℤ) (left : List Item) → rest ≡ now → 1 ≤ length rest → t ≡ get_or rest 0 t
    → is NumberLiteral (class_of t.kind) ≡ true → n ≡ kind_number t.kind → left ≡ rest_of (items now) → read reads a_number (items now) ≡ Done n left
a_counted [] now t n left v some e h k l = absurd (omega arith)
a_counted (u ∷ rest) now t n left v some e h k l =
    let is_one : is NumberLiteral (class_of u.kind) ≡ true = ap (λ (z : Token). is NumberLiteral (class_of z.kind)) (sym e) ∙ h in
    let same_number : kind_number u.kind ≡ n = ap (λ (z : Token). kind_number z.kind) (sym e) ∙ sym k in
    let same_left : items rest ≡ left = ap (λ z. rest_of (items z)) v ∙ sym l in
    subst (λ z. read reads a_number (items z) ≡ Done n left) v (rw is_one (cc (same_left, same_number)))

-- ---- the front that ends behind a token

pub deep_within : (tokens : List Token) (classes : List Class) (found : Option ℕ) (deep : ℕ) → classes ≡ classes_of tokens → found ≡ Some deep
    → IfSome found (λ place. place < length classes) → deep < length tokens
deep_within tokens classes found deep e f w =
    let h : deep < length classes = subst (λ z. IfSome z (λ place. place < length classes)) f w in
    let same : length classes ≡ length tokens = ap length e ∙ length-map tokens (λ (t : Token). class_of t.kind) in
    omega (arith, h, same)

pub front_length : (tokens : List Token) (deep : ℕ) → deep < length tokens → length (take (deep + 1) tokens) ≡ deep + 1
front_length tokens deep h = length-take-le (deep + 1) tokens (omega arith)

pub front_short : (tokens : List Token) (deep : ℕ) → deep < length tokens → length tokens < 2 ^ 32 → length (take (deep + 1) tokens) < 2 ^ 32
front_short tokens deep h short = omega (arith, front_length tokens deep h)

-- where there is a token, there is a class
pub class_there : (rest : List Token) (classes : List Class) → classes ≡ classes_of rest → 1 ≤ length rest → 0 < length classes
class_there [] classes e some = absurd (omega arith)
class_there (t ∷ rest) classes e some = let h : length classes ≡ suc (length (classes_of rest)) = ap length e in omega arith

-- the class that stands beside a token is that of the token
pub front_kind : (rest : List Token) (classes : List Class) (t : Token) (d : Class) → classes ≡ classes_of rest → 1 ≤ length rest → t ≡ get_or rest 0 t
    → get_or classes 0 d ≡ class_of t.kind
front_kind [] classes t d e some h = absurd (omega arith)
front_kind (u ∷ rest) classes t d e some h = ap (λ z. get_or z 0 d) e ∙ ap (λ (z : Token). class_of z.kind) (sym h)

-- a token that a probe may be attached to is answered as its point
pub a_point : (rest now : List Token) (t : Token) (k : Class) (point : Point) (left : List Item) → rest ≡ now → 1 ≤ length rest → t ≡ get_or rest 0 t → k ≡ class_of t.kind
    → true ≡ is_point k → point ≡ point_of k t.kind t.place → left ≡ rest_of (items now) → read reads point_form (items now) ≡ Done point left
a_point [] now t k point left v some e s h p l = absurd (omega arith)
a_point (u ∷ rest) now t k point left v some e s h p l =
    let is_one : is_point (class_of u.kind) ≡ true = ap (λ (z : Token). is_point (class_of z.kind)) (sym e) ∙ ap is_point (sym s) ∙ sym h in
    let same_point : point_of (class_of u.kind) u.kind u.place ≡ point =
    ap (λ (z : Token). point_of (class_of z.kind) z.kind z.place) (sym e) ∙ ap (λ z. point_of z t.kind t.place) (sym s) ∙ sym p in
    let same_left : items rest ≡ left = ap (λ z. rest_of (items z)) v ∙ sym l in
    subst (λ z. read reads point_form (items z) ≡ Done point left) v (rw is_one (cc (same_point, same_left)))

-- any other is refused
pub no_point : (rest now : List Token) (t : Token) (k : Class) → rest ≡ now → 1 ≤ length rest → t ≡ get_or rest 0 t → k ≡ class_of t.kind → false ≡ is_point k
    → read reads point_form (items now) ≡ Refused (items now)
no_point [] now t k v some e s h = absurd (omega arith)
no_point (u ∷ rest) now t k v some e s h =
    let other : is_point (class_of u.kind) ≡ false = ap (λ (z : Token). is_point (class_of z.kind)) (sym e) ∙ ap is_point (sym s) ∙ sym h in
    subst (λ z. read reads point_form (items z) ≡ Refused (items z)) v (rw other refl)

-- what a test holds of is the class of which it holds
pub when_is : (b : Bool) (c : Class) (r : Option Class) (test : Class → Bool) → r ≡ when b c → b ≡ test c → IfSome r (λ k. test k ≡ true)
when_is true c r test e h = subst (λ z. IfSome z (λ k. test k ≡ true)) (sym e) (sym h)
when_is false c r test e h = subst (λ z. IfSome z (λ k. test k ≡ true)) (sym e) tt
