-- What is found of calls by a key.
use Rattle.std.proofs.Common.{◌≡◌, ◌++◌, ◌+◌, ◌==◌, ◌&&◌, ◌||◌, ℕ, suc, Bool, true, false, cond, List, [], ◌∷◌, length, map, unwrap_or, Option, Some, None, refl, sym, ap, subst, ◌∙◌, arith}
use Rattle.std.specs.Prelude.{MatchOption}
use Rattle.std.specs.Bool.{one_answer}
use Rattle.std.specs.List.{position, position_from}
use Rattle.std.proofs.lemmas.Iterator.Adapters.{position_from-zero}
use Rattle.std.specs.Map.{keys_of, values_of, lookup}
use Rattle.std.specs.Str.{bytes_eq}
use Rattle.std.proofs.lemmas.Bool.{eqb-true, eq-eqb}
use Rattle.std.proofs.lemmas.List.{map-append}
use Rattle.indexmap.specs.IndexMap.{insert_entry}
use Rattle.bt_core.specs.declared.place.Place.{Place}
use Rattle.fmt_text.specs.declared.piece.Piece.{Piece}
use Rattle.expr_types.specs.declared.known.Printed.{Printed}
use Rattle.expr_types.specs.Indexed.{calls_by}
use Rattle.fmt_text.specs.Deciding.{format_pieces}
use Rattle.expr_types.specs.Known.{is_call, has_call, call_at, printed}
use Rattle.expr_types.proofs.Finding.{same_self}
use Rattle.expr_types.proofs.Indexing.{bytes_eq-sym, inserted_last}

eqb-sym : (a b : ℕ) → (a == b) ≡ (b == a)
eqb-sym a b = one_answer (a == b) (b == a) (eqb-true a b, eq-eqb a b) (λ h. sym (eqb-true b a h), λ h. eq-eqb b a (sym h))

grouped : (a b c : Bool) → (a && (b && c)) ≡ ((a && b) && c)
grouped true b c = refl
grouped false b c = refl

-- a key that is a call's
pub key_is : (line column : ℕ) (text format : List ℕ) (place : Place) (key_line key_column : ℕ) (key_text : List ℕ) → key_line ≡ place.line → key_column ≡ place.column → key_text ≡ format
    → (key_line == line && (key_column == column && bytes_eq key_text text)) ≡ (line == place.line && column == place.column && bytes_eq text format)
key_is line column text format place key_line key_column key_text f g h =
    let a : (key_line == line) ≡ (line == place.line) = eqb-sym key_line line ∙ ap (λ n. line == n) f in
    let b : (key_column == column) ≡ (column == place.column) = eqb-sym key_column column ∙ ap (λ n. column == n) g in
    let c : bytes_eq key_text text ≡ bytes_eq text format = bytes_eq-sym key_text text ∙ ap (bytes_eq text) h in
    rw (a, b, c) (grouped (line == place.line) (column == place.column) (bytes_eq text format))

-- one more in front of a search from the next place on
one_more : (b rest : Bool) (at i : ℕ) (r : Option ℕ) → MatchOption r (rest ≡ false) (λ n. (rest ≡ true) × (n ≡ at + (i + 1))) → MatchOption (cond b (Some i) r) ((b || rest) ≡ false) (λ n. ((b || rest) ≡ true) × (n ≡ cond b 0 (at + 1) + i))
one_more true rest at i r h = (refl, omega arith)
one_more false rest at i None h = h
one_more false rest at i (Some n) h = (h.0, (let e = h.1 in omega arith))

-- what a search by key finds, counted from a place
found_from : {K : Type 0} (place_of : K → Place) (text_of : K → List ℕ) (test : K → Bool) (format : List ℕ) (place : Place) → ((k : K) → test k ≡ is_call format place (record { place = place_of k; text = text_of k; pieces = [] })) → (i : ℕ) (es : List (K × List Piece))
    → MatchOption (position_from test i (keys_of es)) (has_call format place (calls_by place_of text_of es) ≡ false)
    (λ n. (has_call format place (calls_by place_of text_of es) ≡ true) × (n ≡ call_at format place (calls_by place_of text_of es) + i))
found_from place_of text_of test format place h i [] = refl
found_from place_of text_of test format place h i (e ∷ es) =
    let c : Printed = record { place = place_of e.0; text = text_of e.0; pieces = e.1 } in
    let rest : List Printed = calls_by place_of text_of es in
    subst (λ (b : Bool). MatchOption (cond b (Some i) (position_from test (i + 1) (keys_of es))) ((is_call format place c || has_call format place rest) ≡ false)
    (λ n. ((is_call format place c || has_call format place rest) ≡ true) × (n ≡ cond (is_call format place c) 0 (call_at format place rest + 1) + i)))
    (sym (h e.0))
    (one_more (is_call format place c) (has_call format place rest) (call_at format place rest) i (position_from test (i + 1) (keys_of es)) (found_from place_of text_of test format place h (i + 1) es))

from_zero : (rest : Bool) (at : ℕ) (r : Option ℕ) → MatchOption r (rest ≡ false) (λ n. (rest ≡ true) × (n ≡ at + 0)) → MatchOption r (rest ≡ false) (λ n. (rest ≡ true) × (n ≡ at))
from_zero rest at None h = h
from_zero rest at (Some n) h = (h.0, (let e = h.1 in omega arith))

-- what a search by key finds
pub call_found : {K : Type 0} (place_of : K → Place) (text_of : K → List ℕ) (test : K → Bool) (format : List ℕ) (place : Place) (es : List (K × List Piece)) (calls : List Printed) (r : Option ℕ)
    → ((k : K) → test k ≡ is_call format place (record { place = place_of k; text = text_of k; pieces = [] })) → calls_by place_of text_of es ≡ calls → r ≡ position test (keys_of es)
    → MatchOption r (has_call format place calls ≡ false) (λ n. (has_call format place calls ≡ true) × (n ≡ call_at format place calls))
call_found place_of text_of test format place es calls r h seen is =
    let all : List Printed = calls_by place_of text_of es in
    let found = found_from place_of text_of test format place h 0 es in
    let plain = from_zero (has_call format place all) (call_at format place all) (position_from test 0 (keys_of es)) found in
    subst (λ (o : Option ℕ). MatchOption o (has_call format place calls ≡ false) (λ n. (has_call format place calls ≡ true) × (n ≡ call_at format place calls))) (sym (is ∙ position_from-zero test (keys_of es)))
    (subst (λ (l : List Printed). MatchOption (position_from test 0 (keys_of es)) (has_call format place l ≡ false) (λ n. (has_call format place l ≡ true) × (n ≡ call_at format place l))) seen plain)

-- a key that no call has
no_call : {K : Type 0} (place_of : K → Place) (text_of : K → List ℕ) (test : K → Bool) (format : List ℕ) (place : Place) → ((k : K) → test k ≡ is_call format place (record { place = place_of k; text = text_of k; pieces = [] })) → (es : List (K × List Piece))
    → has_call format place (calls_by place_of text_of es) ≡ false → lookup test es ≡ None
no_call place_of text_of test format place h [] g = refl
no_call place_of text_of test format place h (e ∷ es) g =
    let c : Printed = record { place = place_of e.0; text = text_of e.0; pieces = e.1 } in
    let rest : Bool = has_call format place (calls_by place_of text_of es) in
    let P : Bool → Type 0 = λ b. (b || rest) ≡ false → cond b (Some e.1) (lookup test es) ≡ None in
    let yes : P true = λ f. cc in
    let no : P false = λ f. no_call place_of text_of test format place h es f in
    subst (λ (b : Bool). cond b (Some e.1) (lookup test es) ≡ None) (sym (h e.0)) (elim (is_call format place c) as P [ true ↦ yes | false ↦ no ] g)

-- a call that is added
pub call_pushed : {K : Type 0} (place_of : K → Place) (text_of : K → List ℕ) (eq : K → K → Bool) (k : K) (format : List ℕ) (place : Place) (pieces : List Piece) (es new : List (K × List Piece)) (old : List Printed)
    → ((j : K) → eq k j ≡ is_call format place (record { place = place_of j; text = text_of j; pieces = [] })) → calls_by place_of text_of es ≡ old → has_call format place old ≡ false → place_of k ≡ place → text_of k ≡ format → new ≡ insert_entry eq es k pieces
    → calls_by place_of text_of new ≡ old ++ (let c : Printed = record { place = place; text = format; pieces = pieces } in c) ∷ []
call_pushed {K} place_of text_of eq k format place pieces es new old h seen asked placed written made =
    let of : K × List Piece → Printed = λ e. record { place = place_of e.0; text = text_of e.0; pieces = e.1 } in
    let none = no_call place_of text_of (eq k) format place h es (ap (has_call format place) seen ∙ asked) in
    let longer : new ≡ es ++ (k, pieces) ∷ [] = made ∙ inserted_last eq k pieces es none in
    let call : of (k, pieces) ≡ (let c : Printed = record { place = place; text = format; pieces = pieces } in c) = cc in
    ap (calls_by place_of text_of) longer ∙ (map-append of es ((k, pieces) ∷ []) ∙ (ap (λ (l : List Printed). l ++ of (k, pieces) ∷ []) seen ∙ ap (λ (c : Printed). old ++ c ∷ []) call))

pub pieces_held : {K : Type 0} (place_of : K → Place) (text_of : K → List ℕ) (es : List (K × List Piece)) → map (λ (c : Printed). c.pieces) (calls_by place_of text_of es) ≡ values_of es
pieces_held place_of text_of [] = refl
pieces_held place_of text_of (e ∷ es) = ap (λ (l : List (List Piece)). e.1 ∷ l) (pieces_held place_of text_of es)

-- a call is itself
pub same_place : (n : ℕ) → (n == n) ≡ true
same_place n = eq-eqb n n refl

pub itself : (format : List ℕ) (place : Place) → is_call format place (printed format place) ≡ true
itself format place = (let a = same_place place.line in let b = same_place place.column in let c = same_self format in cc)

-- a new call is the last one
pub last_call : (format : List ℕ) (place : Place) (calls : List Printed) → has_call format place calls ≡ false → call_at format place (calls ++ printed format place ∷ []) ≡ length calls
last_call format place [] h = ap (λ (b : Bool). cond b 0 1) (itself format place)
last_call format place (p ∷ ps) h =
    elim (is_call format place p) as (λ b. (b || has_call format place ps) ≡ false → cond b 0 (call_at format place (ps ++ printed format place ∷ []) + 1) ≡ suc (length ps))
    [ true ↦ λ e. cc | false ↦ λ e. (let rest = last_call format place ps e in omega (arith, rest)) ] h

pub last_pushed : (format text : List ℕ) (place : Place) (pieces : List Piece) (calls now : List Printed) (number : ℕ) → has_call format place calls ≡ false → format_pieces format ≡ Some pieces → text ≡ format
    → number ≡ length calls → now ≡ calls ++ (let p : Printed = record { place = place; text = text; pieces = pieces } in p) ∷ [] → number ≡ call_at format place now
last_pushed format text place pieces calls now number none read same n is =
    let p : Printed = record { place = place; text = text; pieces = pieces } in
    let e : p ≡ printed format place =
    ap (λ (t : List ℕ). (let q : Printed = record { place = place; text = t; pieces = pieces } in q)) same
    ∙ ap (λ (o : Option (List Piece)). (let q : Printed = record { place = place; text = format; pieces = unwrap_or o [] } in q)) (sym read) in
    let last = last_call format place calls none in
    n ∙ (sym last ∙ (ap (λ (q : Printed). call_at format place (calls ++ q ∷ [])) (sym e) ∙ ap (call_at format place) (sym is)))
