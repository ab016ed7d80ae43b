-- Kinds of tokens, the bytes that write them, and the tokens of those bytes.
use Rattle.std.proofs.Common.{◌≡◌, ℕ, ◌^◌, ◌<◌, ◌≤◌, Bool, true, false, cond, ◌||◌, List, [], ◌∷◌, ◌++◌, length, Some, None, Result, Ok, Err, refl, ap, sym, subst, ◌∙◌, inl, arith, append_assoc}
use Rattle.std.specs.Prelude.{bytes_eq, codes, decimal}
use Rattle.std.specs.Int.{w64, cast_unsigned}
use Rattle.bt_lexer.specs.declared.token.Token.{Token}
use Rattle.bt_lexer.specs.declared.token.TokenKind.{TokenKind}
use Rattle.bt_lexer.specs.declared.token.TokenKind.TheVariants as kinds
use Rattle.bt_lexer.specs.declared.piece.Piece.{Piece}
use Rattle.bt_lexer.specs.declared.error.LexError.{LexError}
use Rattle.bt_lexer.specs.declared.error.LexError.TheVariants as faults
use Rattle.bt_lexer.specs.Scan.{piece_at, separator}
use Rattle.bt_lexer.specs.Tokens.{IsToken, IsWithinLimits, Stands, Pieces, IsCut, tokens_of, token_behind, first_line, IsTokensOf}
use Rattle.bt_lexer.proofs.Classes.{Blank, Other}
use Rattle.bt_lexer.proofs.Choices.{ne_test}
use Rattle.bt_lexer.proofs.Pieces.{form_at, some_byte, marks_pass}
use Rattle.bt_lexer.proofs.SeparatorPieces.{one_blank}
use Rattle.bt_lexer.proofs.Exact.{fault_complete}
use Rattle.bt_lexer.proofs.Blanks.{token_stands, blank_stands}
use Rattle.ast_text.specs.Words.{token, ending, quoted_bytes}
use Rattle.bt_grammar.specs.Form.{Item}
use Rattle.bt_grammar.specs.Tokens.{class_of, item, items}

-- ---- the bytes of a kind

-- a number by its 64 bits, a string with its escapes
abbrev pub spelled : TokenKind → List ℕ
spelled (kinds.Word word) = word
spelled (kinds.Attach point) = point
spelled (kinds.Map name) = name
spelled (kinds.Var name) = name
spelled (kinds.Number n) = decimal (cast_unsigned w64 n)
spelled (kinds.Text text) = 34 ∷ (quoted_bytes text ++ 34 ∷ [])
spelled (kinds.Mark mark) = mark

abbrev pub ends_line : TokenKind → Bool
ends_line (kinds.Mark mark) = bytes_eq mark (codes "{") || (bytes_eq mark (codes "}") || bytes_eq mark (codes ";"))
ends_line _ = false

-- with what stands behind it
abbrev pub lexeme : TokenKind → List ℕ
lexeme kind = cond (ends_line kind) (ending (spelled kind)) (token (spelled kind))

abbrev pub written : List TokenKind → List ℕ
written [] = []
written (k ∷ ks) = lexeme k ++ written ks

pub written_append : (ks ls : List TokenKind) → written (ks ++ ls) ≡ written ks ++ written ls
written_append [] ls = refl
written_append (k ∷ ks) ls = ap (λ (z : List ℕ). lexeme k ++ z) (written_append ks ls) ∙ sym (append_assoc (lexeme k) (written ks) (written ls))

-- ---- which kinds can be written

-- bytes of some text are a token of the kind
abbrev pub Sound : TokenKind → Type 0
Sound kind = (bs : List ℕ) × IsToken kind bs × IsWithinLimits kind bs

-- the kind's own bytes are
abbrev pub Valid : TokenKind → Type 0
Valid kind = IsToken kind (spelled kind) × IsWithinLimits kind (spelled kind)

abbrev pub AllValid : List TokenKind → Type 0
AllValid [] = Unit {0}
AllValid (k ∷ ks) = Valid k × AllValid ks

pub valid_append : (ks ls : List TokenKind) → AllValid ks → AllValid ls → AllValid (ks ++ ls)
valid_append [] ls v w = w
valid_append (k ∷ ks) ls v w = (v.0, valid_append ks ls v.1 w)

-- tokens of some text, each with its class
abbrev pub Honest : List Item → Type 0
Honest [] = Unit {0}
Honest (t ∷ r) = (t.class ≡ class_of t.kind) × Sound t.kind × Honest r

pub honest_front : (xs ys : List Item) → Honest (xs ++ ys) → Honest xs
honest_front [] ys h = tt
honest_front (x ∷ xs) ys h = (h.0, h.1, honest_front xs ys h.2)

pub honest_back : (xs ys : List Item) → Honest (xs ++ ys) → Honest ys
honest_back [] ys h = h
honest_back (x ∷ xs) ys h = honest_back xs ys h.2

-- the items are of these kinds
abbrev pub Are : List TokenKind → List Item → Type 0
Are [] ts = ts ≡ []
Are (k ∷ ks) ts = (t : Item) × (r : List Item) × (ts ≡ t ∷ r) × (t.kind ≡ k) × (t.class ≡ class_of k) × Are ks r

abbrev pub Split : List TokenKind → List TokenKind → List Item → Type 0
Split ks ls ts = (xs ys : List Item) × (ts ≡ xs ++ ys) × Are ks xs × Are ls ys

pub are_split : (ks ls : List TokenKind) (ts : List Item) → Are (ks ++ ls) ts → Split ks ls ts
are_split [] ls ts are = ([], ts, refl, refl, are)
are_split (k ∷ ks) ls ts (t, r, e, ek, ec, are) =
    let (xs, ys, e', a, b) = are_split ks ls r are in
    (t ∷ xs, ys, e ∙ ap (λ (z : List Item). t ∷ z) e', (t, xs, refl, ek, ec, a), b)

-- ---- the tokens of the bytes

ok_or_fault : (piece : Piece) (fault : LexError) (found : Result Piece LexError) → found ≡ Ok piece → found ≡ Err fault → ⊥
ok_or_fault piece fault found e f = cc

newline_found : (offset : ℕ) (rest : List ℕ) → piece_at offset (10 ∷ rest) ≡ separator 1
unfolding piece_at
newline_found offset rest = refl

newline_stands : (rest : List ℕ) → Stands None (10 ∷ []) rest
newline_stands rest = record {
  piece = inl (10, refl, refl);
  longest = λ more after kind e h. one_blank 10 more refl (form_at kind 10 more Blank refl h).1;
  sound = λ offset fault f. ok_or_fault (record { kind = None; len = 1 }) fault (piece_at offset (10 ∷ rest)) (newline_found offset rest) (fault_complete offset (10 ∷ rest) fault f);
}

abbrev CutAs : List TokenKind → List ℕ → List ℕ → Type 0
CutAs ks text before = (pieces : Pieces) × IsCut text pieces [] × Are ks (items (tokens_of before pieces))

one_cut : (end : Bool) (k : TokenKind) (ks : List TokenKind) (before w : List ℕ) → Valid k → ((before' : List ℕ) → CutAs ks w before')
    → CutAs (k ∷ ks) (cond end (ending (spelled k)) (token (spelled k)) ++ w) before
one_cut true k ks before w v more =
    let (pieces, cut, are) = more (((before ++ spelled k) ++ 32 ∷ []) ++ 10 ∷ []) in (
      (Some k, spelled k) ∷ ((None, 32 ∷ []) ∷ ((None, 10 ∷ []) ∷ pieces)),
      (
        32 ∷ (10 ∷ w),
        append_assoc (spelled k) (32 ∷ (10 ∷ [])) w,
        token_stands k (spelled k) (10 ∷ w) v.0 v.1,
        (10 ∷ w, refl, blank_stands (10 ∷ w), (w, refl, newline_stands w, cut)),
      ),
      (item (token_behind before k (spelled k)), _, refl, refl, refl, are),
    )
one_cut false k ks before w v more =
    let (pieces, cut, are) = more ((before ++ spelled k) ++ 32 ∷ []) in (
      (Some k, spelled k) ∷ ((None, 32 ∷ []) ∷ pieces),
      (32 ∷ w, append_assoc (spelled k) (32 ∷ []) w, token_stands k (spelled k) w v.0 v.1, (w, refl, blank_stands w, cut)),
      (item (token_behind before k (spelled k)), _, refl, refl, refl, are),
    )

pub all_cut : (ks : List TokenKind) → AllValid ks → (before : List ℕ) → CutAs ks (written ks) before
all_cut [] v before = ([], refl, refl)
all_cut (k ∷ ks) v before = one_cut (ends_line k) k ks before (written ks) v.0 (all_cut ks v.1)

-- no token begins with the `#` of a first line
no_hash_mark : List ℕ → Bool
no_hash_mark [] = true
no_hash_mark (b ∷ bs) = cond (bytes_eq (b ∷ []) (35 ∷ [])) false true

no_hash : (k : TokenKind) (xs : List ℕ) → IsToken k (35 ∷ xs) → ⊥
unfolding no_hash_mark
no_hash k xs h = let f = form_at (Some k) 35 xs Other refl h in
    absurd (let q : no_hash_mark (35 ∷ xs) ≡ true = marks_pass no_hash_mark refl (35 ∷ xs) f.1 in cc)

no_first : (b c : ℕ) (bs : List ℕ) → (b ≡ 35 → ⊥) → first_line (b ∷ c ∷ bs) ≡ []
no_first b c bs h = rw (ne_test b 35 h) refl

first_byte : (k : TokenKind) (end : Bool) (bs w : List ℕ) → IsToken k bs → first_line (cond end (ending bs) (token bs) ++ w) ≡ []
first_byte k end [] w h = absurd (some_byte (Some k) h)
first_byte k true (b ∷ []) w h = no_first b 32 (10 ∷ w) (λ e. no_hash k [] (subst (λ (x : ℕ). IsToken k (x ∷ [])) e h))
first_byte k false (b ∷ []) w h = no_first b 32 w (λ e. no_hash k [] (subst (λ (x : ℕ). IsToken k (x ∷ [])) e h))
first_byte k true (b ∷ c ∷ bs) w h = no_first b c ((bs ++ 32 ∷ (10 ∷ [])) ++ w) (λ e. no_hash k (c ∷ bs) (subst (λ (x : ℕ). IsToken k (x ∷ c ∷ bs)) e h))
first_byte k false (b ∷ c ∷ bs) w h = no_first b c ((bs ++ 32 ∷ []) ++ w) (λ e. no_hash k (c ∷ bs) (subst (λ (x : ℕ). IsToken k (x ∷ c ∷ bs)) e h))

pub no_first_line : (ks : List TokenKind) → AllValid ks → first_line (written ks) ≡ []
no_first_line [] v = refl
no_first_line (k ∷ ks) v = first_byte k (ends_line k) (spelled k) (written ks) v.0.0

-- kinds that can be written are those of the tokens of their bytes
pub read_back : (ks : List TokenKind) → AllValid ks → (tokens : List Token) × IsTokensOf (written ks) tokens × Are ks (items tokens)
read_back ks v =
    let none = no_first_line ks v in
    let (pieces, cut, are) = all_cut ks v (first_line (written ks)) in
    (tokens_of (first_line (written ks)) pieces, (pieces, written ks, ap (λ (z : List ℕ). z ++ written ks) (sym none), cut, refl), are)

-- ---- the tokens of a text

below : (n m : ℕ) → (m ≤ n → ⊥) → n < m
below n m h = first_of (omega arith, grind (arith, h))

within : (kind : TokenKind) (bs rest : List ℕ) → Stands (Some kind) bs rest → IsWithinLimits kind bs
within (kinds.Word w) bs rest s = tt
within (kinds.Attach w) bs rest s = tt
within (kinds.Map w) bs rest s = tt
within (kinds.Var w) bs rest s = tt
within (kinds.Mark w) bs rest s = tt
within (kinds.Number value) bs rest s = λ n number. below n (2 ^ 64) (λ large. s.sound 0 (faults.NumberTooLarge 0) (bs, rest, n, (refl, number, s.longest), large, refl))
within (kinds.Text text) bs rest s = at_most (length text) 1024 (λ large. s.sound 0 (faults.StringTooLong 0) (s.piece.0, text, rest, (parts, s.piece.2), large, refl))
  where
    at_most : (n m : ℕ) → (m < n → ⊥) → n ≤ m
    at_most n m h = first_of (omega arith, grind (arith, h))

    parts : bs ++ rest ≡ 34 ∷ (s.piece.0 ++ (34 ∷ rest))
    parts = ap (λ (l : List ℕ). l ++ rest) s.piece.1 ∙ ap (λ (l : List ℕ). 34 ∷ l) (append_assoc s.piece.0 (34 ∷ []) rest)

pub honest_cut : (pieces : Pieces) (text rest before : List ℕ) → IsCut text pieces rest → Honest (items (tokens_of before pieces))
honest_cut [] text rest before cut = tt
honest_cut ((None, bs) ∷ pieces) text rest before (after, e, s, cut) = honest_cut pieces after rest (before ++ bs) cut
honest_cut ((Some kind, bs) ∷ pieces) text rest before (after, e, s, cut) =
    (refl, (bs, s.piece, within kind bs after s), honest_cut pieces after rest (before ++ bs) cut)

pub honest_tokens : (text : List ℕ) (tokens : List Token) → IsTokensOf text tokens → Honest (items tokens)
honest_tokens text tokens (pieces, body, e, cut, is) = subst (λ (ts : List Token). Honest (items ts)) (sym is) (honest_cut pieces body [] (first_line text) cut)
