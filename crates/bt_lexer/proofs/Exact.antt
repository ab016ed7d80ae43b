-- One piece or one fault stands at a place, and it is found.
use Rattle.std.proofs.Common.{◌≡◌, ℕ, ◌+◌, ◌^◌, ◌<◌, true, false, List, [], ◌∷◌, ◌++◌, length, drop, Option, Some, Result, Ok, Err, refl, ap, sym, subst, ◌∙◌, inl, inr, arith, zero-add, lit<}
use Rattle.std.specs.Prelude.{◌⊎◌}
use Rattle.std.proofs.lemmas.Bool.{false≢true, lt-ltb, le-ltb}
use Rattle.std.proofs.lemmas.List.{drop_at, append-nil, append_cancel_left}
use Rattle.bt_core.specs.declared.limits.TheConstants.{STRING_TOKEN_BYTES}
use Rattle.bt_core.specs.Bytes.{is_digit, is_word_byte}
use Rattle.bt_lexer.specs.Bytes.{is_blank, Every, begins}
use Rattle.bt_lexer.specs.Words.{IsWord, IsAttach}
use Rattle.bt_lexer.specs.Numbers.{AreDigits, IsNumber, value_of, signed}
use Rattle.bt_lexer.specs.Strings.{IsString, NoEscape, EndsLine}
use Rattle.bt_lexer.specs.Separators.{IsSeparator, NeverCloses}
use Rattle.bt_lexer.specs.Marks.{IsMark}
use Rattle.bt_lexer.specs.Tokens.{IsPiece, IsLongest, IsFault, Stands, NothingBegins, BeginsWithNumber, BeginsWithString}
use Rattle.bt_lexer.specs.Scan.{piece_at, number_at, number_piece, number_before, limited, string_from, slash_piece}
use Rattle.bt_lexer.specs.declared.piece.Piece.{Piece}
use Rattle.bt_lexer.specs.declared.error.LexError.{LexError}
use Rattle.bt_lexer.specs.declared.error.LexError.TheVariants as faults
use Rattle.bt_lexer.specs.declared.token.TokenKind.{TokenKind}
use Rattle.bt_lexer.specs.declared.token.TokenKind.TheVariants as kinds
use Rattle.bt_lexer.proofs.Classes.{Class, Blank, Letter, Digit, At, Dollar, Quote, Slash, Other, class_of, blank_class, digit_class, apart, piece_by_class}
use Rattle.bt_lexer.proofs.Pieces.{IsFound, Answers, Form, form_at, some_byte, number_head}
use Rattle.bt_lexer.proofs.Runs.{every_back}
use Rattle.bt_lexer.proofs.Choices.{tails}
use Rattle.bt_lexer.proofs.WordPieces.{word_every}
use Rattle.bt_lexer.proofs.NumberPieces.{no_octal, number_found}
use Rattle.bt_lexer.proofs.StringPieces.{passes, spelled_unique, quote_ends, escape_none}
use Rattle.bt_lexer.proofs.SeparatorPieces.{mark_is_no_comment, open_comment}
use Rattle.bt_lexer.proofs.Found.{sound}

-- ---- a piece is of one kind

number_unique : (bs : List ℕ) (m n : ℕ) → IsNumber bs m → IsNumber bs n → m ≡ n
number_unique [] m n (inl h) k = absurd h
number_unique [] m n (inr (inl h)) k = absurd h
number_unique [] m n (inr (inr h)) k = absurd cc
number_unique (d ∷ bs) m n (inl h) (inl k) = h.2 ∙ sym k.2
number_unique (d ∷ bs) m n (inl h) (inr (inl k)) = absurd (h.0 k.0)
number_unique (d ∷ bs) m n (inl h) (inr (inr k)) = absurd (h.0 (cc k.1))
number_unique (d ∷ bs) m n (inr (inl h)) (inl k) = absurd (k.0 h.0)
number_unique (d ∷ bs) m n (inr (inl h)) (inr (inl k)) = h.2 ∙ sym k.2
number_unique (d ∷ bs) m n (inr (inl h)) (inr (inr k)) = absurd (no_octal k.0 (subst (AreDigits 8) k.1 h.1))
number_unique (d ∷ bs) m n (inr (inr h)) (inl k) = absurd (k.0 (cc h.1))
number_unique (d ∷ bs) m n (inr (inr h)) (inr (inl k)) = absurd (no_octal h.0 (subst (AreDigits 8) h.1 k.1))
number_unique (d ∷ bs) m n (inr (inr h)) (inr (inr k)) = let q : h.0 ≡ k.0 = cc (h.1, k.1) in h.3 ∙ ap (value_of 16) q ∙ sym k.3

string_unique : (bs t u : List ℕ) → IsString bs t → IsString bs u → t ≡ u
string_unique bs t u h k = (spelled_unique t u h.0 k.0 (34 ∷ []) (34 ∷ []) h.2 k.2 (quote_ends []) (quote_ends []) (tails 34 34 _ _ (sym h.1 ∙ k.1))).1

word_or_attach : (bs : List ℕ) → IsWord bs → IsAttach bs → ⊥
word_or_attach bs w a = false≢true (every_back is_word_byte a.0 (58 ∷ a.1) (subst (Every is_word_byte) a.2 (word_every bs w))).0

separator_or_mark : (b : ℕ) (xs : List ℕ) → class_of b ≡ Slash → IsSeparator (b ∷ xs) → IsMark (b ∷ xs) → ⊥
separator_or_mark b xs q (inl h) m = apart Blank Slash refl (let e : b ≡ h.0 = cc h.1 in sym (blank_class b (ap is_blank e ∙ h.2)) ∙ q)
separator_or_mark b xs q (inr (inl h)) m = mark_is_no_comment 47 h.0 refl (subst IsMark h.1 m)
separator_or_mark b xs q (inr (inr h)) m = mark_is_no_comment 42 (h.0 ++ 42 ∷ 47 ∷ []) refl (subst IsMark h.1 m)

form_unique : (c : Class) (b : ℕ) (xs : List ℕ) (k l : Option TokenKind) → class_of b ≡ c → Form c (b ∷ xs) k → Form c (b ∷ xs) l → k ≡ l
form_unique Blank b xs k l q f g = f.0 ∙ sym g.0
form_unique Letter b xs k l q (inl f) (inl g) = f.0 ∙ sym g.0
form_unique Letter b xs k l q (inl f) (inr g) = absurd (word_or_attach (b ∷ xs) f.1 g.1)
form_unique Letter b xs k l q (inr f) (inl g) = absurd (word_or_attach (b ∷ xs) g.1 f.1)
form_unique Letter b xs k l q (inr f) (inr g) = f.0 ∙ sym g.0
form_unique Digit b xs k l q f g = f.1 ∙ ap (λ (n : ℕ). Some (kinds.Number (signed n))) (number_unique (b ∷ xs) f.0 g.0 f.2 g.2) ∙ sym g.1
form_unique At b xs k l q f g = f.0 ∙ sym g.0
form_unique Dollar b xs k l q f g = f.0 ∙ sym g.0
form_unique Quote b xs k l q f g = f.1 ∙ ap (λ (t : List ℕ). Some (kinds.Text t)) (string_unique (b ∷ xs) f.0 g.0 f.2 g.2) ∙ sym g.1
form_unique Slash b xs k l q (inl f) (inl g) = f.0 ∙ sym g.0
form_unique Slash b xs k l q (inl f) (inr g) = absurd (separator_or_mark b xs q f.1 g.1)
form_unique Slash b xs k l q (inr f) (inl g) = absurd (separator_or_mark b xs q g.1 f.1)
form_unique Slash b xs k l q (inr f) (inr g) = f.0 ∙ sym g.0
form_unique Other b xs k l q f g = f.0 ∙ sym g.0

pub kind_unique : (bs : List ℕ) (k l : Option TokenKind) → IsPiece k bs → IsPiece l bs → k ≡ l
kind_unique [] k l h g = absurd (some_byte k h)
kind_unique (b ∷ xs) k l h g = form_unique (class_of b) b xs k l refl (form_at k b xs (class_of b) refl h) (form_at l b xs (class_of b) refl g)

-- ---- one piece is the longest

-- of two fronts of a list the one goes on from the other
overlap : (p q r s : List ℕ) → p ++ r ≡ q ++ s → ((more : List ℕ) × (q ≡ p ++ more) × (r ≡ more ++ s)) ⊎ ((more : List ℕ) × (p ≡ q ++ more) × (s ≡ more ++ r))
overlap [] q r s e = inl (q, refl, e)
overlap (b ∷ p) [] r s e = inr (b ∷ p, refl, sym e)
overlap (b ∷ p) (c ∷ q) r s e =
    let h : b ≡ c = cc e in
    elim (overlap p q r s (cc e)) [
      | inl o ↦ inl (o.0, ap (λ (n : ℕ). n ∷ q) (sym h) ∙ ap (λ (l : List ℕ). b ∷ l) o.1, o.2)
      | inr o ↦ inr (o.0, ap (λ (n : ℕ). n ∷ p) h ∙ ap (λ (l : List ℕ). c ∷ l) o.1, o.2)
    ]

pub longest_unique : (p q r s : List ℕ) (k l : Option TokenKind) → p ++ r ≡ q ++ s → IsPiece k p → IsPiece l q → IsLongest p r → IsLongest q s → p ≡ q
longest_unique p q r s k l e hp hq lp lq = elim (overlap p q r s e) [
  | inl o ↦ (let nil = lp o.0 s l o.2 (subst (IsPiece l) o.1 hq) in sym (o.1 ∙ ap (λ (m : List ℕ). p ++ m) nil ∙ append-nil p))
  | inr o ↦ (let nil = lq o.0 r k o.2 (subst (IsPiece k) o.1 hp) in o.1 ∙ ap (λ (m : List ℕ). q ++ m) nil ∙ append-nil q)
]

-- ---- a piece that stands at a place is found

same_piece : (p : Piece) (k : Option TokenKind) (n : ℕ) → p.kind ≡ k → p.len ≡ n → ◌≡◌ {A = Result Piece LexError} (Ok p) (Ok (record { kind = k; len = n }))
same_piece p k n e f = rw (← e, ← f) refl

stands_answer : (offset : ℕ) (kind : Option TokenKind) (piece rest : List ℕ) (found : Result Piece LexError) → Stands kind piece rest → Answers offset (piece ++ rest) found
    → found ≡ Ok (record { kind = kind; len = length piece })
stands_answer offset kind piece rest (Ok p) s f =
    let same = longest_unique piece f.piece rest f.rest kind p.kind f.parts s.piece f.is s.longest f.longest in
    same_piece p kind (length piece) (sym (kind_unique f.piece kind p.kind (subst (IsPiece kind) same s.piece) f.is)) (f.size ∙ ap length (sym same))
stands_answer offset kind piece rest (Err e) s f = absurd (s.sound offset e f)

pub complete : (offset : ℕ) (kind : Option TokenKind) (piece rest : List ℕ) → Stands kind piece rest → piece_at offset (piece ++ rest) ≡ Ok (record { kind = kind; len = length piece })
complete offset kind [] rest s = absurd (some_byte kind s.piece)
complete offset kind (b ∷ xs) rest s = stands_answer offset kind (b ∷ xs) rest (piece_at offset (b ∷ xs ++ rest)) s (sound offset b (xs ++ rest))

-- ---- a fault that begins at a place is found

number_is : (offset : ℕ) (bs number rest : List ℕ) (n : ℕ) → begins is_digit bs ≡ true → BeginsWithNumber bs number n rest → number_piece offset bs ≡ number_before offset (length number) rest (limited n)
unfolding number_piece
number_is offset bs number rest n h b =
    let f = number_found bs h in
    let same = longest_unique number f.front rest f.rest (Some (kinds.Number (signed n))) (Some (kinds.Number (signed f.n))) (sym b.0 ∙ f.parts) (n, refl, b.1) (f.n, refl, f.number) b.2 f.longest in
    let value : f.n ≡ n = number_unique f.front f.n n f.number (subst (λ (l : List ℕ). IsNumber l n) same b.1) in
    let behind : rest ≡ f.rest = append_cancel_left f.front rest f.rest (ap (λ (l : List ℕ). l ++ rest) (sym same) ∙ sym b.0 ∙ f.parts) in
    let dropped : drop (number_at bs).len bs ≡ rest = ap (drop (number_at bs).len) f.parts ∙ drop_at f.front f.rest (number_at bs).len (sym f.size) ∙ sym behind in
    let size : (number_at bs).len ≡ length number = f.size ∙ ap length (sym same) in
    rw (dropped, size, f.value, value) refl

at_number : (offset b : ℕ) (bs number rest : List ℕ) (n : ℕ) → BeginsWithNumber (b ∷ bs) number n rest → piece_at offset (b ∷ bs) ≡ number_before offset (length number) rest (limited n)
at_number offset b bs [] rest n h = absurd (elim h.1 [ inl k ↦ k | inr (inl k) ↦ k | inr (inr k) ↦ cc k.1 ])
at_number offset b bs (d ∷ number) rest n h =
    let q : b ≡ d = cc h.0 in
    let digit : is_digit b ≡ true = ap is_digit q ∙ number_head d number n h.1 in
    rw (piece_by_class offset b bs, digit_class b digit) (number_is offset (b ∷ bs) (d ∷ number) rest n digit h)

pub at_string : (offset : ℕ) (bs source text rest : List ℕ) → BeginsWithString bs source text rest → piece_at offset bs ≡ string_from offset false text (length source) rest
at_string offset bs source text rest h =
    ap (piece_at offset) h.0 ∙ piece_by_class offset 34 (source ++ rest) ∙ passes offset text source [] 0 rest h.1 ∙ ap (λ (k : ℕ). string_from offset false text k rest) (zero-add (length source))

string_head : (b : ℕ) (bs source text rest : List ℕ) → BeginsWithString (b ∷ bs) source text rest → b ≡ 34
string_head b bs source text rest h = cc h.0

-- where nothing begins, that is the one fault
nothing_answer : (offset b : ℕ) (bs : List ℕ) (found : Result Piece LexError) → NothingBegins (b ∷ bs) → Answers offset (b ∷ bs) found → found ≡ Err (faults.BadChar offset)
nothing_answer offset b bs (Ok p) n f = absurd (n.1 f.piece f.rest p.kind f.parts f.is)
nothing_answer offset b bs (Err (faults.BadChar at)) n (inl f) = ap (λ (k : ℕ). Err (faults.BadChar k)) f.1
nothing_answer offset b bs (Err (faults.BadChar at)) n (inr (inl f)) = absurd (n.1 f.0 f.1 (Some (kinds.Number (signed f.2))) f.3.0 (f.2, refl, f.3.1))
nothing_answer offset b bs (Err (faults.BadChar at)) n (inr (inr f)) = absurd (n.0 (string_head b bs f.0 f.1 (0 ∷ f.2) f.3))
nothing_answer offset b bs (Err (faults.OpenString at)) n f = absurd (n.0 (string_head b bs f.0 f.1 f.2 f.3))
nothing_answer offset b bs (Err (faults.OpenComment at)) n f = absurd (n.1 (47 ∷ []) (42 ∷ f.0) (Some (kinds.Mark (47 ∷ []))) f.1 (refl, (34, lit< tt, refl)))
nothing_answer offset b bs (Err (faults.NumberTooLarge at)) n f = absurd (n.1 f.0 f.1 (Some (kinds.Number (signed f.2))) f.3.0 (f.2, refl, f.3.1))
nothing_answer offset b bs (Err (faults.BadEscape at)) n f = absurd (n.0 (string_head b bs f.0 f.1 (92 ∷ f.2) f.3))
nothing_answer offset b bs (Err (faults.StringTooLong at)) n f = absurd (n.0 (string_head b bs f.0 f.1 (34 ∷ f.2) f.3))
nothing_answer offset b bs (Err faults.Memory) n f = absurd f

line_ends : (offset : ℕ) (text : List ℕ) (n : ℕ) (rest : List ℕ) → EndsLine rest → string_from offset false text n rest ≡ Err (faults.OpenString offset)
line_ends offset text n [] h = refl
line_ends offset text n (b ∷ rest) h = rw h refl

escape_fails : (offset : ℕ) (text : List ℕ) (n : ℕ) (rest : List ℕ) → NoEscape rest → string_from offset false text n (92 ∷ rest) ≡ Err (faults.BadEscape (offset + (n + 1)))
escape_fails offset text n [] h = refl
escape_fails offset text n (e ∷ rest) h = rw (escape_none e rest h) refl

slash_opens : (offset : ℕ) (rest : List ℕ) → NeverCloses rest → slash_piece offset (42 ∷ rest) ≡ Err (faults.OpenComment offset)
unfolding slash_piece
slash_opens offset rest h = open_comment offset rest h

found_fault : (offset b : ℕ) (bs : List ℕ) (fault : LexError) → IsFault offset (b ∷ bs) fault → piece_at offset (b ∷ bs) ≡ Err fault
found_fault offset b bs (faults.BadChar at) (inl h) = rw h.1 (nothing_answer offset b bs (piece_at offset (b ∷ bs)) h.0 (sound offset b bs))
found_fault offset b bs (faults.BadChar at) (inr (inl h)) = at_number offset b bs h.0 h.1 h.2 h.3 ∙ rw (lt-ltb h.2 (2 ^ 64) h.4, h.5, h.6) refl
found_fault offset b bs (faults.BadChar at) (inr (inr h)) = at_string offset (b ∷ bs) h.0 h.1 (0 ∷ h.2) h.3 ∙ rw h.4 refl
found_fault offset b bs (faults.OpenString at) h = at_string offset (b ∷ bs) h.0 h.1 h.2 h.3 ∙ line_ends offset h.1 (length h.0) h.2 h.4 ∙ rw h.5 refl
found_fault offset b bs (faults.OpenComment at) h =
    ap (piece_at offset) h.1 ∙ piece_by_class offset 47 (42 ∷ h.0) ∙ slash_opens offset h.0 h.2 ∙ rw h.3 refl
found_fault offset b bs (faults.NumberTooLarge at) h = at_number offset b bs h.0 h.1 h.2 h.3 ∙ rw (le-ltb h.2 (2 ^ 64) h.4, h.5) refl
found_fault offset b bs (faults.BadEscape at) h = at_string offset (b ∷ bs) h.0 h.1 (92 ∷ h.2) h.3 ∙ escape_fails offset h.1 (length h.0) h.2 h.4 ∙ ap (λ (k : ℕ). Err (faults.BadEscape k)) (let q = h.5 in omega arith)
found_fault offset b bs (faults.StringTooLong at) h = at_string offset (b ∷ bs) h.0 h.1 (34 ∷ h.2) h.3 ∙ rw (lt-ltb STRING_TOKEN_BYTES (length h.1) h.4, h.5) refl
found_fault offset b bs faults.Memory h = absurd h

no_number : (number rest : List ℕ) (n : ℕ) → BeginsWithNumber [] number n rest → ⊥
no_number [] rest n b = elim b.1 [ inl k ↦ k | inr (inl k) ↦ k | inr (inr k) ↦ cc k.1 ]
no_number (d ∷ number) rest n b = cc b.0

-- a fault begins with a byte
pub some_fault_byte : (offset : ℕ) (fault : LexError) → IsFault offset [] fault → ⊥
some_fault_byte offset (faults.BadChar at) (inl h) = h.0
some_fault_byte offset (faults.BadChar at) (inr (inl h)) = no_number h.0 h.1 h.2 h.3
some_fault_byte offset (faults.BadChar at) (inr (inr h)) = cc h.3.0
some_fault_byte offset (faults.OpenString at) h = cc h.3.0
some_fault_byte offset (faults.OpenComment at) h = cc h.1
some_fault_byte offset (faults.NumberTooLarge at) h = no_number h.0 h.1 h.2 h.3
some_fault_byte offset (faults.BadEscape at) h = cc h.3.0
some_fault_byte offset (faults.StringTooLong at) h = cc h.3.0
some_fault_byte offset faults.Memory h = h

pub fault_complete : (offset : ℕ) (bs : List ℕ) (fault : LexError) → IsFault offset bs fault → piece_at offset bs ≡ Err fault
fault_complete offset [] fault h = absurd (some_fault_byte offset fault h)
fault_complete offset (b ∷ bs) fault h = found_fault offset b bs fault h

-- a fault is one at each offset
anywhere : (offset other : ℕ) (bs : List ℕ) (fault : LexError) → IsFault offset bs fault → (moved : LexError) × IsFault other bs moved
anywhere offset other bs (faults.BadChar at) (inl h) = (faults.BadChar other, inl (h.0, refl))
anywhere offset other bs (faults.BadChar at) (inr (inl h)) = (faults.BadChar (other + length h.0), inr (inl (h.0, h.1, h.2, h.3, h.4, h.5, refl)))
anywhere offset other bs (faults.BadChar at) (inr (inr h)) = (faults.BadChar (other + 1 + length h.0), inr (inr (h.0, h.1, h.2, h.3, refl)))
anywhere offset other bs (faults.OpenString at) h = (faults.OpenString other, (h.0, h.1, h.2, h.3, h.4, refl))
anywhere offset other bs (faults.OpenComment at) h = (faults.OpenComment other, (h.0, h.1, h.2, refl))
anywhere offset other bs (faults.NumberTooLarge at) h = (faults.NumberTooLarge other, (h.0, h.1, h.2, h.3, h.4, refl))
anywhere offset other bs (faults.BadEscape at) h = (faults.BadEscape (other + 1 + length h.0), (h.0, h.1, h.2, h.3, h.4, refl))
anywhere offset other bs (faults.StringTooLong at) h = (faults.StringTooLong other, (h.0, h.1, h.2, h.3, h.4, refl))
anywhere offset other bs faults.Memory h = absurd h

-- ---- what is found stands there

found_stands : (offset : ℕ) (bs : List ℕ) (piece : Piece) → piece_at offset bs ≡ Ok piece → (f : IsFound bs piece.kind piece.len) → Stands piece.kind f.piece f.rest
found_stands offset bs piece e f = record {
  piece = f.is;
  longest = f.longest;
  sound = λ other fault h.
      let m = anywhere other offset (f.piece ++ f.rest) fault h in
      let q = ap (piece_at offset) f.parts ∙ fault_complete offset (f.piece ++ f.rest) m.0 m.1 in
      ok_or_err piece m.0 (sym e ∙ q);
}
  where
    ok_or_err : (p : Piece) (x : LexError) → ◌≡◌ {A = Result Piece LexError} (Ok p) (Err x) → ⊥
    ok_or_err p x e = cc

-- what stands at the front of a text
pub record IsFront (bs : List ℕ) (piece : Piece) : Type 0 where
  pub word : List ℕ
  pub rest : List ℕ
  pub parts : bs ≡ word ++ rest
  pub size : piece.len ≡ length word
  pub some : 0 < piece.len
  pub stands : Stands piece.kind word rest

pub front_found : (offset b : ℕ) (bs : List ℕ) (piece : Piece) → piece_at offset (b ∷ bs) ≡ Ok piece → IsFront (b ∷ bs) piece
front_found offset b bs piece e =
    let f = subst (Answers offset (b ∷ bs)) e (sound offset b bs) in
    record { word = f.piece; rest = f.rest; parts = f.parts; size = f.size; some = long f.piece f.is f.size; stands = found_stands offset (b ∷ bs) piece e f }
  where
    long : (word : List ℕ) → IsPiece piece.kind word → piece.len ≡ length word → 0 < piece.len
    long [] p q = absurd (some_byte piece.kind p)
    long (c ∷ word) p q = omega arith

pub fault_found : (offset b : ℕ) (bs : List ℕ) (fault : LexError) → piece_at offset (b ∷ bs) ≡ Err fault → IsFault offset (b ∷ bs) fault
fault_found offset b bs fault e = subst (Answers offset (b ∷ bs)) e (sound offset b bs)
