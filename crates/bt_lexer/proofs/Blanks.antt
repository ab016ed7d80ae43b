-- A blank behind a token ends it.
use Rattle.std.proofs.Common.{◌≡◌, ℕ, ◌+◌, ◌^◌, ◌<◌, ◌≤◌, Bool, true, false, not, ◌||◌, ◌&&◌, List, [], ◌∷◌, ◌++◌, length, Option, Some, None, Result, Ok, Err, refl, ap, sym, subst, ◌∙◌, inl, inr, arith, append_assoc}
use Rattle.std.specs.Prelude.{◌⊎◌, ◌==◌}
use Rattle.std.specs.Char.{digit_value}
use Rattle.std.proofs.lemmas.Bool.{false≢true, le-ltb}
use Rattle.std.proofs.lemmas.List.{append_cancel_left}
use Rattle.bt_core.specs.declared.limits.TheConstants.{STRING_TOKEN_BYTES}
use Rattle.bt_core.specs.Bytes.{is_word_byte}
use Rattle.bt_lexer.specs.Bytes.{is_attach_byte, Every, begins}
use Rattle.bt_lexer.specs.Words.{IsWord, IsAttach}
use Rattle.bt_lexer.specs.Numbers.{AreDigits, IsNumber, signed}
use Rattle.bt_lexer.specs.Strings.{IsString}
use Rattle.bt_lexer.specs.Separators.{IsSeparator}
use Rattle.bt_lexer.specs.Marks.{IsMark}
use Rattle.bt_lexer.specs.Tokens.{IsPiece, IsToken, IsLongest, IsFault, Stands, IsWithinLimits, BeginsWithNumber, NothingBegins}
use Rattle.bt_lexer.specs.Scan.{piece_at, separator}
use Rattle.bt_lexer.specs.declared.piece.Piece.{Piece}
use Rattle.bt_lexer.specs.declared.error.LexError.{LexError}
use Rattle.bt_lexer.specs.declared.error.LexError.TheVariants as faults
use Rattle.bt_lexer.specs.declared.token.TokenKind.{TokenKind}
use Rattle.bt_lexer.specs.declared.token.TokenKind.TheVariants as kinds
use Rattle.bt_lexer.proofs.Classes.{Blank, Quote, Slash, class_of}
use Rattle.bt_lexer.proofs.Pieces.{some_byte, form_at, marks_pass, attach_word}
use Rattle.bt_lexer.proofs.Runs.{every_back}
use Rattle.bt_lexer.proofs.WordPieces.{word_every}
use Rattle.bt_lexer.proofs.StringPieces.{spelled_unique, quote_ends}
use Rattle.bt_lexer.proofs.SeparatorPieces.{mark_is_no_comment, one_blank}
use Rattle.bt_lexer.proofs.Exact.{longest_unique, kind_unique, at_string, fault_complete}
use Rattle.bt_lexer.proofs.Choices.{tails, and_both, is_ne, heads_apart, firsts}

-- ---- no token but a string has a blank in it

-- a blank stands in these bytes
abbrev HasBlank : List ℕ → Type 0
HasBlank bs = (front back : List ℕ) × (bs ≡ front ++ 32 ∷ back)

no_blank_in : (p : ℕ → Bool) (front back : List ℕ) → p 32 ≡ false → Every p (front ++ 32 ∷ back) → ⊥
no_blank_in p front back h every = false≢true (sym h ∙ (every_back p front (32 ∷ back) every).0)

word_has_none : (bs : List ℕ) → IsWord bs → HasBlank bs → ⊥
word_has_none bs w b = no_blank_in is_word_byte b.0 b.1 refl (subst (Every is_word_byte) b.2 (word_every bs w))

attach_every : (bs : List ℕ) → Every is_word_byte bs → Every is_attach_byte bs
attach_every [] h = tt
attach_every (b ∷ bs) h = (wider b h.0, attach_every bs h.1)
  where
    wider : (b : ℕ) → is_word_byte b ≡ true → is_attach_byte b ≡ true
    wider b h = rw h refl

every_append : (p : ℕ → Bool) (xs ys : List ℕ) → Every p xs → Every p ys → Every p (xs ++ ys)
every_append p [] ys h k = k
every_append p (x ∷ xs) ys h k = (h.0, every_append p xs ys h.1 k)

attach_has_none : (bs : List ℕ) → IsAttach bs → HasBlank bs → ⊥
attach_has_none bs a b =
    let every = every_append is_attach_byte a.0 (58 ∷ a.1) (attach_every a.0 (word_every a.0 (attach_word a.0 a.3))) (refl, a.4) in
    no_blank_in is_attach_byte b.0 b.1 refl (subst (Every is_attach_byte) (sym a.2 ∙ b.2) every)

digits_have_none : (base : ℕ) (bs front back : List ℕ) → base ≤ 36 → AreDigits base bs → bs ≡ front ++ 32 ∷ back → ⊥
digits_have_none base [] front back small h e = absurd h
digits_have_none base (d ∷ []) [] back small h e = absurd (let q : digit_value d ≡ 36 = ap digit_value (firsts d 32 [] back e) in omega arith)
digits_have_none base (d ∷ []) (c ∷ front) back small h e = absurd (nil_apart front back (tails d c [] _ e))
  where
    nil_apart : (front back : List ℕ) → [] ≡ front ++ 32 ∷ back → ⊥
    nil_apart [] back e = cc
    nil_apart (x ∷ front) back e = cc
digits_have_none base (d ∷ b ∷ bs) [] back small h e = absurd (let q : digit_value d ≡ 36 = ap digit_value (firsts d 32 (b ∷ bs) back e) in let k = h.0 in omega arith)
digits_have_none base (d ∷ b ∷ bs) (c ∷ front) back small (f, inl h) e = digits_have_none base (b ∷ bs) front back small h (tails d c (b ∷ bs) _ e)
digits_have_none base (d ∷ b ∷ bs) (c ∷ []) back small (f, inr h) e = absurd (let q : b ≡ 32 = cc in let k = h.0 in omega arith)
digits_have_none base (d ∷ b ∷ bs) (c ∷ x ∷ front) back small (f, inr h) e = digits_have_none base bs front back small h.1 (tails b x bs _ (tails d c (b ∷ bs) _ e))

number_has_none : (bs : List ℕ) (n : ℕ) → IsNumber bs n → HasBlank bs → ⊥
number_has_none [] n (inl h) b = h
number_has_none [] n (inr (inl h)) b = h
number_has_none (d ∷ bs) n (inl h) b = digits_have_none 10 (d ∷ bs) b.0 b.1 (omega arith) h.1 b.2
number_has_none (d ∷ bs) n (inr (inl h)) b = digits_have_none 8 (d ∷ bs) b.0 b.1 (omega arith) h.1 b.2
number_has_none bs n (inr (inr h)) b = in_digits h.0 b.0 b.1 h.2 (sym h.1 ∙ b.2)
  where
    in_digits : (digits front back : List ℕ) → AreDigits 16 digits → 48 ∷ 120 ∷ digits ≡ front ++ 32 ∷ back → ⊥
    in_digits digits [] back d e = absurd (let q : ◌≡◌ {A = ℕ} 48 32 = cc in omega arith)
    in_digits digits (x ∷ []) back d e = absurd (let q : ◌≡◌ {A = ℕ} 120 32 = cc in omega arith)
    in_digits digits (x ∷ y ∷ front) back d e = digits_have_none 16 digits front back (omega arith) d (tails 120 y digits _ (tails 48 x (120 ∷ digits) _ e))

abbrev not_blank : ℕ → Bool
not_blank b = not (b == 32)

abbrev all_bytes : (ℕ → Bool) → List ℕ → Bool
all_bytes p [] = true
all_bytes p (b ∷ bs) = p b && all_bytes p bs

bytes_every : (bs : List ℕ) → all_bytes not_blank bs ≡ true → Every not_blank bs
bytes_every [] h = tt
bytes_every (b ∷ bs) h = let k = and_both (not_blank b) (all_bytes not_blank bs) h in (k.0, bytes_every bs k.1)

mark_has_none : (bs : List ℕ) → IsMark bs → HasBlank bs → ⊥
mark_has_none bs m b = no_blank_in not_blank b.0 b.1 refl (subst (Every not_blank) b.2 (bytes_every bs (marks_pass (all_bytes not_blank) refl bs m)))

name_has_none : (c : ℕ) (name : List ℕ) → (c == 32) ≡ false → IsWord name → HasBlank (c ∷ name) → ⊥
name_has_none c name h w ([], back, e) = is_ne c 32 h (cc e)
name_has_none c name h w (x ∷ front, back, e) = word_has_none name w (front, back, tails c x name _ e)

lone_has_none : (c : ℕ) → (c == 32) ≡ false → HasBlank (c ∷ []) → ⊥
lone_has_none c h ([], back, e) = is_ne c 32 h (cc e)
lone_has_none c h (x ∷ [], back, e) = cc
lone_has_none c h (x ∷ y ∷ front, back, e) = cc

-- a token with a blank in it is a string
blank_in_string : (kind : TokenKind) (bs : List ℕ) → IsToken kind bs → HasBlank bs → (text : List ℕ) × IsString bs text
blank_in_string (kinds.Word w) bs h b = absurd (word_has_none bs h.1 b)
blank_in_string (kinds.Attach w) bs h b = absurd (attach_has_none bs h.1 b)
blank_in_string (kinds.Map w) [] h b = absurd h.1
blank_in_string (kinds.Map w) (c ∷ name) (e, (q, inl n)) b = absurd (lone_has_none c (ap (λ (x : ℕ). x == 32) q) (subst (λ (l : List ℕ). HasBlank (c ∷ l)) n b))
blank_in_string (kinds.Map w) (c ∷ name) (e, (q, inr n)) b = absurd (name_has_none c name (ap (λ (x : ℕ). x == 32) q) n b)
blank_in_string (kinds.Var w) [] h b = absurd h.1
blank_in_string (kinds.Var w) (c ∷ name) h b = absurd (name_has_none c name (ap (λ (x : ℕ). x == 32) h.1.0) h.1.1 b)
blank_in_string (kinds.Number v) bs h b = absurd (number_has_none bs h.0 h.2 b)
blank_in_string (kinds.Text t) bs h b = (t, h)
blank_in_string (kinds.Mark w) bs h b = absurd (mark_has_none bs h.1 b)

-- ---- a token goes on past no blank

no_comment_token : (kind : TokenKind) (c d : ℕ) (bs : List ℕ) → c ≡ 47 → (d == 47 || d == 42) ≡ true → IsToken kind (c ∷ d ∷ bs) → ⊥
no_comment_token kind c d bs q h t =
    let t' : IsToken kind (47 ∷ d ∷ bs) = subst (λ (x : ℕ). IsToken kind (x ∷ d ∷ bs)) q t in
    by_form (form_at (Some kind) 47 (d ∷ bs) Slash refl t')
  where
    some_kind : Some kind ≡ None → ⊥
    some_kind e = cc

    by_form : ((Some kind ≡ None) × IsSeparator (47 ∷ d ∷ bs)) ⊎ ((Some kind ≡ Some (kinds.Mark (47 ∷ d ∷ bs))) × IsMark (47 ∷ d ∷ bs)) → ⊥
    by_form (inl f) = some_kind f.0
    by_form (inr f) = mark_is_no_comment d bs h f.1

-- a token that goes on behind a blank is no comment
no_comment_behind : (kind : TokenKind) (bs more body : List ℕ) (d : ℕ) → (d == 47 || d == 42) ≡ true → (32 == d) ≡ false → IsToken kind bs → bs ++ 32 ∷ more ≡ 47 ∷ d ∷ body → ⊥
no_comment_behind kind [] more body d h k t e = some_byte (Some kind) t
no_comment_behind kind (c ∷ []) more body d h k t e = heads_apart 32 d more body k (tails c 47 (32 ∷ more) (d ∷ body) e)
no_comment_behind kind (c ∷ b ∷ bs) more body d h k t e =
    let q : b ≡ d = firsts b d _ _ (tails c 47 _ _ e) in
    no_comment_token kind c b bs (firsts c 47 _ _ e) (ap (λ (x : ℕ). x == 47 || x == 42) q ∙ h) t

separator_behind : (kind : TokenKind) (bs more : List ℕ) → IsToken kind bs → IsSeparator (bs ++ 32 ∷ more) → ⊥
separator_behind kind bs more t (inl h) = two_bytes bs h.0 t h.1
  where
    two_bytes : (bs : List ℕ) (b : ℕ) → IsToken kind bs → bs ++ 32 ∷ more ≡ b ∷ [] → ⊥
    two_bytes [] b t e = some_byte (Some kind) t
    two_bytes (c ∷ []) b t e = cc
    two_bytes (c ∷ d ∷ bs) b t e = cc
separator_behind kind bs more t (inr (inl h)) = no_comment_behind kind bs more h.0 47 refl refl t h.1
separator_behind kind bs more t (inr (inr h)) = no_comment_behind kind bs more (h.0 ++ 42 ∷ 47 ∷ []) 42 refl refl t h.1

-- what begins as a string does is one
string_of : (kind : TokenKind) (bs rest body : List ℕ) → IsToken kind bs → bs ++ rest ≡ 34 ∷ body → (text : List ℕ) × (Some kind ≡ Some (kinds.Text text)) × IsString bs text
string_of kind [] rest body t e = absurd (some_byte (Some kind) t)
string_of kind (c ∷ bs) rest body t e = form_at (Some kind) c bs Quote (ap class_of (firsts c 34 _ _ e)) t

string_behind : (kind : TokenKind) (bs more text : List ℕ) → IsToken kind bs → IsString (bs ++ 32 ∷ more) text → ⊥
string_behind kind bs more text t h =
    let s = string_of kind bs (32 ∷ more) (h.0 ++ 34 ∷ []) t h.1 in
    let same : s.2.0 ++ (34 ∷ 32 ∷ more) ≡ h.0 ++ (34 ∷ []) = sym (append_assoc s.2.0 (34 ∷ []) (32 ∷ more)) ∙ tails 34 34 _ _ (ap (λ (l : List ℕ). l ++ 32 ∷ more) (sym s.2.1) ∙ h.1) in
    let u = spelled_unique s.0 text s.2.0 h.0 (34 ∷ 32 ∷ more) (34 ∷ []) s.2.2 h.2 (quote_ends (32 ∷ more)) (quote_ends []) same in
    longer (tails 34 34 _ _ u.2)
  where
    longer : 32 ∷ more ≡ [] → ⊥
    longer e = cc

blank_longest : (kind : TokenKind) (bs rest : List ℕ) → IsToken kind bs → IsLongest bs (32 ∷ rest)
blank_longest kind bs rest t [] after other e h = refl
blank_longest kind bs rest t (m ∷ more) after other e h =
    let q : m ≡ 32 = cc e in
    absurd (by_kind other (subst (λ (x : ℕ). IsPiece other (bs ++ x ∷ more)) q h))
  where
    by_kind : (other : Option TokenKind) → IsPiece other (bs ++ 32 ∷ more) → ⊥
    by_kind None h = separator_behind kind bs more t h
    by_kind (Some k) h = let s = blank_in_string k (bs ++ 32 ∷ more) h (bs, more, refl) in string_behind kind bs more s.0 t s.1

-- ---- no fault begins at a token before a blank

string_found : (offset : ℕ) (bs text rest : List ℕ) → length text ≤ STRING_TOKEN_BYTES → IsString bs text → (piece : Piece) × (piece_at offset (bs ++ 32 ∷ rest) ≡ Ok piece)
string_found offset bs text rest small s =
    let parts : bs ++ 32 ∷ rest ≡ 34 ∷ s.0 ++ (34 ∷ 32 ∷ rest) = ap (λ (l : List ℕ). l ++ 32 ∷ rest) s.1 ∙ ap (λ (l : List ℕ). 34 ∷ l) (append_assoc s.0 (34 ∷ []) (32 ∷ rest)) in
    (record { kind = Some (kinds.Text text); len = length s.0 + 2 }, at_string offset (bs ++ 32 ∷ rest) s.0 text (34 ∷ 32 ∷ rest) (parts, s.2) ∙ rw (le-ltb STRING_TOKEN_BYTES (length text) small) refl)

ok_or_fault : (piece : Piece) (fault : LexError) (found : Result Piece LexError) → found ≡ Ok piece → found ≡ Err fault → ⊥
ok_or_fault piece fault found e f = cc

-- a string within its limit has no fault
string_sound : (offset : ℕ) (kind : TokenKind) (bs rest body : List ℕ) (fault : LexError) → IsToken kind bs → IsWithinLimits kind bs → bs ++ 32 ∷ rest ≡ 34 ∷ body → IsFault offset (bs ++ 32 ∷ rest) fault → ⊥
string_sound offset kind bs rest body fault t limits e f =
    let s = string_of kind bs (32 ∷ rest) body t e in
    let q : kind ≡ kinds.Text s.0 = cc s.1 in
    let small : length s.0 ≤ STRING_TOKEN_BYTES = subst (λ (k : TokenKind). IsWithinLimits k bs) q limits in
    let found = string_found offset bs s.0 rest small s.2 in
    ok_or_fault found.0 fault (piece_at offset (bs ++ 32 ∷ rest)) found.1 (fault_complete offset (bs ++ 32 ∷ rest) fault f)

number_same : (kind : TokenKind) (bs rest number behind : List ℕ) (n : ℕ) → IsToken kind bs → BeginsWithNumber (bs ++ 32 ∷ rest) number n behind → bs ≡ number
number_same kind bs rest number behind n t b = longest_unique bs number (32 ∷ rest) behind (Some kind) (Some (kinds.Number (signed n))) b.0 t (n, refl, b.1) (blank_longest kind bs rest t) b.2

blank_fault : (kind : TokenKind) (bs rest : List ℕ) → IsToken kind bs → IsWithinLimits kind bs → (offset : ℕ) (fault : LexError) → IsFault offset (bs ++ 32 ∷ rest) fault → ⊥
blank_fault kind bs rest t limits offset (faults.BadChar at) (inl f) = nothing bs t f.0
  where
    nothing : (bs : List ℕ) → IsToken kind bs → NothingBegins (bs ++ 32 ∷ rest) → ⊥
    nothing [] t n = some_byte (Some kind) t
    nothing (b ∷ xs) t n = n.1 (b ∷ xs) (32 ∷ rest) (Some kind) refl t
blank_fault kind bs rest t limits offset (faults.BadChar at) (inr (inl f)) =
    let same = number_same kind bs rest f.0 f.1 f.2 t f.3 in
    let behind : 32 ∷ rest ≡ f.1 = append_cancel_left f.0 (32 ∷ rest) f.1 (ap (λ (l : List ℕ). l ++ 32 ∷ rest) (sym same) ∙ f.3.0) in
    false≢true (ap (begins is_word_byte) behind ∙ f.5)
blank_fault kind bs rest t limits offset (faults.BadChar at) (inr (inr f)) = string_sound offset kind bs rest _ (faults.BadChar at) t limits f.3.0 (inr (inr f))
blank_fault kind bs rest t limits offset (faults.OpenString at) f = string_sound offset kind bs rest _ (faults.OpenString at) t limits f.3.0 f
blank_fault kind bs rest t limits offset (faults.OpenComment at) f = no_comment_behind kind bs rest f.0 42 refl refl t f.1
blank_fault kind bs rest t limits offset (faults.NumberTooLarge at) f =
    let same = number_same kind bs rest f.0 f.1 f.2 t f.3 in
    let number : IsNumber bs f.2 = subst (λ (l : List ℕ). IsNumber l f.2) (sym same) f.3.1 in
    let q = kind_unique bs (Some kind) (Some (kinds.Number (signed f.2))) t (f.2, refl, number) in
    let k : kind ≡ kinds.Number (signed f.2) = cc q in
    let small : f.2 < 2 ^ 64 = subst (λ (x : TokenKind). IsWithinLimits x bs) k limits f.2 number in
    let large = f.4 in
    absurd (omega arith)
blank_fault kind bs rest t limits offset (faults.BadEscape at) f = string_sound offset kind bs rest _ (faults.BadEscape at) t limits f.3.0 f
blank_fault kind bs rest t limits offset (faults.StringTooLong at) f = string_sound offset kind bs rest _ (faults.StringTooLong at) t limits f.3.0 f
blank_fault kind bs rest t limits offset faults.Memory f = f

pub token_stands : (kind : TokenKind) (bs rest : List ℕ) → IsToken kind bs → IsWithinLimits kind bs → Stands (Some kind) bs (32 ∷ rest)
token_stands kind bs rest t limits = record { piece = t; longest = blank_longest kind bs rest t; sound = blank_fault kind bs rest t limits }

blank_found : (offset : ℕ) (rest : List ℕ) → piece_at offset (32 ∷ rest) ≡ separator 1
unfolding piece_at
blank_found offset rest = refl

pub blank_stands : (rest : List ℕ) → Stands None (32 ∷ []) rest
blank_stands rest = record {
  piece = inl (32, refl, refl);
  longest = λ more after kind e h. one_blank 32 more refl (form_at kind 32 more Blank refl h).1;
  sound = λ offset fault f. ok_or_fault (record { kind = None; len = 1 }) fault (piece_at offset (32 ∷ rest)) (blank_found offset rest) (fault_complete offset (32 ∷ rest) fault f);
}
