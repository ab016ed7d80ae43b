-- With which class of byte a piece begins.
use Rattle.std.proofs.Common.{◌≡◌, ℕ, ◌<◌, Bool, true, false, ◌&&◌, List, [], ◌∷◌, ◌++◌, length, Option, Some, None, Result, Ok, Err, refl, ap, sym, subst, ◌∙◌, inl, inr, arith}
use Rattle.std.specs.List.{AllByRecursion}
use Rattle.std.specs.Char.{digit_value}
use Rattle.std.specs.Prelude.{ℤ, ◌⊎◌}
use Rattle.std.proofs.lemmas.Bool.{false≢true}
use Rattle.std.proofs.lemmas.Bool.Decides.{nat_tests}
use Rattle.std.proofs.lemmas.List.Elements.{All-contains, All-from_recursion}
use Rattle.bt_core.specs.Bytes.{is_letter, is_digit}
use Rattle.bt_lexer.specs.Words.{IsWord, IsAttach, IsAttachWord, IsMapName, IsVarName}
use Rattle.bt_lexer.specs.Strings.{IsString}
use Rattle.bt_lexer.specs.Separators.{IsSeparator}
use Rattle.bt_lexer.specs.Numbers.{AreDigits, IsNumber, signed}
use Rattle.bt_lexer.specs.Marks.{marks, IsMark}
use Rattle.bt_lexer.specs.Tokens.{IsPiece, IsLongest, IsFault}
use Rattle.bt_lexer.specs.declared.piece.Piece.{Piece}
use Rattle.bt_lexer.specs.declared.error.LexError.{LexError}
use Rattle.bt_lexer.specs.declared.token.TokenKind.{TokenKind}
use Rattle.bt_lexer.specs.declared.token.TokenKind.TheVariants as kinds
use Rattle.bt_lexer.proofs.Classes.{Class, Blank, Letter, Digit, At, Dollar, Quote, Slash, Other, class_of, blank_class, letter_class, digit_class}
use Rattle.bt_lexer.proofs.Choices.{and_both}

-- the longest piece at the front, and how many bytes it takes
pub record IsFound (bs : List ℕ) (kind : Option TokenKind) (len : ℕ) : Type 0 where
  pub piece : List ℕ
  pub rest : List ℕ
  pub parts : bs ≡ piece ++ rest
  pub size : len ≡ length piece
  pub is : IsPiece kind piece
  pub longest : IsLongest piece rest

abbrev pub Answers : ℕ → List ℕ → Result Piece LexError → Type 0
Answers offset bs (Ok piece) = IsFound bs piece.kind piece.len
Answers offset bs (Err fault) = IsFault offset bs fault

-- ---- marks, all at once

abbrev pub all_pass : (List ℕ → Bool) → List (List ℕ) → Bool
all_pass p [] = true
all_pass p (m ∷ ms) = p m && all_pass p ms

all_passed : (p : List ℕ → Bool) (ms : List (List ℕ)) → all_pass p ms ≡ true → AllByRecursion (λ m. p m ≡ true) ms
all_passed p [] h = tt
all_passed p (m ∷ ms) h = let b = and_both (p m) (all_pass p ms) h in (b.0, all_passed p ms b.1)

-- what a test says of each mark in the list it says of a mark
pub marks_pass : (p : List ℕ → Bool) → all_pass p marks ≡ true → (w : List ℕ) → IsMark w → p w ≡ true
marks_pass p h w m = All-contains (λ m. p m ≡ true) marks w (All-from_recursion (λ m. p m ≡ true) marks (all_passed p marks h)) m

-- ---- first bytes

pub attach_word : (word : List ℕ) → IsAttachWord word → IsWord word
attach_word word (inl e) = subst IsWord (sym e) (refl, (refl, (refl, (refl, (refl, (refl, (refl, (refl, (refl, (refl, tt))))))))))
attach_word word (inr (inl e)) = subst IsWord (sym e) (refl, tt)
attach_word word (inr (inr (inl e))) = subst IsWord (sym e) (refl, (refl, (refl, (refl, (refl, (refl, (refl, (refl, tt))))))))
attach_word word (inr (inr (inr e))) = subst IsWord (sym e) (refl, tt)

word_head : (word : List ℕ) (b c : ℕ) (xs run : List ℕ) → b ∷ xs ≡ word ++ c ∷ run → IsWord word → is_letter b ≡ true
word_head [] b c xs run e w = absurd w
word_head (d ∷ word) b c xs run e w = let q : b ≡ d = cc in subst (λ (x : ℕ). is_letter x ≡ true) (sym q) w.0

pub digits_head : (base d : ℕ) (xs : List ℕ) → AreDigits base (d ∷ xs) → digit_value d < base
digits_head base d [] h = h
digits_head base d (c ∷ xs) h = h.0

decimal_digit : (d : ℕ) → digit_value d < 10 → is_digit d ≡ true
decimal_digit d h = grind (arith, nat_tests)

pub number_head : (b : ℕ) (xs : List ℕ) (n : ℕ) → IsNumber (b ∷ xs) n → is_digit b ≡ true
number_head b xs n (inl h) = decimal_digit b (digits_head 10 b xs h.1)
number_head b xs n (inr (inl h)) = let q : b ≡ 48 = h.0 in subst (λ (x : ℕ). is_digit x ≡ true) (sym q) refl
number_head b xs n (inr (inr h)) = let q : b ≡ 48 = cc h.1 in subst (λ (x : ℕ). is_digit x ≡ true) (sym q) refl

abbrev is_mark_class : Class → Bool
is_mark_class Slash = true
is_mark_class Other = true
is_mark_class _ = false

abbrev mark_head : List ℕ → Bool
mark_head [] = false
mark_head (b ∷ bs) = is_mark_class (class_of b)

abbrev HeadClass : Option TokenKind → Class → Type 0
HeadClass None c = (c ≡ Blank) ⊎ (c ≡ Slash)
HeadClass (Some (kinds.Word w)) c = c ≡ Letter
HeadClass (Some (kinds.Attach w)) c = c ≡ Letter
HeadClass (Some (kinds.Map w)) c = c ≡ At
HeadClass (Some (kinds.Var w)) c = c ≡ Dollar
HeadClass (Some (kinds.Number v)) c = c ≡ Digit
HeadClass (Some (kinds.Text t)) c = c ≡ Quote
HeadClass (Some (kinds.Mark w)) c = is_mark_class c ≡ true

at_byte : (b c : ℕ) → b ≡ c → class_of b ≡ class_of c
at_byte b c e = ap class_of e

heads : (kind : Option TokenKind) (b : ℕ) (xs : List ℕ) → IsPiece kind (b ∷ xs) → HeadClass kind (class_of b)
heads None b xs (inl h) = inl (let q : b ≡ h.0 = cc h.1 in at_byte b h.0 q ∙ blank_class h.0 h.2)
heads None b xs (inr (inl h)) = inr (at_byte b 47 (cc h.1))
heads None b xs (inr (inr h)) = inr (at_byte b 47 (cc h.1))
heads (Some (kinds.Word w)) b xs h = letter_class b h.1.0
heads (Some (kinds.Attach w)) b xs h = letter_class b (word_head h.1.0 b 58 xs h.1.1 h.1.2 (attach_word h.1.0 h.1.3))
heads (Some (kinds.Map w)) b xs h = at_byte b 64 h.1.0
heads (Some (kinds.Var w)) b xs h = at_byte b 36 h.1.0
heads (Some (kinds.Number v)) b xs h = digit_class b (number_head b xs h.0 h.2)
heads (Some (kinds.Text t)) b xs h = at_byte b 34 (cc h.1)
heads (Some (kinds.Mark w)) b xs h = marks_pass mark_head refl (b ∷ xs) h.1

-- a piece has a byte
pub some_byte : (kind : Option TokenKind) → IsPiece kind [] → ⊥
some_byte None (inl h) = cc h.1
some_byte None (inr (inl h)) = cc h.1
some_byte None (inr (inr h)) = cc h.1
some_byte (Some (kinds.Word w)) h = h.1
some_byte (Some (kinds.Attach w)) h = no_cons h.1.0 58 h.1.1 h.1.2
  where
    no_cons : (word : List ℕ) (c : ℕ) (run : List ℕ) → [] ≡ word ++ c ∷ run → ⊥
    no_cons [] c run e = cc
    no_cons (d ∷ word) c run e = cc
some_byte (Some (kinds.Map w)) h = h.1
some_byte (Some (kinds.Var w)) h = h.1
some_byte (Some (kinds.Number v)) (n, e, inl h) = h
some_byte (Some (kinds.Number v)) (n, e, inr (inl h)) = h
some_byte (Some (kinds.Number v)) (n, e, inr (inr h)) = cc h.1
some_byte (Some (kinds.Text t)) h = cc h.1
some_byte (Some (kinds.Mark w)) h = absurd (let q : false ≡ true = marks_pass mark_head refl [] h.1 in cc)

-- ---- kinds

-- what a piece is, by the class of its first byte
abbrev pub Form : Class → List ℕ → Option TokenKind → Type 0
Form Blank bs kind = (kind ≡ None) × IsSeparator bs
Form Letter bs kind = ((kind ≡ Some (kinds.Word bs)) × IsWord bs) ⊎ ((kind ≡ Some (kinds.Attach bs)) × IsAttach bs)
Form Digit bs kind = (n : ℕ) × (kind ≡ Some (kinds.Number (signed n))) × IsNumber bs n
Form At bs kind = (kind ≡ Some (kinds.Map bs)) × IsMapName bs
Form Dollar bs kind = (kind ≡ Some (kinds.Var bs)) × IsVarName bs
Form Quote bs kind = (text : List ℕ) × (kind ≡ Some (kinds.Text text)) × IsString bs text
Form Slash bs kind = ((kind ≡ None) × IsSeparator bs) ⊎ ((kind ≡ Some (kinds.Mark bs)) × IsMark bs)
Form Other bs kind = (kind ≡ Some (kinds.Mark bs)) × IsMark bs

of_class : (c d : Class) (bs : List ℕ) (kind : Option TokenKind) → c ≡ d → Form d bs kind → Form c bs kind
of_class c d bs kind e f = subst (λ (x : Class). Form x bs kind) (sym e) f

mark_form : (c : Class) (bs : List ℕ) (kind : Option TokenKind) → is_mark_class c ≡ true → kind ≡ Some (kinds.Mark bs) → IsMark bs → Form c bs kind
mark_form Slash bs kind h e m = inr (e, m)
mark_form Other bs kind h e m = (e, m)
mark_form Blank bs kind h e m = absurd (false≢true h)
mark_form Letter bs kind h e m = absurd (false≢true h)
mark_form Digit bs kind h e m = absurd (false≢true h)
mark_form At bs kind h e m = absurd (false≢true h)
mark_form Dollar bs kind h e m = absurd (false≢true h)
mark_form Quote bs kind h e m = absurd (false≢true h)

form : (kind : Option TokenKind) (b : ℕ) (xs : List ℕ) → HeadClass kind (class_of b) → IsPiece kind (b ∷ xs) → Form (class_of b) (b ∷ xs) kind
form None b xs (inl c) h = of_class (class_of b) Blank (b ∷ xs) None c (refl, h)
form None b xs (inr c) h = of_class (class_of b) Slash (b ∷ xs) None c (inl (refl, h))
form (Some (kinds.Word w)) b xs c h = of_class (class_of b) Letter (b ∷ xs) (Some (kinds.Word w)) c (inl (ap (λ (l : List ℕ). Some (kinds.Word l)) h.0, h.1))
form (Some (kinds.Attach w)) b xs c h = of_class (class_of b) Letter (b ∷ xs) (Some (kinds.Attach w)) c (inr (ap (λ (l : List ℕ). Some (kinds.Attach l)) h.0, h.1))
form (Some (kinds.Map w)) b xs c h = of_class (class_of b) At (b ∷ xs) (Some (kinds.Map w)) c (ap (λ (l : List ℕ). Some (kinds.Map l)) h.0, h.1)
form (Some (kinds.Var w)) b xs c h = of_class (class_of b) Dollar (b ∷ xs) (Some (kinds.Var w)) c (ap (λ (l : List ℕ). Some (kinds.Var l)) h.0, h.1)
form (Some (kinds.Number v)) b xs c h = of_class (class_of b) Digit (b ∷ xs) (Some (kinds.Number v)) c (h.0, ap (λ (z : ℤ). Some (kinds.Number z)) h.1, h.2)
form (Some (kinds.Text t)) b xs c h = of_class (class_of b) Quote (b ∷ xs) (Some (kinds.Text t)) c (t, refl, h)
form (Some (kinds.Mark w)) b xs c h = mark_form (class_of b) (b ∷ xs) (Some (kinds.Mark w)) c (ap (λ (l : List ℕ). Some (kinds.Mark l)) h.0) h.1

pub form_at : (kind : Option TokenKind) (b : ℕ) (xs : List ℕ) (c : Class) → class_of b ≡ c → IsPiece kind (b ∷ xs) → Form c (b ∷ xs) kind
form_at kind b xs c q h = subst (λ (x : Class). Form x (b ∷ xs) kind) q (form kind b xs (heads kind b xs h) h)
