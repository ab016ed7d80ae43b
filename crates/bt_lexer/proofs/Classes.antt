-- The class of a byte, which decides what begins with it.
use Rattle.std.proofs.Common.{◌≡◌, ℕ, Bool, true, false, cond, List, ◌∷◌, refl, ap, sym, arith}
use Rattle.std.specs.Prelude.{Result, if◌then◌else◌, ◌==◌}
use Rattle.std.proofs.lemmas.Bool.Decides.{nat_tests}
use Rattle.bt_core.specs.Bytes.{is_letter, is_digit}
use Rattle.bt_lexer.specs.Bytes.{is_blank}
use Rattle.bt_lexer.specs.declared.piece.Piece.{Piece}
use Rattle.bt_lexer.specs.declared.error.LexError.{LexError}
use Rattle.bt_lexer.specs.Scan.{piece_at, separator, word_piece, number_piece, map_piece, var_piece, string_piece, slash_piece, mark_piece}
use Rattle.bt_lexer.proofs.Choices.{is_eq, decided}

pub data Class : Type 0 where
  Blank : Class
  Letter : Class
  Digit : Class
  At : Class
  Dollar : Class
  Quote : Class
  Slash : Class
  Other : Class

abbrev pub class_of : ℕ → Class
class_of b = if is_blank b then Blank
    else (if is_letter b then Letter
    else (if is_digit b then Digit
    else (if b == 64 then At
    else (if b == 36 then Dollar
    else (if b == 34 then Quote
    else (if b == 47 then Slash
    else Other))))))

-- what is known of a byte of the class
abbrev pub Facts : ℕ → Class → Type 0
Facts b Blank = is_blank b ≡ true
Facts b Letter = is_letter b ≡ true
Facts b Digit = is_digit b ≡ true
Facts b At = b ≡ 64
Facts b Dollar = b ≡ 36
Facts b Quote = b ≡ 34
Facts b Slash = b ≡ 47
Facts b Other = Unit {0}

pub facts : (b : ℕ) → Facts b (class_of b)
facts b =
    decided (Facts b) (is_blank b) _ _ (λ h. h) (λ h0.
    decided (Facts b) (is_letter b) _ _ (λ h. h) (λ h1.
    decided (Facts b) (is_digit b) _ _ (λ h. h) (λ h2.
    decided (Facts b) (b == 64) _ _ (λ h. is_eq b 64 h) (λ h3.
    decided (Facts b) (b == 36) _ _ (λ h. is_eq b 36 h) (λ h4.
    decided (Facts b) (b == 34) _ _ (λ h. is_eq b 34 h) (λ h5.
    decided (Facts b) (b == 47) _ _ (λ h. is_eq b 47 h) (λ h6. tt)))))))

pub blank_class : (b : ℕ) → is_blank b ≡ true → class_of b ≡ Blank
blank_class b h = rw h refl

letter_not_blank : (b : ℕ) → is_letter b ≡ true → is_blank b ≡ false
letter_not_blank b h = grind (arith, nat_tests)

digit_not_blank : (b : ℕ) → is_digit b ≡ true → is_blank b ≡ false
digit_not_blank b h = grind (arith, nat_tests)

digit_not_letter : (b : ℕ) → is_digit b ≡ true → is_letter b ≡ false
digit_not_letter b h = grind (arith, nat_tests)

pub letter_class : (b : ℕ) → is_letter b ≡ true → class_of b ≡ Letter
letter_class b h = rw (letter_not_blank b h, h) refl

pub digit_class : (b : ℕ) → is_digit b ≡ true → class_of b ≡ Digit
digit_class b h = rw (digit_not_blank b h, digit_not_letter b h, h) refl

-- what is found, by the class of the first byte
abbrev pub by_class : ℕ → ℕ → List ℕ → Class → Result Piece LexError
by_class offset b bs Blank = separator 1
by_class offset b bs Letter = word_piece (b ∷ bs)
by_class offset b bs Digit = number_piece offset (b ∷ bs)
by_class offset b bs At = map_piece (b ∷ bs)
by_class offset b bs Dollar = var_piece offset (b ∷ bs)
by_class offset b bs Quote = string_piece offset bs
by_class offset b bs Slash = slash_piece offset bs
by_class offset b bs Other = mark_piece offset (b ∷ bs)

push : (offset b : ℕ) (bs : List ℕ) (t : Bool) (c d : Class) → by_class offset b bs (cond t c d) ≡ cond t (by_class offset b bs c) (by_class offset b bs d)
push offset b bs true c d = refl
push offset b bs false c d = refl

pub piece_by_class : (offset b : ℕ) (bs : List ℕ) → piece_at offset (b ∷ bs) ≡ by_class offset b bs (class_of b)
unfolding piece_at
piece_by_class offset b bs = sym (simp (push offset b bs))

-- two classes are apart
abbrev pub code : Class → ℕ
code Blank = 0
code Letter = 1
code Digit = 2
code At = 3
code Dollar = 4
code Quote = 5
code Slash = 6
code Other = 7

same_code : (m n : ℕ) → m ≡ n → (m == n) ≡ false → ⊥
same_code m n e h = absurd (grind (arith, nat_tests))

pub apart : (c d : Class) → (code c == code d) ≡ false → c ≡ d → ⊥
apart c d h e = same_code (code c) (code d) (ap code e) h
