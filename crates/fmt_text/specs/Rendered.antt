-- The text of a printf call.
use Rattle.std.specs.Prelude.{ℕ, ◌++◌, ◌%◌, ℤ, pos, Bool, true, false, not, ◌&&◌, ◌==◌, List, [], ◌∷◌, decimal, int_lt, unsigned_abs, if◌then◌else◌}
use Rattle.std.specs.Fmt.{digits, sign_text}
use Rattle.bt_core.specs.declared.value.Value.{Value}
use Rattle.bt_core.specs.declared.value.Value.TheVariants.{Int, Str}
use Rattle.bt_core.specs.Arithmetic.{bits_of}
use Rattle.fmt_text.specs.declared.piece.Piece.{Piece}
use Rattle.fmt_text.specs.declared.piece.Piece.TheVariants.{Literal, Conversion}
use Rattle.fmt_text.specs.Columns.{fill, left_in, right_in}
use Rattle.fmt_text.specs.Formats.{is_text_letter}

-- what a conversion shows: a sign or nothing, and behind it digits, a byte or a string
pub record Shown : Type 0 where
  pub sign : List ℕ
  pub body : List ℕ

abbrev pub without_sign : List ℕ → Shown
without_sign body = record { sign = []; body = body }

-- `u`, `x` and `X` show the 64 bits of a number, `c` its low 8 bits as one byte, and `d` and `i` the number with its sign
abbrev pub number_shown : ℕ → ℤ → Shown
number_shown letter n =
    if letter == 117 then without_sign (decimal (bits_of n)) else
    if letter == 120 then without_sign (digits 16 false (bits_of n)) else
    if letter == 88 then without_sign (digits 16 true (bits_of n)) else
    if letter == 99 then without_sign (bits_of n % 256 ∷ []) else
    record { sign = sign_text (int_lt n (pos 0)); body = decimal (unsigned_abs n) }

abbrev pub value_shown : ℕ → Value → Shown
value_shown letter (Int n) = number_shown letter n
value_shown letter (Str s) = without_sign s

-- right in its columns, or left, or with zeros behind the sign
abbrev pub placed : Bool → Bool → ℕ → Shown → List ℕ
placed left zero width s =
    if left then left_in width (s.sign ++ s.body) else
    if zero then s.sign ++ (fill 48 width (s.sign ++ s.body) ++ s.body) else
    right_in width (s.sign ++ s.body)

-- the text of a conversion's value: zeros fill a number, and no string or byte
abbrev pub conversion_text : Bool → Bool → ℕ → ℕ → Value → List ℕ
conversion_text left zero width letter value = placed left (zero && not (is_text_letter letter)) width (value_shown letter value)

-- the text of each piece, one behind the other: bytes that stand for themselves, and for each conversion the text of the next value
abbrev pub rendered : List Piece → List Value → List ℕ
rendered [] values = []
rendered (Literal bytes ∷ pieces) values = bytes ++ rendered pieces values
rendered (Conversion left zero width letter ∷ pieces) (value ∷ values) = conversion_text left zero width letter value ++ rendered pieces values
rendered (Conversion left zero width letter ∷ pieces) [] = rendered pieces []
