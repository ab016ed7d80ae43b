-- Numbers: decimal, hexadecimal and octal, with `_` between digits.
use Rattle.std.specs.Prelude.{◌≡◌, ◌≢◌, ℕ, ◌<◌, ◌⊎◌, Bool, not, ◌==◌, List, [], ◌∷◌, filter, ℤ}
use Rattle.std.specs.Char.{digit_value}
use Rattle.std.specs.Str.Parse.{digits_value}
use Rattle.std.specs.Int.{w64, cast_signed}

-- digits of the base, one at least, with a `_` between two of them or none
abbrev pub AreDigits : ℕ → List ℕ → Type 0
AreDigits base [] = ⊥
AreDigits base (d ∷ []) = digit_value d < base
AreDigits base (d ∷ c ∷ more) = (digit_value d < base) × (AreDigits base (c ∷ more) ⊎ ((c ≡ 95) × AreDigits base more))

abbrev pub not_underscore : ℕ → Bool
not_underscore b = not (b == 95)

-- the number that the digits write, each `_` aside
abbrev pub value_of : ℕ → List ℕ → ℕ
value_of base digits = digits_value base (filter not_underscore digits)

-- digits that do not begin with 0
abbrev pub IsDecimal : List ℕ → ℕ → Type 0
IsDecimal [] n = ⊥
IsDecimal (d ∷ more) n = (d ≢ 48) × AreDigits 10 (d ∷ more) × (n ≡ value_of 10 (d ∷ more))

-- octal digits of which the first is 0, which may stand alone
abbrev pub IsOctal : List ℕ → ℕ → Type 0
IsOctal [] n = ⊥
IsOctal (d ∷ more) n = (d ≡ 48) × AreDigits 8 (d ∷ more) × (n ≡ value_of 8 (d ∷ more))

-- `0x` and hexadecimal digits
abbrev pub IsHexadecimal : List ℕ → ℕ → Type 0
IsHexadecimal bs n = (digits : List ℕ) × (bs ≡ 48 ∷ 120 ∷ digits) × AreDigits 16 digits × (n ≡ value_of 16 digits)

-- the bytes write the number, whatever its size
abbrev pub IsNumber : List ℕ → ℕ → Type 0
IsNumber bs n = IsDecimal bs n ⊎ (IsOctal bs n ⊎ IsHexadecimal bs n)

-- a number below 2^64 as the signed number with the same 64 bits
abbrev pub signed : ℕ → ℤ
signed n = cast_signed w64 n
