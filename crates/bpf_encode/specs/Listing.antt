-- The listing of code.
use Rattle.std.specs.Prelude.{ℕ, zero, suc, ◌+◌, ◌/◌, ◌%◌, List, [], ◌∷◌, ◌++◌, length, take, drop, map}
use Rattle.hex.specs.Hex.{encode_lower}

-- the four last decimal digits of a number
abbrev pub four_digits : ℕ → List ℕ
four_digits n = (48 + n / 1000 % 10) ∷ (48 + n / 100 % 10) ∷ (48 + n / 10 % 10) ∷ (48 + n % 10) ∷ []

-- a byte in two hexadecimal digits
abbrev pub hex_byte : ℕ → List ℕ
hex_byte b = encode_lower (b ∷ [])

-- texts with a blank between each two
abbrev pub joined : List (List ℕ) → List ℕ
joined [] = []
joined (x ∷ []) = x
joined (x ∷ y ∷ ys) = x ++ 32 ∷ joined (y ∷ ys)

-- the line of a slot: its number, a colon and a blank, and its bytes
abbrev pub line : ℕ → List ℕ → List ℕ
line n slot = four_digits n ++ 58 ∷ 32 ∷ (joined (map hex_byte slot) ++ 10 ∷ [])

-- the bytes of so many slots, slot by slot
abbrev pub slots_in : ℕ → List ℕ → List (List ℕ)
slots_in zero bytes = []
slots_in (suc slots) bytes = take 8 bytes ∷ slots_in slots (drop 8 bytes)

-- the lines of slots, which are numbered from n on
abbrev pub lines_from : ℕ → List (List ℕ) → List ℕ
lines_from n [] = []
lines_from n (slot ∷ slots) = line n slot ++ lines_from (n + 1) slots

abbrev pub listing_of : List ℕ → List ℕ
listing_of bytes = lines_from 0 (slots_in (length bytes / 8) bytes)

-- bytes with a blank before each
abbrev pub spaced : List ℕ → List ℕ
spaced [] = []
spaced (b ∷ bs) = 32 ∷ (hex_byte b ++ spaced bs)
