-- Values as bytes.
use Rattle.std.specs.Prelude.{◌≡◌, ℕ, zero, suc, ◌+◌, ◌-◌, ℤ, pos, nat_eq, nat_le, List, [], ◌∷◌, ◌++◌, length, take, drop, if◌then◌else◌}
use Rattle.std.specs.Int.{w64, cast_signed, cast_unsigned, from_le_bytes, to_le_bytes}
use Rattle.bt_core.specs.declared.value.Value.{Value}
use Rattle.bt_core.specs.declared.value.Value.TheVariants.{Int, Str}
use Rattle.bt_core.specs.Text.{short_text}

-- a zero and the eight bytes of a number, the lowest first; or one more than the length of a string, and its bytes
abbrev pub value_code : Value → List ℕ
value_code (Int n) = 0 ∷ to_le_bytes w64 (cast_unsigned w64 n)
value_code (Str s) = (length s + 1) ∷ s

abbrev pub values_code : List Value → List ℕ
values_code [] = []
values_code (v ∷ vs) = value_code v ++ values_code vs

-- the one list is the front of the other
abbrev pub Extends : List ℕ → List ℕ → Type 0
Extends xs ys = (more : List ℕ) × (ys ≡ xs ++ more)

-- ---- what is read, of any bytes

-- the number in eight bytes, or 0
abbrev pub number_in : List ℕ → ℤ
number_in bytes = if nat_le 8 (length bytes) then cast_signed w64 (from_le_bytes w64 (take 8 bytes)) else pos 0

-- the value at the front
abbrev pub value_in : List ℕ → Value
value_in [] = Int (pos 0)
value_in (kind ∷ bytes) = if nat_eq kind 0 then Int (number_in (take 8 bytes)) else Str (short_text (take (kind - 1) bytes))

abbrev pub after_value : List ℕ → List ℕ
after_value [] = []
after_value (kind ∷ bytes) = if nat_eq kind 0 then drop 8 bytes else drop (kind - 1) bytes

-- so many values
abbrev pub values_in : ℕ → List ℕ → List Value
values_in zero bytes = []
values_in (suc n) bytes = value_in bytes ∷ values_in n (after_value bytes)
