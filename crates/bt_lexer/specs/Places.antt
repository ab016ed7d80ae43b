-- Lines and columns, both from 1; a column counts bytes.
use Rattle.std.specs.Prelude.{ℕ, ◌+◌, ◌==◌, List, length, reverse, count_by, take_while}
use Rattle.bt_lexer.specs.declared.error.LexError.{LexError}
use Rattle.bt_lexer.specs.declared.error.LexError.TheVariants as faults
use Rattle.bt_lexer.specs.Bytes.{not_newline}

-- the line of what stands behind these bytes
abbrev pub line_behind : List ℕ → ℕ
line_behind before = 1 + count_by (λ b. b == 10) before

-- its column, by the bytes behind the last newline
abbrev pub column_behind : List ℕ → ℕ
column_behind before = 1 + length (take_while not_newline (reverse before))

-- the offset of a fault's byte
abbrev pub offset_of : LexError → ℕ
offset_of (faults.BadChar at) = at
offset_of (faults.OpenString at) = at
offset_of (faults.OpenComment at) = at
offset_of (faults.NumberTooLarge at) = at
offset_of (faults.BadEscape at) = at
offset_of (faults.StringTooLong at) = at
offset_of faults.Memory = 0
