-- Classes of bytes, and what is found among bytes.
use Rattle.std.specs.Prelude.{◌≡◌, ℕ, Bool, Option, Some, None}
use Rattle.bt_core.specs.Bytes.{is_word_byte}
use Rattle.event_layout.specs.Bytes.{is_blank, is_line_end, is_separator}
use Rattle.tracefs_format.specs.declared.bytes.ByteClass.{ByteClass}
use Rattle.tracefs_format.specs.declared.bytes.ByteClass.TheVariants.{Blank, LineEnd, Word, Separator}

-- the bytes of a class
abbrev pub is_in : ByteClass → ℕ → Bool
is_in Blank = is_blank
is_in LineEnd = is_line_end
is_in Word = is_word_byte
is_in Separator = is_separator

-- what was found, seen by view, is what there is
abbrev pub Finds : {X Y : Type 0} → (X → Y) → Option X → Option Y → Type 0
Finds view None there = there ≡ None
Finds view (Some x) there = there ≡ Some (view x)
