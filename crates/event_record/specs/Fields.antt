-- What the bytes of a field mean.
use Rattle.std.specs.Prelude.{ℕ, ◌+◌, ◌/◌, ◌%◌, ◌^◌, ℤ, ◌==◌, nat_le, List, [], length, take, drop, if◌then◌else◌}
use Rattle.std.specs.Int.{Width, w8, w16, w32, w64, from_le_bytes, cast_signed}
use Rattle.bt_core.specs.Text.{short_text}
use Rattle.event_layout.specs.declared.field.Field.{Field}
use Rattle.event_layout.specs.declared.field.FieldKind.{FieldKind}
use Rattle.event_layout.specs.declared.field.FieldKind.TheVariants.{Number, Chars, DataLoc, Other}

-- the bytes at a field's place
abbrev pub field_bytes : Field → List ℕ → List ℕ
field_bytes f payload = take f.size (drop f.offset payload)

-- the width of a number of 1, 2, 4 or 8 bytes
abbrev pub width_of : ℕ → Width
width_of size = if size == 1 then w8 else if size == 2 then w16 else if size == 4 then w32 else w64

-- The number of a field: of its bytes the first is the lowest, in two's complement of its own width where it is signed. The
-- language's numbers have 64 bits and a sign, so one that isn't signed is read so at that width.
abbrev pub field_number : Field → List ℕ → ℤ
field_number f payload =
    cast_signed (if f.signed then width_of f.size else w64) (from_le_bytes (width_of f.size) (field_bytes f payload))

-- the bytes that a data location says: the low 16 bits are their place in the payload, the high 16 bits their
-- number; none where they aren't all inside the payload
abbrev pub located : ℕ → List ℕ → List ℕ
located word payload =
    if nat_le (word % 2 ^ 16 + word / 2 ^ 16) (length payload) then take (word / 2 ^ 16) (drop (word % 2 ^ 16) payload) else []

-- the bytes of a string, by the field's kind
abbrev pub text_bytes : FieldKind → List ℕ → List ℕ → List ℕ
text_bytes DataLoc bytes payload = located (from_le_bytes w32 bytes) payload
text_bytes Chars bytes payload = bytes
text_bytes Number bytes payload = bytes
text_bytes Other bytes payload = bytes

-- the string of a field: of the first 63 of its bytes those before the first zero byte
abbrev pub field_text : Field → List ℕ → List ℕ
field_text f payload = short_text (text_bytes f.kind (field_bytes f payload) payload)
