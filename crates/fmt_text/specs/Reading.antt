-- How a format is read from its front: definitions that go with the code, step by step.
use Rattle.std.specs.Prelude.{◌++◌, ◌+◌, ◌*◌, ◌-◌, ℕ, Bool, true, false, not, ◌&&◌, ◌||◌, ◌==◌, nat_le, List, [], ◌∷◌, Option, Some, None, if◌then◌else◌}
use Rattle.std.specs.Option.{option_map}
use Rattle.bt_core.specs.Bytes.{is_digit}
use Rattle.fmt_text.specs.declared.piece.Piece.{Piece}
use Rattle.fmt_text.specs.declared.piece.Piece.TheVariants.{Literal, Conversion}
use Rattle.fmt_text.specs.declared.piece.FormatFault.{FormatFault}
use Rattle.fmt_text.specs.declared.piece.FormatFault.TheVariants.{BadAt, Memory}
use Rattle.fmt_text.specs.declared.conversion.Converted.{Converted}
use Rattle.fmt_text.specs.declared.conversion.Front.{Front}
use Rattle.fmt_text.specs.declared.conversion.Front.TheVariants.{Byte, Conversion as Shown}
use Rattle.fmt_text.specs.Formats.{is_letter, is_text_letter, joined, IsBadAt}

-- whether a byte stands at the front, and what stands behind it
abbrev pub after_flag : ℕ → List ℕ → Bool × List ℕ
after_flag flag [] = (false, [])
after_flag flag (b ∷ bs) = if b == flag then (true, bs) else (false, b ∷ bs)

pub record Flagged : Type 0 where
  pub left : Bool
  pub zero : Bool
  pub rest : List ℕ

abbrev pub flagged : Bool → Bool × List ℕ → Flagged
flagged left zero = record { left = left; zero = zero.0; rest = zero.1 }

abbrev pub flagged_late : Bool → Bool × List ℕ → Flagged
flagged_late zero left = record { left = left.0; zero = zero; rest = left.1 }

-- the flags at the front: `-` may stand before or behind `0`
abbrev pub flags_by : Bool × List ℕ → Flagged
flags_by left =
    if left.0 then flagged true (after_flag 48 left.1)
    else flagged_late (after_flag 48 left.1).0 (after_flag 45 (after_flag 48 left.1).1)

abbrev pub flags_at : List ℕ → Flagged
flags_at bytes = flags_by (after_flag 45 bytes)

-- the number that digits at the front write behind others, if it is at most 255
abbrev pub width_after : ℕ → List ℕ → Option (ℕ × List ℕ)
width_after number [] = Some (number, [])
width_after number (b ∷ bs) =
    if is_digit b then (if nat_le (number * 10 + (b - 48)) 255 then width_after (number * 10 + (b - 48)) bs else None)
    else Some (number, b ∷ bs)

-- the width at the front, if it begins with no `0`
abbrev pub width_at : List ℕ → Option (ℕ × List ℕ)
width_at bytes = if (after_flag 48 bytes).0 then None else width_after 0 bytes

-- what stands behind a length word
abbrev pub after_size : List ℕ → List ℕ
after_size [] = []
after_size (b ∷ bs) = if b == 104 || b == 108 then (after_flag b bs).1 else b ∷ bs

abbrev pub letter_at : Bool → Bool → ℕ → List ℕ → Option (Converted × List ℕ)
letter_at left zero width [] = None
letter_at left zero width (b ∷ bs) =
    if is_letter b && not (zero && is_text_letter b) then Some (record { left = left; zero = zero; width = width; letter = b }, bs) else None

abbrev pub behind_width : Bool → Bool → Option (ℕ × List ℕ) → Option (Converted × List ℕ)
behind_width left zero None = None
behind_width left zero (Some width) = letter_at left zero width.0 (after_size width.1)

abbrev pub behind_flags : Flagged → Option (Converted × List ℕ)
behind_flags f = behind_width f.left f.zero (width_at f.rest)

-- the conversion whose `%` stands before the bytes, and what stands behind it
unfoldable pub conversion_at : List ℕ → Option (Converted × List ℕ)
conversion_at bytes = behind_flags (flags_at bytes)

abbrev pub shown_front : Converted × List ℕ → Front × List ℕ
shown_front c = (Shown c.0, c.1)

-- what stands behind a `%`
abbrev pub behind_percent : List ℕ → Option (Front × List ℕ)
behind_percent [] = None
behind_percent (b ∷ bs) = if b == 37 then Some (Byte 37, bs) else option_map shown_front (conversion_at (b ∷ bs))

-- what stands at the front
abbrev pub front_of : List ℕ → Option (Front × List ℕ)
front_of [] = None
front_of (b ∷ bs) = if b == 37 then behind_percent bs else Some (Byte b, bs)

abbrev pub front_piece : Front → Piece
front_piece (Byte b) = Literal (b ∷ [])
front_piece (Shown c) = Conversion c.left c.zero c.width c.letter

-- bytes that were read, before other pieces
abbrev pub before : List ℕ → List Piece → List Piece
before [] pieces = pieces
before (b ∷ bs) pieces = joined (Literal (b ∷ bs)) pieces

-- pieces that end in bytes that may go on, before other pieces
abbrev pub going_on : List Piece → List ℕ → List Piece → List Piece
going_on done bytes pieces = done ++ before bytes pieces

abbrev pub IsFault : List ℕ → FormatFault → Type 0
IsFault text (BadAt offset) = IsBadAt text offset
IsFault text (Memory _) = Unit {0}
