-- The checks of a recording's parts, in their order, apart from those of the entries of its CPUs.
use Rattle.std.specs.Prelude.{◌≡◌, ◌⊎◌, ◌+◌, ℕ, Bool, true, false, ◌==◌, ◌&&◌, ◌||◌, not}
use Rattle.std.specs.Prelude.{nat_le, nat_lt, codes, List, [], ◌∷◌, length, Option, Some, None, if◌then◌else◌}
use Rattle.std.specs.List.{list_all, list_any}
use Rattle.std.specs.Str.{bytes_eq}
use Rattle.bt_core.specs.Bytes.{is_word_byte}
use Rattle.bt_core.specs.declared.limits.TheConstants.{CPUS, FORMATS, EVENTS}
use Rattle.event_layout.specs.declared.format.Format.{Format}
use Rattle.event_layout.specs.declared.error.FormatError.{FormatError}
use Rattle.event_layout.specs.declared.layout.Layout.{Layout}
use Rattle.event_layout.specs.ByName.{is_same_tracepoint}
use Rattle.event_layout.specs.Layouts.{IsLayoutOf, layout_fault}
use Rattle.recordings.specs.declared.limits.TheConstants.{SYSTEM_BYTES}
use Rattle.recordings.specs.declared.error.RecordingError.{RecordingError}
use Rattle.recordings.specs.declared.error.RecordingError.TheVariants as fault
use Rattle.recordings.specs.declared.error.CountOf.TheVariants as count
use Rattle.recordings.specs.Parts.{HeaderPart, FormatPart, CpuPart}

-- the first of these faults whose test holds
abbrev pub first_fault : List (Bool × RecordingError) → Option RecordingError
first_fault [] = None
first_fault (check ∷ checks) = if check.0 then Some check.1 else first_fault checks

-- ---- the header

-- the magic of a version
abbrev pub magic_of : ℕ → List ℕ
magic_of version = if version == 1 then codes "BTRACE01" else codes "BTRACE02"

-- the version that a magic tells
abbrev pub version_of : List ℕ → ℕ
version_of magic = if bytes_eq magic (codes "BTRACE01") then 1 else 2

-- whether CPUs of this version may have marks of lost events
abbrev pub has_marks : ℕ → Bool
has_marks version = not (version == 1)

abbrev pub header_fault : HeaderPart → Option RecordingError
header_fault h = first_fault (
    (not (bytes_eq h.magic (codes "BTRACE01") || bytes_eq h.magic (codes "BTRACE02")), fault.BadMagic)
    ∷ (h.cpus == 0 || nat_lt CPUS h.cpus, fault.Count count.Cpus)
    ∷ (nat_lt FORMATS h.formats, fault.Count count.Formats)
    ∷ (nat_lt h.end h.start, fault.Count count.Span)
    ∷ [])

-- ---- a format

-- a letter, a digit, `_` or `-`
abbrev pub is_system_byte : ℕ → Bool
is_system_byte b = is_word_byte b || b == 45

-- 1 to 64 letters, digits, `_` and `-`
abbrev pub is_system : List ℕ → Bool
is_system system = (nat_lt 0 (length system) && nat_le (length system) SYSTEM_BYTES) && list_all is_system_byte system

-- two formats of one ID, or of one system and name
abbrev pub is_same_event : Format → Format → Bool
is_same_event f g = g.layout.id == f.layout.id || is_same_tracepoint g f

abbrev pub format_of : FormatPart → Layout → Format
format_of part layout = record { system = part.system; text = part.text; layout = layout }

-- a format whose text has a layout, and that an earlier one equals
pub record IsFormatRefused (earlier : List Format) (part : FormatPart) (e : RecordingError) : Type 0 where
  pub layout : Layout
  pub read : IsLayoutOf part.text layout
  pub same : list_any (is_same_event (format_of part layout)) earlier ≡ true
  pub told : e ≡ fault.SameEvent (length earlier)

-- a format whose text breaks a rule
pub record IsTextRefused (earlier : List Format) (part : FormatPart) (e : RecordingError) : Type 0 where
  pub rule : FormatError
  pub broken : layout_fault part.text ≡ Some rule
  pub told : e ≡ fault.Format (length earlier) rule

-- The format behind so many earlier ones: its system first, then its text, then the earlier formats.
abbrev pub IsFormatFault : List Format → FormatPart → RecordingError → Type 0
IsFormatFault earlier part e =
    ((is_system part.system ≡ false) × (e ≡ fault.BadSystem (length earlier)))
    ⊎ ((is_system part.system ≡ true) × (IsTextRefused earlier part e ⊎ IsFormatRefused earlier part e))

-- ---- the head of a CPU

-- the head behind so many earlier CPUs, where its number may be so small, and so many entries were announced
abbrev pub cpu_fault : ℕ → ℕ → ℕ → CpuPart → Option RecordingError
cpu_fault place least announced c = first_fault (
    (nat_lt c.number least, fault.CpuNumber place)
    ∷ (nat_lt EVENTS (announced + c.entries), fault.Count count.Events)
    ∷ [])
