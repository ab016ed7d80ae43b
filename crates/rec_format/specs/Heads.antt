-- How the reader takes parts from the front of bytes: each is a value and the bytes after it, or nothing. These definitions
-- mirror the code for its proofs, and no public contract cites them.
use Rattle.std.specs.Prelude.{ℕ, Bool, true, false, nat_eq, List, [], ◌∷◌, Option, Some, None, if◌then◌else◌}
use Rattle.std.specs.Int.{w16, w32, w64}
use Rattle.std.specs.Option.{option_map}
use Rattle.recordings.specs.EntryParts.{EntryPart, Occurs, Unknown}
use Rattle.recordings.specs.Fronts.{◌>>=◌, bytes_at, number_at, sized_at, event_at, mark_at}
use Rattle.recordings.specs.Parts.{HeaderPart, FormatPart, CpuPart, EventPart}
use Rattle.rec_format.specs.declared.part.Header.{Header}
use Rattle.rec_format.specs.declared.part.FormatText.{FormatText}
use Rattle.rec_format.specs.declared.part.CpuHead.{CpuHead}

unfoldable pub header_at : List ℕ → Option (HeaderPart × List ℕ)
header_at bytes =
    bytes_at 8 bytes
    >>= λ magic. number_at w32 magic.1
    >>= λ cpus. number_at w32 cpus.1
    >>= λ formats. number_at w64 formats.1
    >>= λ start. number_at w64 start.1
    >>= λ end. Some (record { magic = magic.0; cpus = cpus.0; formats = formats.0; start = start.0; end = end.0 }, end.1)

unfoldable pub format_at : List ℕ → Option (FormatPart × List ℕ)
format_at bytes =
    sized_at w16 bytes
    >>= λ system. sized_at w32 system.1
    >>= λ text. Some (record { system = system.0; text = text.0 }, text.1)

unfoldable pub cpu_at : List ℕ → Option (CpuPart × List ℕ)
cpu_at bytes =
    number_at w32 bytes
    >>= λ number. number_at w32 number.1
    >>= λ entries. Some (record { number = number.0; entries = entries.0 }, entries.1)

-- an event
abbrev pub plain_at : List ℕ → Option (EntryPart × List ℕ)
plain_at bytes = option_map {U = EntryPart × List ℕ} (λ (p : EventPart × List ℕ). (Occurs p.0, p.1)) (event_at bytes)

-- an entry behind its first byte
abbrev pub tagged_at : ℕ → List ℕ → Option (EntryPart × List ℕ)
tagged_at tag bytes = if nat_eq tag 0 then plain_at bytes else (if nat_eq tag 1 then mark_at bytes else Some (Unknown tag, bytes))

-- an entry, where there may be marks and where there may not
abbrev pub entry_at : Bool → List ℕ → Option (EntryPart × List ℕ)
entry_at false bytes = plain_at bytes
entry_at true [] = None
entry_at true (tag ∷ bytes) = tagged_at tag bytes

-- ---- the parts that borrowed bytes hold

abbrev pub header_part : Header → HeaderPart
header_part h = record { magic = h.magic.now; cpus = h.cpus; formats = h.formats; start = h.start; end = h.end }

abbrev pub format_part : FormatText → FormatPart
format_part f = record { system = f.system.now; text = f.text.now }

abbrev pub cpu_part : CpuHead → CpuPart
cpu_part c = record { number = c.number; entries = c.entries }
