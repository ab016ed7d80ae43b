-- How pieces, numbers, events and marks are taken from the front of bytes: each is a value and the bytes after it, or nothing.
use Rattle.std.specs.Prelude.{ℕ, Bool, nat_le, List, length, take, drop, Option, Some, None, if◌then◌else◌}
use Rattle.std.specs.Int.{Width, w32, w64, byte_len, from_le_bytes}
use Rattle.recordings.specs.declared.part.EntryBytes.{EntryBytes}
use Rattle.recordings.specs.declared.part.EntryBytes.TheVariants as held
use Rattle.recordings.specs.declared.part.EventBytes.{EventBytes}
use Rattle.recordings.specs.EntryParts.{EntryPart, Occurs, Misses, Unknown}
use Rattle.recordings.specs.Parts.{EventPart}

infixl 10 ◌>>=◌
abbrev pub ◌>>=◌ : {A B : Type 0} → Option A → (A → Option B) → Option B
None >>= f = None
(Some x) >>= f = f x

-- the value where the test holds
abbrev pub where_true : {A : Type 0} → Bool → A → Option A
where_true test value = if test then Some value else None

-- so many bytes
abbrev pub bytes_at : ℕ → List ℕ → Option (List ℕ × List ℕ)
bytes_at n bytes = where_true (nat_le n (length bytes)) (take n bytes, drop n bytes)

-- a number of this width
abbrev pub number_at : Width → List ℕ → Option (ℕ × List ℕ)
number_at w bytes = where_true (nat_le (byte_len w) (length bytes)) (from_le_bytes w bytes, drop (byte_len w) bytes)

-- bytes behind their length, which is a number of this width
unfoldable pub sized_at : Width → List ℕ → Option (List ℕ × List ℕ)
sized_at w bytes = number_at w bytes >>= λ len. bytes_at len.0 len.1

unfoldable pub event_at : List ℕ → Option (EventPart × List ℕ)
event_at bytes =
    number_at w64 bytes
    >>= λ time. number_at w32 time.1
    >>= λ pid. number_at w32 pid.1
    >>= λ tid. number_at w32 tid.1
    >>= λ uid. number_at w32 uid.1
    >>= λ gid. bytes_at 16 gid.1
    >>= λ comm. sized_at w32 comm.1
    >>= λ payload. Some (record { time = time.0; pid = pid.0; tid = tid.0; uid = uid.0; gid = gid.0; comm = comm.0; payload = payload.0 }, payload.1)

unfoldable pub mark_at : List ℕ → Option (EntryPart × List ℕ)
mark_at bytes = number_at w64 bytes >>= λ time. number_at w64 time.1 >>= λ count. Some (Misses time.0 count.0, count.1)

-- ---- the parts that borrowed bytes hold

abbrev pub event_part : EventBytes → EventPart
event_part e = record { time = e.time; pid = e.pid; tid = e.tid; uid = e.uid; gid = e.gid; comm = e.comm; payload = e.payload.now }

abbrev pub entry_part : EntryBytes → EntryPart
entry_part (held.Event e) = Occurs (event_part e)
entry_part (held.Lost time count) = Misses time count
entry_part (held.Unknown tag) = Unknown tag
