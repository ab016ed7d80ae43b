-- Bytes, and the events of a recording, by their places.
use Rattle.std.specs.Prelude.{◌≡◌, ◌≤◌, ◌<◌, ◌^◌, ℕ, List, length, slice_get, slice_index, option_and_then, Option, Some}
use Rattle.std.specs.Int.{w16, from_le_bytes}
use Rattle.std.specs.List.{AllByRecursion}
use Rattle.event_layout.specs.declared.format.Format.{Format}
use Rattle.recordings.specs.declared.recording.Recording.{Recording}
use Rattle.recordings.specs.declared.recording.CpuTrack.{CpuTrack}
use Rattle.recordings.specs.declared.recording.Entry.{Entry}
use Rattle.recordings.specs.declared.recording.Entry.TheVariants as entry
use Rattle.recordings.specs.declared.recording.Event.{Event}

-- each is below 256
abbrev pub AreBytes : List ℕ → Type 0
AreBytes bytes = (i : ℕ) → slice_index bytes i < 256

-- the entry at a place of the CPU at a place, both counted from 0
abbrev pub entry_at_place : Recording → ℕ → ℕ → Option Entry
entry_at_place r cpu place = option_and_then (λ (c : CpuTrack). slice_get c.entries place) (slice_get r.cpus cpu)

abbrev pub entry_time : Entry → ℕ
entry_time (entry.Event e) = e.time
entry_time (entry.Lost time count) = time

-- The event's format stands at its place, and the payload begins with the format's ID, has the bytes of its layout, and has
-- fewer than 2^32 bytes.
pub record HasFormat (formats : List Format) (e : Event) : Type 0 where
  pub format : Format
  pub placed : slice_get formats e.format ≡ Some format
  pub two : 2 ≤ length e.payload
  pub id : from_le_bytes w16 e.payload ≡ format.layout.id
  pub long : format.layout.size ≤ length e.payload
  pub short : length e.payload < 2 ^ 32

-- the bytes of an entry are bytes
abbrev pub IsHeldEntry : Entry → Type 0
IsHeldEntry (entry.Event e) = AllByRecursion (λ b. b < 256) e.comm × AllByRecursion (λ b. b < 256) e.payload
IsHeldEntry (entry.Lost time count) = Unit {0}
