-- The entries of a CPU's track. Where a recording may have marks of lost events, each entry begins with a byte that tells whether it is
-- an event or a mark; where it may not, an entry is an event, and no byte stands before it.
use Rattle.std.specs.Prelude.{◌≡◌, ◌<◌, ◌^◌, ℕ, Bool, true, false, nat_eq, List, [], ◌∷◌, ◌++◌, Option, Some, None, if◌then◌else◌}
use Rattle.std.specs.Int.{w64, to_le_bytes}
use Rattle.event_layout.specs.declared.format.Format.{Format}
use Rattle.recordings.specs.declared.error.RecordingError.{RecordingError}
use Rattle.recordings.specs.declared.error.RecordingError.TheVariants as fault
use Rattle.recordings.specs.declared.recording.Entry.{Entry}
use Rattle.recordings.specs.declared.recording.Entry.TheVariants as entry
use Rattle.recordings.specs.Parts.{EventPart, IsEventPart, event_bytes}
use Rattle.recordings.specs.Entries.{EntryKind}
use Rattle.recordings.specs.Events.{part_of_event, IsEvent, payload_fault}

-- an event, a mark of so many lost ones, and a byte with which no entry begins
pub data EntryPart : Type 0 where
  Occurs : (event : EventPart) → EntryPart
  Misses : (time count : ℕ) → EntryPart
  Unknown : (tag : ℕ) → EntryPart

abbrev pub part_of_entry : Entry → EntryPart
part_of_entry (entry.Event e) = Occurs (part_of_event e)
part_of_entry (entry.Lost time count) = Misses time count

-- its numbers fit their bytes, and it may stand there
abbrev pub IsEntryPart : Bool → EntryPart → Type 0
IsEntryPart marks (Occurs e) = IsEventPart e
IsEntryPart true (Misses time count) = (time < 2 ^ 64) × (count < 2 ^ 64)
IsEntryPart false (Misses time count) = ⊥
IsEntryPart true (Unknown tag) = (nat_eq tag 0 ≡ false) × (nat_eq tag 1 ≡ false)
IsEntryPart false (Unknown tag) = ⊥

abbrev pub entry_bytes : Bool → EntryPart → List ℕ
entry_bytes true (Occurs e) = 0 ∷ event_bytes e
entry_bytes false (Occurs e) = event_bytes e
entry_bytes marks (Misses time count) = 1 ∷ (to_le_bytes w64 time ++ to_le_bytes w64 count)
entry_bytes marks (Unknown tag) = tag ∷ []

abbrev pub part_time : EntryPart → ℕ
part_time (Occurs e) = e.time
part_time (Misses time count) = time
part_time (Unknown tag) = 0

-- before its time is looked at: whether it is an entry
abbrev pub tag_fault : ℕ → ℕ → EntryPart → Option RecordingError
tag_fault cpu place (Unknown tag) = Some (fault.BadEntry cpu place)
tag_fault cpu place part = None

-- behind its time: an event's payload, and how many a mark tells
abbrev pub part_fault : List Format → ℕ → ℕ → EntryPart → Option RecordingError
part_fault formats cpu place (Occurs e) = payload_fault formats cpu place e
part_fault formats cpu place (Misses time count) = if nat_eq count 0 then Some (fault.EmptyMark cpu place) else None
part_fault formats cpu place (Unknown tag) = None

-- an event, or where there may be marks one of some lost events
abbrev pub IsEntry : Bool → List Format → Entry → Type 0
IsEntry marks formats (entry.Event e) = IsEvent formats e
IsEntry true formats (entry.Lost time count) = (time < 2 ^ 64) × (count < 2 ^ 64) × (nat_eq count 0 ≡ false)
IsEntry false formats (entry.Lost time count) = ⊥

-- the entries of recordings that may have marks, and of those that may not
abbrev pub entries : Bool → EntryKind Entry EntryPart
entries marks = record {
  part_of = part_of_entry;
  IsWhole = IsEntryPart marks;
  spelling = entry_bytes marks;
  time = part_time;
  first_fault = tag_fault;
  own_fault = part_fault;
  IsFine = IsEntry marks;
}
