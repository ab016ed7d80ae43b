-- Entries where they lie in the bytes of a file.
use Rattle.std.specs.Prelude.{ℕ, Bool, true, false, List, map, drop, Option, Some, None}
use Rattle.recordings.specs.declared.entries.EntryPlace.{EntryPlace}
use Rattle.recordings.specs.declared.entries.EntryPlace.TheVariants as place
use Rattle.recordings.specs.declared.entries.EntryRef.{EntryRef}
use Rattle.recordings.specs.declared.entries.EntryRef.TheVariants as seen
use Rattle.recordings.specs.declared.entries.EventRef.{EventRef}
use Rattle.recordings.specs.declared.recording.Entry.{Entry}
use Rattle.recordings.specs.declared.recording.Event.{Event}
use Rattle.recordings.specs.declared.recording.Entry.TheVariants as entry
use Rattle.recordings.specs.Parts.{EventPart}
use Rattle.recordings.specs.EntryParts.{EntryPart, Occurs, Misses, Unknown}
use Rattle.recordings.specs.Fronts.{event_at, mark_at}
use Rattle.recordings.specs.Events.{event_of}

-- the bytes before an event or a mark that tell its kind
abbrev pub first_bytes : Bool → ℕ
first_bytes true = 1
first_bytes false = 0

-- the place of an entry that lies from a byte on
abbrev pub entry_place : ℕ → EntryPart → ℕ → EntryPlace
entry_place at (Occurs e) format = place.Event at format
entry_place at part format = place.Lost at

-- the event that was taken from the front of bytes, and a mark of nothing where none was
abbrev pub event_taken : ℕ → Option (EventPart × List ℕ) → Entry
event_taken format None = entry.Lost 0 0
event_taken format (Some taken) = entry.Event (event_of taken.0 format)

abbrev pub mark_of : EntryPart → Entry
mark_of (Occurs e) = entry.Lost 0 0
mark_of (Misses time count) = entry.Lost time count
mark_of (Unknown tag) = entry.Lost 0 0

abbrev pub mark_taken : Option (EntryPart × List ℕ) → Entry
mark_taken None = entry.Lost 0 0
mark_taken (Some taken) = mark_of taken.0

-- the entry that lies at a place of a file
abbrev pub entry_in : List ℕ → EntryPlace → Entry
entry_in file (place.Event at format) = event_taken format (event_at (drop at file))
entry_in file (place.Lost at) = mark_taken (mark_at (drop at file))

abbrev pub entries_in : List ℕ → List EntryPlace → List Entry
entries_in file places = map (entry_in file) places

-- the event, and the entry, that is seen where it lies
abbrev pub event_seen : EventRef → Event
event_seen e = record { time = e.time; pid = e.pid; tid = e.tid; uid = e.uid; gid = e.gid; comm = e.comm; format = e.format; payload = e.payload.now }

abbrev pub entry_seen : EntryRef → Entry
entry_seen (seen.Event e) = entry.Event (event_seen e)
entry_seen (seen.Lost time count) = entry.Lost time count
