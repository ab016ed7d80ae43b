-- Events of a CPU: their parts, which are valid, and what is wrong with a payload.
use Rattle.std.specs.Prelude.{◌≡◌, ◌≤◌, ℕ, suc, ◌==◌, nat_lt, List, []}
use Rattle.std.specs.Prelude.{◌∷◌, length, take, slice_get, Option, Some, None, if◌then◌else◌}
use Rattle.std.specs.Int.{w16, to_le_bytes, from_le_bytes}
use Rattle.std.specs.Option.{option_map}
use Rattle.event_layout.specs.declared.format.Format.{Format}
use Rattle.recordings.specs.declared.error.RecordingError.{RecordingError}
use Rattle.recordings.specs.declared.error.RecordingError.TheVariants as fault
use Rattle.recordings.specs.declared.recording.Event.{Event}
use Rattle.recordings.specs.Parts.{EventPart, IsEventPart}

abbrev pub part_of_event : Event → EventPart
part_of_event e = record { time = e.time; pid = e.pid; tid = e.tid; uid = e.uid; gid = e.gid; comm = e.comm; payload = e.payload }

-- an event of this part, whose format has this place
abbrev pub event_of : EventPart → ℕ → Event
event_of e format = record { time = e.time; pid = e.pid; tid = e.tid; uid = e.uid; gid = e.gid; comm = e.comm; format = format; payload = e.payload }

-- its numbers fit, and the payload begins with the ID of the event's format and has the bytes of its layout
pub record IsEvent (formats : List Format) (e : Event) : Type 0 where
  pub whole : IsEventPart (part_of_event e)
  pub format : Format
  pub placed : slice_get formats e.format ≡ Some format
  pub begins : take 2 e.payload ≡ to_le_bytes w16 format.layout.id
  pub long : format.layout.size ≤ length e.payload

-- the first format of this ID, with its place
abbrev pub format_with : ℕ → List Format → Option (ℕ × Format)
format_with id [] = None
format_with id (f ∷ fs) = if f.layout.id == id then Some (0, f) else option_map (λ found. (suc found.0, found.1)) (format_with id fs)

-- what is wrong with a payload of so many bytes, whose ID this format has
abbrev pub length_fault : ℕ → ℕ → ℕ → Option (ℕ × Format) → Option RecordingError
length_fault cpu place len None = Some (fault.UnknownId cpu place)
length_fault cpu place len (Some found) = if nat_lt len found.1.layout.size then Some (fault.ShortPayload cpu place) else None

-- what is wrong with a payload: first its length, then its ID, then its length again
abbrev pub payload_fault : List Format → ℕ → ℕ → EventPart → Option RecordingError
payload_fault formats cpu place e =
    if nat_lt (length e.payload) 2 then Some (fault.ShortPayload cpu place)
    else length_fault cpu place (length e.payload) (format_with (from_le_bytes w16 e.payload) formats)
