-- What the payload of an event begins with.
use Rattle.std.proofs.Common.{◌≡◌, ℕ, ◌≤◌, List, ◌++◌, length, drop, ap, sym, ◌∙◌, arith}
use Rattle.std.specs.Int.{w16, to_le_bytes, from_le_bytes}
use Rattle.std.proofs.lemmas.List.{length-take, take-append-drop}
use Rattle.byteorder.specs.Endian.{little_number}
use Rattle.byteorder.specs.Numbers.{length-bytes_low_first, little_number-reads_back}
use Rattle.event_layout.specs.declared.format.Format.{Format}
use Rattle.event_layout.proofs.Lists.{all_at}
use Rattle.recordings.specs.declared.recording.Event.{Event}
use Rattle.recordings.specs.Events.{IsEvent}
use Rattle.recordings.specs.Recordings.{IsFormat, AreFormats}
use Rattle.recordings.proofs.Fields.{wide16}

-- the ID that an event's payload begins with
pub event_id : (formats : List Format) (e : Event) → AreFormats formats → (is : IsEvent formats e) → from_le_bytes w16 e.payload ≡ is.format.layout.id
event_id formats e pass is =
    let f : IsFormat is.format = all_at IsFormat formats e.format is.format pass.each is.placed in
    let payload : e.payload ≡ to_le_bytes w16 is.format.layout.id ++ drop 2 e.payload = sym (take-append-drop 2 e.payload) ∙ ap (λ (l : List ℕ). l ++ drop 2 e.payload) is.begins in
    wide16.read e.payload ∙ ap (λ (l : List ℕ). little_number 2 l) payload ∙ little_number-reads_back 2 is.format.layout.id (drop 2 e.payload) (omega (arith, f.layout.id.within))

pub two_bytes : (formats : List Format) (e : Event) → (is : IsEvent formats e) → 2 ≤ length e.payload
two_bytes formats e is = omega (arith, ap length is.begins, length-take 2 e.payload, length-bytes_low_first 0 2 is.format.layout.id)
