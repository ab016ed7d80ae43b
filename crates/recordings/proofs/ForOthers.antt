-- Lemmas for the crates above: what a valid recording has at each place. The crate's own proofs stand in the other files.
use Rattle.std.proofs.Common.{◌≡◌, ℕ, ◌<◌, ◌≤◌, Some, inl, inr}
use Rattle.event_layout.specs.declared.format.Format.{Format}
use Rattle.event_layout.specs.ByName.{IsNamed}
use Rattle.std.specs.Prelude.{slice_get}
use Rattle.recordings.specs.declared.recording.Recording.{Recording}
use Rattle.recordings.specs.declared.recording.CpuTrack.{CpuTrack}
use Rattle.recordings.specs.declared.recording.Entry.{Entry}
use Rattle.recordings.specs.declared.recording.Entry.TheVariants as entry
use Rattle.recordings.specs.declared.recording.Event.{Event}
use Rattle.recordings.specs.Places.{entry_at_place, entry_time, HasFormat}
use Rattle.recordings.specs.Recordings.{IsValidRecording}
use Rattle.recordings.proofs.PlaceLaws as places

pub recorded_format : (r : Recording) (cpu place : ℕ) (e : Event) → IsValidRecording r → entry_at_place r cpu place ≡ Some (entry.Event e) → HasFormat r.formats e
recorded_format = places.event_has_format

pub recorded_format_of_id : (r : Recording) (i j : ℕ) (f g : Format) → IsValidRecording r → slice_get r.formats i ≡ Some f → slice_get r.formats j ≡ Some g → f.layout.id ≡ g.layout.id → i ≡ j
recorded_format_of_id r i j f g valid first second same = places.one_format r.formats i j f g valid.formats.apart first second (inl same)

pub recorded_format_of_name : (r : Recording) (i j : ℕ) (f g : Format) → IsValidRecording r → slice_get r.formats i ≡ Some f → slice_get r.formats j ≡ Some g → IsNamed f g.system g.layout.name → i ≡ j
recorded_format_of_name r i j f g valid first second named = places.one_format r.formats i j f g valid.formats.apart first second (inr named)

pub recorded_within : (r : Recording) (cpu place : ℕ) (e : Entry) → IsValidRecording r → entry_at_place r cpu place ≡ Some e → (r.start ≤ entry_time e) × (entry_time e ≤ r.end)
recorded_within = places.entry_within

pub recorded_in_order : (r : Recording) (cpu i j : ℕ) (d e : Entry) → IsValidRecording r → entry_at_place r cpu i ≡ Some d → entry_at_place r cpu j ≡ Some e → i ≤ j → entry_time d ≤ entry_time e
recorded_in_order = places.entries_in_order

pub recorded_numbers_rise : (r : Recording) (i j : ℕ) (c d : CpuTrack) → IsValidRecording r → slice_get r.cpus i ≡ Some c → slice_get r.cpus j ≡ Some d → i < j → c.number < d.number
recorded_numbers_rise r i j c d valid first second order = places.numbers_rise 0 r.cpus i j c d valid.cpus.numbered first second order
