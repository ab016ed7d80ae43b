-- What the functions inside the reader answer, and what the writer needs. No public contract cites these definitions.
use Rattle.std.specs.Prelude.{◌≡◌, ◌≢◌, ◌<◌, ◌^◌, ◌++◌, ◌∷◌, ℕ, Bool, List, [], Some, Result, Ok, Err, IsTrue, true, false, length}
use Rattle.std.specs.List.{list_any, AllByRecursion}
use Rattle.std.specs.Ordering.{nat_cmp}
use Rattle.std.specs.Option.{option_map}
use Rattle.std.specs.Int.{w16, from_le_bytes}
use Rattle.std.specs.Str.{bytes_eq}
use Rattle.std.specs.Cmp.Lexicographic.{slice_cmp}
use Rattle.std.specs.BTreeSet.{BTreeSet, contains}
use Rattle.std.specs.BTreeMap.{BTreeMap, get}
use Rattle.event_layout.specs.declared.format.Format.{Format}
use Rattle.event_layout.specs.declared.layout.Layout.{Layout}
use Rattle.event_layout.specs.ByName.{full_name}
use Rattle.event_layout.specs.Layouts.{IsLayoutOf}
use Rattle.event_layout.specs.Names.{has_no_colon}
use Rattle.recordings.specs.declared.error.RecordingError.{RecordingError}
use Rattle.recordings.specs.declared.error.RecordingError.TheVariants as fault
use Rattle.recordings.specs.declared.recording.CpuTrack.{CpuTrack}
use Rattle.recordings.specs.declared.recording.Recording.{Recording}
use Rattle.recordings.specs.Recordings.{recording_bytes, IsValidRecording}
use Rattle.recordings.specs.EntryParts.{EntryPart, Occurs, part_of_entry, IsEntryPart}
use Rattle.recordings.specs.Parts.{FormatPart}
use Rattle.recordings.specs.Checks.{is_system, is_same_event, format_of}
use Rattle.recordings.specs.Events.{format_with}

-- a value of which the one holds, or a fault of which the other holds; and at any time want of memory
abbrev pub Answers : {T : Type 0} → Result T RecordingError → (T → Type 0) → (RecordingError → Type 0) → Type 0
Answers (Ok x) P Q = P x
Answers (Err e) P Q = e ≢ fault.Memory → Q e

-- the tables find each format by its ID, and each tracepoint by its name
pub record IsTable (formats : List Format) (places : BTreeMap ℕ ℕ) (names : BTreeSet (List ℕ)) : Type 0 where
  pub by_id : (id : ℕ) → get nat_cmp places id ≡ option_map (λ found. found.0) (format_with id formats)
  pub by_name : (name : List ℕ) → contains (slice_cmp nat_cmp) names name ≡ list_any (λ f. bytes_eq (full_name f) name) formats
  pub systems : AllByRecursion (λ f. IsTrue (has_no_colon f.system)) formats

-- the format of a part that passes its own checks
pub record IsFormatOf (part : FormatPart) (format : Format) : Type 0 where
  pub layout : Layout
  pub made : format ≡ format_of part layout
  pub system : is_system part.system ≡ true
  pub read : IsLayoutOf part.text layout

-- these formats, and behind them the one of this part
pub record AddsFormat (earlier : List Format) (part : FormatPart) (later : List Format) : Type 0 where
  pub layout : Layout
  pub added : later ≡ earlier ++ format_of part layout ∷ []
  pub system : is_system part.system ≡ true
  pub read : IsLayoutOf part.text layout
  pub apart : list_any (is_same_event (format_of part layout)) earlier ≡ false

-- the format whose ID the payload begins with has this place
abbrev pub IsPlaced : List Format → List ℕ → ℕ → Type 0
IsPlaced formats payload place = option_map (λ found. found.0) (format_with (from_le_bytes w16 payload) formats) ≡ Some place

-- where a part is an event, its format has this place
abbrev pub IsPartPlaced : List Format → EntryPart → ℕ → Type 0
IsPartPlaced formats (Occurs e) place = IsPlaced formats e.payload place
IsPartPlaced formats part place = Unit {0}

-- the recording is valid, and the bytes are its spelling
pub record IsSpelled (bytes : List ℕ) (r : Recording) : Type 0 where
  pub valid : IsValidRecording r
  pub spelled : bytes ≡ recording_bytes r

-- what a format has to be so that it can be written: its lengths fit their bytes
pub record CanWriteFormat (f : Format) : Type 0 where
  pub system : length f.system < 2 ^ 16
  pub text : length f.text < 2 ^ 32

pub record CanWriteTrack (marks : Bool) (c : CpuTrack) : Type 0 where
  pub counted : length c.entries < 2 ^ 32
  pub entries : AllByRecursion (λ e. IsEntryPart marks (part_of_entry e)) c.entries
