-- Recordings: the one spelling of each, and which are valid.
use Rattle.std.specs.Prelude.{◌≡◌, ◌⊎◌, ◌+◌, ◌≤◌, ◌<◌, ◌^◌, ℕ, ⊤, Bool, true, false, sum_by, List, [], ◌∷◌, ◌++◌, length}
use Rattle.std.specs.List.{flat_map, AllByRecursion}
use Rattle.bt_core.specs.declared.limits.TheConstants.{CPUS, FORMATS, EVENTS}
use Rattle.event_layout.specs.declared.format.Format.{Format}
use Rattle.event_layout.specs.Layouts.{IsLayoutOf}
use Rattle.recordings.specs.declared.recording.Recording.{Recording}
use Rattle.recordings.specs.declared.recording.CpuTrack.{CpuTrack}
use Rattle.recordings.specs.Parts.{HeaderPart, header_bytes, FormatPart, format_bytes, CpuPart, cpu_bytes}
use Rattle.recordings.specs.Checks.{magic_of, has_marks, is_system, is_same_event}
use Rattle.recordings.specs.Entries.{entries_bytes, AreEntries}
use Rattle.recordings.specs.EntryParts.{entries}
pub use Rattle.recordings.specs.Events.{IsEvent}

-- ---- the parts that a recording is spelled with

abbrev pub header_of : Recording → HeaderPart
header_of r = record { magic = magic_of r.version; cpus = length r.cpus; formats = length r.formats; start = r.start; end = r.end }

abbrev pub part_of_format : Format → FormatPart
part_of_format f = record { system = f.system; text = f.text }

abbrev pub head_of_track : CpuTrack → CpuPart
head_of_track c = record { number = c.number; entries = length c.entries }

-- ---- the spelling: the header, each format, and each CPU with its entries, which are spelled by whether there may be marks

abbrev pub formats_bytes : List Format → List ℕ
formats_bytes formats = flat_map (λ f. format_bytes (part_of_format f)) formats

abbrev pub track_bytes : Bool → CpuTrack → List ℕ
track_bytes marks c = cpu_bytes (head_of_track c) ++ entries_bytes (entries marks) c.entries

abbrev pub tracks_bytes : Bool → List CpuTrack → List ℕ
tracks_bytes marks cpus = flat_map (track_bytes marks) cpus

abbrev pub recording_bytes : Recording → List ℕ
recording_bytes r = header_bytes (header_of r) ++ (formats_bytes r.formats ++ tracks_bytes (has_marks r.version) r.cpus)

-- ---- which recordings are valid

-- the system's name is one, and the layout is the text's
pub record IsFormat (f : Format) : Type 0 where
  pub system : is_system f.system ≡ true
  pub short : length f.text < 2 ^ 32
  pub layout : IsLayoutOf f.text f.layout

-- no two have one ID, or one system and name
abbrev pub AreApart : List Format → Type 0
AreApart [] = ⊤
AreApart (f ∷ fs) = AllByRecursion (λ g. is_same_event g f ≡ false) fs × AreApart fs

pub record AreFormats (formats : List Format) : Type 0 where
  pub each : AllByRecursion IsFormat formats
  pub apart : AreApart formats

pub record IsTrack (marks : Bool) (formats : List Format) (start end : ℕ) (c : CpuTrack) : Type 0 where
  pub number : c.number < 2 ^ 32
  pub entries : AreEntries (entries marks) formats start end c.entries

-- each CPU has a greater number than the one before it, and the first has at least this one
abbrev pub AreNumbered : ℕ → List CpuTrack → Type 0
AreNumbered least [] = ⊤
AreNumbered least (c ∷ cs) = (least ≤ c.number) × AreNumbered (c.number + 1) cs

-- the entries of these CPUs
abbrev pub total_entries : List CpuTrack → ℕ
total_entries cpus = sum_by (λ c. length c.entries) cpus

pub record AreTracks (marks : Bool) (formats : List Format) (start end : ℕ) (cpus : List CpuTrack) : Type 0 where
  pub each : AllByRecursion (IsTrack marks formats start end) cpus
  pub numbered : AreNumbered 0 cpus
  pub few : total_entries cpus ≤ EVENTS

pub record IsValidRecording (r : Recording) : Type 0 where
  pub version : (r.version ≡ 1) ⊎ (r.version ≡ 2)
  pub start : r.start < 2 ^ 64
  pub end : r.end < 2 ^ 64
  pub span : r.start ≤ r.end
  pub some_cpus : 1 ≤ length r.cpus
  pub few_cpus : length r.cpus ≤ CPUS
  pub few_formats : length r.formats ≤ FORMATS
  pub formats : AreFormats r.formats
  pub cpus : AreTracks (has_marks r.version) r.formats r.start r.end r.cpus
