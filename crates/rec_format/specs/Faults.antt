-- The first fault of bytes that are no recording: the parts before it stand there and pass their checks.
use Rattle.std.specs.Prelude.{◌≡◌, ◌≢◌, ◌⊎◌, ◌+◌, ◌<◌, ℕ, Bool, List, [], ◌∷◌, ◌++◌, length, Some, None}
use Rattle.event_layout.specs.declared.format.Format.{Format}
use Rattle.recordings.specs.declared.error.RecordingError.{RecordingError}
use Rattle.recordings.specs.declared.error.RecordingError.TheVariants as fault
use Rattle.recordings.specs.declared.recording.Recording.{Recording}
use Rattle.recordings.specs.declared.recording.CpuTrack.{CpuTrack}
use Rattle.recordings.specs.Parts.{HeaderPart, IsHeaderPart, header_bytes, IsFormatPart, format_bytes, CpuPart, IsCpuPart, cpu_bytes}
use Rattle.recordings.specs.Stops.{IsCutShort, IsRefused}
use Rattle.recordings.specs.Checks.{version_of, has_marks, header_fault, IsFormatFault, cpu_fault}
use Rattle.recordings.specs.Entries.{EntryFails}
use Rattle.recordings.specs.EntryParts.{entries}
use Rattle.recordings.specs.Recordings.{formats_bytes, tracks_bytes, recording_bytes, total_entries, AreFormats, AreTracks, IsValidRecording}

-- ---- the header

abbrev pub HeaderFails : List ℕ → RecordingError → Type 0
HeaderFails bytes e =
    IsCutShort IsHeaderPart header_bytes (length bytes) bytes e
    ⊎ IsRefused IsHeaderPart header_bytes (λ h e. header_fault h ≡ Some e) bytes e

-- a header that passes stands there, and then the rest
pub record HasHeader (bytes : List ℕ) (header : HeaderPart) (rest : List ℕ) : Type 0 where
  pub spelled : bytes ≡ header_bytes header ++ rest
  pub is_whole : IsHeaderPart header
  pub passes : header_fault header ≡ None

-- ---- the formats

-- fewer formats than there should be stand there and pass, and the next one fails
pub record FormatFails (whole count : ℕ) (bytes : List ℕ) (e : RecordingError) : Type 0 where
  pub formats : List Format
  pub rest : List ℕ
  pub spelled : bytes ≡ formats_bytes formats ++ rest
  pub pass : AreFormats formats
  pub due : length formats < count
  pub fails : IsCutShort IsFormatPart format_bytes whole rest e ⊎ IsRefused IsFormatPart format_bytes (IsFormatFault formats) rest e

-- so many formats that pass stand there, and then the rest
pub record HasFormats (count : ℕ) (bytes : List ℕ) (formats : List Format) (rest : List ℕ) : Type 0 where
  pub spelled : bytes ≡ formats_bytes formats ++ rest
  pub pass : AreFormats formats
  pub counted : length formats ≡ count

-- ---- the CPUs

-- the least number that a CPU may have behind these, where the first of them may have this one
abbrev pub least_after : ℕ → List CpuTrack → ℕ
least_after least [] = least
least_after least (c ∷ cs) = least_after (c.number + 1) cs

-- the head of a CPU behind these has this fault
abbrev pub HeadHasFault : List CpuTrack → CpuPart → RecordingError → Type 0
HeadHasFault cpus head e = cpu_fault (length cpus) (least_after 0 cpus) (total_entries cpus) head ≡ Some e

-- the head of a CPU passes, behind so many others, and one of its entries fails
pub record TrackFails (marks : Bool) (whole : ℕ) (formats : List Format) (start end : ℕ) (cpus : List CpuTrack)
    (bytes : List ℕ) (e : RecordingError) : Type 0 where
  pub head : CpuPart
  pub rest : List ℕ
  pub spelled : bytes ≡ cpu_bytes head ++ rest
  pub is_whole : IsCpuPart head
  pub passes : cpu_fault (length cpus) (least_after 0 cpus) (total_entries cpus) head ≡ None
  pub fails : EntryFails (entries marks) whole formats start end (length cpus) head.entries rest e

-- fewer CPUs than there should be stand there and pass, and the next one fails, at its head or at an entry
pub record CpuFails (marks : Bool) (whole : ℕ) (formats : List Format) (start end count : ℕ) (bytes : List ℕ) (e : RecordingError) : Type 0 where
  pub cpus : List CpuTrack
  pub rest : List ℕ
  pub spelled : bytes ≡ tracks_bytes marks cpus ++ rest
  pub pass : AreTracks marks formats start end cpus
  pub due : length cpus < count
  pub fails : IsCutShort IsCpuPart cpu_bytes whole rest e
      ⊎ (IsRefused IsCpuPart cpu_bytes (HeadHasFault cpus) rest e ⊎ TrackFails marks whole formats start end cpus rest e)

pub record HasTracks (marks : Bool) (formats : List Format) (start end count : ℕ) (bytes : List ℕ) (cpus : List CpuTrack) (rest : List ℕ) : Type 0 where
  pub spelled : bytes ≡ tracks_bytes marks cpus ++ rest
  pub pass : AreTracks marks formats start end cpus
  pub counted : length cpus ≡ count

-- ---- the whole

-- behind the header a format fails
pub record FailsInFormats (bytes : List ℕ) (e : RecordingError) : Type 0 where
  pub header : HeaderPart
  pub rest : List ℕ
  pub has_header : HasHeader bytes header rest
  pub fails : FormatFails (length bytes) header.formats rest e

-- behind the header and the formats a CPU fails
pub record FailsInCpus (bytes : List ℕ) (e : RecordingError) : Type 0 where
  pub header : HeaderPart
  pub formats : List Format
  pub after_header : List ℕ
  pub rest : List ℕ
  pub has_header : HasHeader bytes header after_header
  pub has_formats : HasFormats header.formats after_header formats rest
  pub fails : CpuFails (has_marks (version_of header.magic)) (length bytes) formats header.start header.end header.cpus rest e

-- a whole recording stands there, and bytes are left over
pub record HasBytesLeft (bytes : List ℕ) (e : RecordingError) : Type 0 where
  pub recording : Recording
  pub rest : List ℕ
  pub spelled : bytes ≡ recording_bytes recording ++ rest
  pub valid : IsValidRecording recording
  pub left : rest ≢ []
  pub told : e ≡ fault.TrailingBytes (length (recording_bytes recording))

-- the first fault of these bytes
abbrev pub IsRecordingFault : List ℕ → RecordingError → Type 0
IsRecordingFault bytes e = HeaderFails bytes e ⊎ (FailsInFormats bytes e ⊎ (FailsInCpus bytes e ⊎ HasBytesLeft bytes e))
