-- A recording that was read in parts. No public contract cites these definitions.
use Rattle.std.specs.Prelude.{◌≡◌, ◌≤◌, ℕ, Bool, List, [], Option, Some, None, Vec, map}
use Rattle.std.specs.Arc.{arc_value}
use Rattle.std.specs.declared.alloc.Global.{Global}
use Rattle.std.specs.declared.sync.Arc.{Arc}
use Rattle.bt_core.specs.declared.limits.TheConstants.{EVENTS}
use Rattle.event_layout.specs.declared.format.Format.{Format}
use Rattle.recordings.specs.declared.recording.CpuTrack.{CpuTrack}
use Rattle.recordings.specs.declared.recording.Recording.{Recording}
use Rattle.recordings.specs.Checks.{has_marks, version_of}
use Rattle.recordings.specs.Parts.{HeaderPart}
use Rattle.recordings.specs.Places.{AreBytes}
use Rattle.recordings.specs.Recordings.{track_bytes, AreNumbered, IsTrack, total_entries}
use Rattle.rec_format.specs.declared.parted.Front.{Front}
use Rattle.rec_format.specs.Answers.{IsSpelled}
use Rattle.rec_format.specs.Faults.{HasFormats, HasHeader, HasTracks}

-- the bytes of parts that are shared
abbrev pub shared_bytes : List (Arc (Vec ℕ Global) Global) → List (List ℕ)
shared_bytes parts = map (λ (part : Arc (Vec ℕ Global) Global). (arc_value part).items) parts

-- the header and the formats that pass are all that the bytes have
pub record IsFront (bytes : List ℕ) (front : Front) : Type 0 where
  pub header : HeaderPart
  pub rest : List ℕ
  pub has_header : HasHeader bytes header rest
  pub has_formats : HasFormats header.formats rest front.formats []
  pub version : front.version ≡ version_of header.magic
  pub cpus : front.cpus ≡ header.cpus
  pub start : front.start ≡ header.start
  pub end : front.end ≡ header.end
  pub held : AreBytes bytes

-- a CPU whose entries pass is all that the bytes have
pub record IsTrackPart (front : Front) (bytes : List ℕ) (track : CpuTrack) : Type 0 where
  pub spelled : bytes ≡ track_bytes (has_marks front.version) track
  pub is : IsTrack (has_marks front.version) front.formats front.start front.end track
  pub held : AreBytes bytes

-- each was read, and these are they; their numbers rise, and they have no more entries than a recording may have
pub record AreGathered (read : List (Option CpuTrack)) (cpus : List CpuTrack) : Type 0 where
  pub each : read ≡ map Some cpus
  pub numbered : AreNumbered 0 cpus
  pub few : total_entries cpus ≤ EVENTS

-- the bytes are so many CPUs that pass, and nothing behind them
pub record HasPartedTracks (front : Front) (count : ℕ) (bytes : List ℕ) (cpus : List CpuTrack) : Type 0 where
  pub has : HasTracks (has_marks front.version) front.formats front.start front.end count bytes cpus []
  pub held : AreBytes bytes

-- the bytes are bytes, and the spelling of the recording, which is valid
pub record IsParted (bytes : List ℕ) (recording : Recording) : Type 0 where
  pub spelled : IsSpelled bytes recording
  pub held : AreBytes bytes
