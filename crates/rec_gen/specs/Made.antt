-- The recording that a seed and a count of events make.
use Rattle.std.specs.Prelude.{◌≡◌, ℕ, zero, suc, ◌+◌, ◌*◌, ◌%◌, ◌==◌, List, [], ◌∷◌, ◌++◌, map, codes, replicate, if◌then◌else◌}
use Rattle.std.specs.Int.{w16, w32, w64, to_le_bytes}
use Rattle.event_layout.specs.declared.format.Format.{Format}
use Rattle.event_layout.specs.Layouts.{IsLayoutOf}
use Rattle.recordings.specs.declared.recording.Recording.{Recording}
use Rattle.recordings.specs.declared.recording.CpuTrack.{CpuTrack}
use Rattle.recordings.specs.declared.recording.Entry.TheVariants as entry
use Rattle.recordings.specs.declared.recording.Event.{Event}
use Rattle.rec_gen.specs.declared.format.TheConstants.{TEXT}
use Rattle.rec_gen.specs.Draws.{drawn_at}

-- the thread's name, of 16 bytes, for a number below 4
abbrev pub name_of : ℕ → List ℕ
name_of zero = codes "bash" ++ replicate 12 0
name_of (suc zero) = codes "sshd" ++ replicate 12 0
name_of (suc (suc zero)) = codes "cron" ++ replicate 12 0
name_of (suc (suc (suc n))) = codes "make" ++ replicate 12 0

-- 64 bytes: the format's ID, the thread, the number of the call, and zeros
abbrev pub payload_of : ℕ → ℕ → List ℕ
payload_of thread id = to_le_bytes w16 21 ++ (0 ∷ (0 ∷ (to_le_bytes w32 thread ++ (to_le_bytes w64 id ++ replicate 48 0))))

-- what is drawn for the event at a place: its name, its thread, and the number of its call
abbrev pub thread_at : ℕ → ℕ → ℕ
thread_at seed place = 1000 + drawn_at seed (3 * place + 1) % 8

-- the event at a place, of one every microsecond
abbrev pub made_event : ℕ → ℕ → Event
made_event seed place = record {
  time = 1000 * (place + 1);
  pid = thread_at seed place;
  tid = thread_at seed place;
  uid = 0;
  gid = 0;
  comm = name_of (drawn_at seed (3 * place) % 4);
  format = 0;
  payload = payload_of (thread_at seed place) (drawn_at seed (3 * place + 2) % 400);
}

-- of the events below a count those on a CPU, where the four CPUs take them in turn
abbrev pub events_on : ℕ → ℕ → ℕ → List Event
events_on seed cpu zero = []
events_on seed cpu (suc n) = events_on seed cpu n ++ (if n % 4 == cpu then made_event seed n ∷ [] else [])

abbrev pub made_track : ℕ → ℕ → ℕ → CpuTrack
made_track seed count cpu = record { number = cpu; entries = map (λ e. entry.Event e) (events_on seed cpu count) }

-- the tracks of the CPUs below a number
abbrev pub made_tracks : ℕ → ℕ → ℕ → List CpuTrack
made_tracks seed count zero = []
made_tracks seed count (suc cpu) = made_tracks seed count cpu ++ made_track seed count cpu ∷ []

-- the recording of a seed and a count
pub record IsMade (seed count : ℕ) (r : Recording) : Type 0 where
  pub format : Format
  pub formats : r.formats ≡ format ∷ []
  pub system : format.system ≡ codes "raw_syscalls"
  pub text : format.text ≡ TEXT
  pub layout : IsLayoutOf TEXT format.layout
  pub version : r.version ≡ 1
  pub start : r.start ≡ 0
  pub end : r.end ≡ 2000000000
  pub cpus : r.cpus ≡ made_tracks seed count 4
