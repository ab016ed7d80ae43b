-- The parts of a recording, one after the other: what each holds, and how it is spelled. Numbers are spelled with the lowest
-- byte first.
use Rattle.std.specs.Prelude.{◌≡◌, ◌<◌, ◌^◌, ℕ, List, ◌++◌, length}
use Rattle.std.specs.Int.{Width, w16, w32, w64, to_le_bytes}

-- bytes behind their length, which is a number of this width
abbrev pub sized_bytes : Width → List ℕ → List ℕ
sized_bytes w piece = to_le_bytes w (length piece) ++ piece

-- ---- the header: the magic, how many CPUs and formats there are, and when the recording starts and ends

pub record HeaderPart : Type 0 where
  pub magic : List ℕ
  pub cpus : ℕ
  pub formats : ℕ
  pub start : ℕ
  pub end : ℕ

-- its numbers fit their bytes
pub record IsHeaderPart (h : HeaderPart) : Type 0 where
  pub magic : length h.magic ≡ 8
  pub cpus : h.cpus < 2 ^ 32
  pub formats : h.formats < 2 ^ 32
  pub start : h.start < 2 ^ 64
  pub end : h.end < 2 ^ 64

abbrev pub header_bytes : HeaderPart → List ℕ
header_bytes h = h.magic ++ (to_le_bytes w32 h.cpus ++ (to_le_bytes w32 h.formats ++ (to_le_bytes w64 h.start ++ to_le_bytes w64 h.end)))

-- ---- a format: its system behind a length of 16 bits, and its text behind a length of 32 bits

pub record FormatPart : Type 0 where
  pub system : List ℕ
  pub text : List ℕ

pub record IsFormatPart (f : FormatPart) : Type 0 where
  pub system : length f.system < 2 ^ 16
  pub text : length f.text < 2 ^ 32

abbrev pub format_bytes : FormatPart → List ℕ
format_bytes f = sized_bytes w16 f.system ++ sized_bytes w32 f.text

-- ---- the head of a CPU: its number, and how many entries follow

pub record CpuPart : Type 0 where
  pub number : ℕ
  pub entries : ℕ

pub record IsCpuPart (c : CpuPart) : Type 0 where
  pub number : c.number < 2 ^ 32
  pub entries : c.entries < 2 ^ 32

abbrev pub cpu_bytes : CpuPart → List ℕ
cpu_bytes c = to_le_bytes w32 c.number ++ to_le_bytes w32 c.entries

-- ---- an event: time, pid, tid, uid and gid, 16 bytes of comm, and its payload behind a length of 32 bits

pub record EventPart : Type 0 where
  pub time : ℕ
  pub pid : ℕ
  pub tid : ℕ
  pub uid : ℕ
  pub gid : ℕ
  pub comm : List ℕ
  pub payload : List ℕ

pub record IsEventPart (e : EventPart) : Type 0 where
  pub time : e.time < 2 ^ 64
  pub pid : e.pid < 2 ^ 32
  pub tid : e.tid < 2 ^ 32
  pub uid : e.uid < 2 ^ 32
  pub gid : e.gid < 2 ^ 32
  pub comm : length e.comm ≡ 16
  pub payload : length e.payload < 2 ^ 32

abbrev pub event_bytes : EventPart → List ℕ
event_bytes e =
    to_le_bytes w64 e.time
    ++ (to_le_bytes w32 e.pid ++ (to_le_bytes w32 e.tid ++ (to_le_bytes w32 e.uid ++ (to_le_bytes w32 e.gid
    ++ (e.comm ++ sized_bytes w32 e.payload)))))
