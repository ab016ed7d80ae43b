-- What bodies see of the event, tick or moment that they run at.
use Rattle.std.specs.Prelude.{ℕ, [], length}
use Rattle.bt_ast.specs.declared.attached.Tick.{Tick}
use Rattle.bt_core.specs.declared.context.Context.{Context}
use Rattle.bt_core.specs.Text.{short_text}
use Rattle.recordings.specs.declared.recording.CpuTrack.{CpuTrack}
use Rattle.recordings.specs.declared.recording.Event.{Event}
use Rattle.recordings.specs.declared.recording.Recording.{Recording}

-- at an event of a CPU: the event's values, and the CPU's number
abbrev pub event_context : Recording → CpuTrack → Event → Context
event_context r track e = record {
  time = e.time;
  start = r.start;
  pid = e.pid;
  tid = e.tid;
  uid = e.uid;
  gid = e.gid;
  cpu = track.number;
  comm = short_text e.comm;
  payload_len = length e.payload;
}

-- at a time on a CPU, where there is no event: 0 or the empty string for the rest
abbrev pub moment_context : Recording → ℕ → ℕ → Context
moment_context r number time = record {
  time = time;
  start = r.start;
  pid = 0;
  tid = 0;
  uid = 0;
  gid = 0;
  cpu = number;
  comm = [];
  payload_len = 0;
}

-- at a tick that a CPU runs: the tick's time, and the CPU's number
abbrev pub tick_context : Recording → CpuTrack → Tick → Context
tick_context r track t = moment_context r track.number t.time

-- before all others: the recording's start, and cpu 0
abbrev pub begin_context : Recording → Context
begin_context r = moment_context r 0 r.start

-- after all others: the recording's end, and cpu 0
abbrev pub end_context : Recording → Context
end_context r = moment_context r 0 r.end
