-- A sink that holds the bytes that it took.
use Rattle.std.specs.Prelude.{ℕ, ◌-◌, List, length, min, Bool, ◌==◌, ◌||◌}
use Rattle.bt_io.specs.Calls.{one_more}
use Rattle.mem_io.specs.Calls.{is_listed}

-- a sink in memory: the bytes taken, the calls that took bytes with how many each was offered and took, how many bytes
-- it can take in all and in one call, the numbers of the calls that fail, and how many calls and how many faults there were
pub record SinkState : Type 0 where
  pub taken : List ℕ
  pub offers : List (ℕ × ℕ)
  pub room : ℕ
  pub most : ℕ
  pub failing : List ℕ
  pub calls : ℕ
  pub faults : ℕ

-- how many bytes it can still take
abbrev pub room_left : SinkState → ℕ
room_left sink = sink.room - length sink.taken

-- whether the next call fails: it is listed, or the room is used up
abbrev pub next_fails : SinkState → Bool
next_fails sink = is_listed (one_more sink.calls) sink.failing || (room_left sink == 0)

-- how many bytes of a piece a call takes that does not fail
abbrev pub takes : SinkState → List ℕ → ℕ
takes sink piece = min (min (length piece) sink.most) (room_left sink)
