-- The bytes of a context, and what a context holds.
use Rattle.std.specs.Prelude.{ℕ, ◌+◌, ◌-◌, ◌%◌, ◌<◌, ◌^◌, List, [], ◌∷◌, ◌++◌, take, drop}
use Rattle.std.specs.List.{AllByRecursion, flat_map}
use Rattle.std.specs.Int.{w64, to_le_bytes}
use Rattle.bt_core.specs.declared.context.Context.{Context}
use Rattle.bt_core.specs.declared.value.Value.TheVariants.{Str}
use Rattle.bt_core.specs.KeyBytes.{value_bytes}
use Rattle.bt_core.specs.Text.{IsShortText, short_text}
use Rattle.byteorder.specs.Endian.{little_number}

-- the time since the recording's start, modulo 2^64
abbrev pub elapsed : Context → ℕ
elapsed c = (c.time + 2 ^ 64 - c.start) % 2 ^ 64

-- the numbers of a context, at the bytes 0, 8, 16, 24, 32, 40, 48 and 56
abbrev pub context_numbers : Context → List ℕ
context_numbers c = c.time ∷ elapsed c ∷ c.pid ∷ c.tid ∷ c.uid ∷ c.gid ∷ c.cpu ∷ c.payload_len ∷ []

-- its numbers in eight bytes each, the lowest first, and at the byte 64 the command's name in 64 bytes, with zeros behind it
abbrev pub context_bytes : Context → List ℕ
context_bytes c = flat_map (to_le_bytes w64) (context_numbers c) ++ value_bytes (Str c.comm)

-- the context that bytes spell: each number by the lowest of its bytes, as many as it has in a program, and the start by
-- the time since then
abbrev pub context_in : List ℕ → Context
context_in bytes = record {
  time = little_number 8 bytes;
  start = (little_number 8 bytes + (2 ^ 64 - little_number 8 (drop 8 bytes))) % 2 ^ 64;
  pid = little_number 4 (drop 16 bytes);
  tid = little_number 4 (drop 24 bytes);
  uid = little_number 4 (drop 32 bytes);
  gid = little_number 4 (drop 40 bytes);
  cpu = little_number 4 (drop 48 bytes);
  comm = short_text (drop 64 bytes);
  payload_len = little_number 4 (drop 56 bytes);
}

-- bytes with a number in the eight of them from a place on
abbrev pub with_number : ℕ → ℕ → List ℕ → List ℕ
with_number place number bytes = take place bytes ++ (to_le_bytes w64 number ++ drop (place + 8) bytes)

-- the numbers of a context are such as a program holds
pub record FitsNumbers (c : Context) : Type 0 where
  pub time : c.time < 2 ^ 64
  pub start : c.start < 2 ^ 64
  pub pid : c.pid < 2 ^ 32
  pub tid : c.tid < 2 ^ 32
  pub uid : c.uid < 2 ^ 32
  pub gid : c.gid < 2 ^ 32
  pub cpu : c.cpu < 2 ^ 32
  pub payload_len : c.payload_len < 2 ^ 32

abbrev pub AreBytes : List ℕ → Type 0
AreBytes bytes = AllByRecursion (λ b. b < 256) bytes

-- a context of numbers and a name as a program holds them
pub record IsContext (c : Context) : Type 0 where
  pub time : c.time < 2 ^ 64
  pub start : c.start < 2 ^ 64
  pub pid : c.pid < 2 ^ 32
  pub tid : c.tid < 2 ^ 32
  pub uid : c.uid < 2 ^ 32
  pub gid : c.gid < 2 ^ 32
  pub cpu : c.cpu < 2 ^ 32
  pub comm : IsShortText c.comm
  pub comm_bytes : AreBytes c.comm
