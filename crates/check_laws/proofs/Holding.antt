-- What is kept of the machine's state while closed code runs.
use Rattle.std.specs.Prelude.{◌≡◌, ℕ, true, ◌≤◌, ◌<◌, ◌^◌, List, ◌++◌, length, Option, Some}
use Rattle.std.specs.Int.{w64, to_le_bytes}
use Rattle.bt_core.specs.declared.step.Reply.{Reply}
use Rattle.bt_core.specs.Interaction.{Call}
use Rattle.bpf_insn.specs.Regions.{Spaces}
use Rattle.bpf_insn.specs.Machine.{Answer, Gave, BadBytes, BadArgument, Helpers, args_of, reg_of}
use Rattle.bpf_check.specs.declared.known.Known.{Known}
use Rattle.bpf_check.specs.declared.known.Known.TheVariants.{Unset, Num, Const}
use Rattle.bpf_check.specs.declared.known.Seen.{Seen}
use Rattle.bpf_check.specs.Sheet.{Sheet}
use Rattle.bpf_check.specs.States.{known_in}
use Rattle.bpf_check.specs.Calls.{call_fits}
use Rattle.bt_core.specs.Same.{Yields}

-- what is known of a register holds of it
abbrev pub HoldsKnown : Known → Option ℕ → Type 0
HoldsKnown Unset o = Unit {0}
HoldsKnown Num o = (n : ℕ) × (o ≡ Some n)
HoldsKnown (Const m) o = o ≡ Some m

pub record Holds (regs : List (Option ℕ)) (s : Seen) : Type 0 where
  pub each : (r : ℕ) → HoldsKnown (known_in s.regs r) (reg_of regs r)
  pub long : length regs ≡ 11

-- the payload is long enough, and the frame ends with the number of gates that were passed
pub record Counts (t : Sheet) (s : Spaces) (turns : ℕ) : Type 0 where
  pub payload : t.payload ≤ length s.payload
  pub short : length s.payload < 2 ^ 32
  pub front : List ℕ
  pub long : length front ≡ 504
  pub frame : s.frame ≡ front ++ to_le_bytes w64 turns
  pub few : turns ≤ 4096

-- a helper gives 0 and keeps the count
abbrev pub GivesWell : Sheet → ℕ → Spaces → Answer → Type 0
GivesWell t turns s (Gave n frame) = (n ≡ 0) × Counts t (record s { frame = frame }) turns
GivesWell t turns s BadBytes = ⊥
GivesWell t turns s BadArgument = ⊥

-- what is asked of the helpers: a call that finds what it wants does well under replies that fit
abbrev pub HelpersServe : (Call → Reply → Type 0) → Sheet → Helpers → Type 0
HelpersServe K t helper = (n turns : ℕ) (regs : List (Option ℕ)) (s : Spaces) (a : Seen) → call_fits t.maps t.formats n a ≡ true
    → Holds regs a → Counts t s turns → Yields K (GivesWell t turns s) (helper n (args_of regs) s)
