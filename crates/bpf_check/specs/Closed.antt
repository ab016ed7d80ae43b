-- Code that an assignment of states shows safe.
use Rattle.std.specs.Prelude.{◌≡◌, ℕ, List, Option, Some, None}
use Rattle.bpf_insn.specs.declared.insn.Insn.{Insn}
use Rattle.bpf_check.specs.declared.known.Seen.{Seen}
use Rattle.bpf_check.specs.Sheet.{Sheet}
use Rattle.bpf_check.specs.declared.ways.Way.{Way}
use Rattle.bpf_check.specs.declared.ways.Ways.{Ways}
use Rattle.bpf_check.specs.declared.ways.Ways.TheVariants.{Finish, To, Either}
use Rattle.bpf_check.specs.States.{Covers, entry_seen}
use Rattle.bpf_check.specs.Ways.{leads}

-- a state is assigned that covers this one
abbrev pub HasCover : Option Seen → Seen → Type 0
HasCover None s = ⊥
HasCover (Some a) s = Covers a s

abbrev pub IsCovered : (ℕ → Option Seen) → Way → Type 0
IsCovered states w = HasCover (states w.place) w.seen

abbrev pub AreCovered : (ℕ → Option Seen) → Ways → Type 0
AreCovered states Finish = Unit {0}
AreCovered states (To a) = IsCovered states a
AreCovered states (Either a b) = IsCovered states a × IsCovered states b

-- the condition is met, and each way leads to a state that covers what is known there
abbrev pub Meets : (ℕ → Option Seen) → Option Ways → Type 0
Meets states None = ⊥
Meets states (Some ways) = AreCovered states ways

-- an assignment of states to slot 0 and some further slots, in which the first covers the entry's, and each meets its condition and is
-- followed by such as cover what comes
pub record IsClosed (t : Sheet) (code : List Insn) (states : ℕ → Option Seen) : Type 0 where
  pub start : HasCover (states 0) entry_seen
  pub each : (p : ℕ) (s : Seen) → states p ≡ Some s → Meets states (leads t code p s)

-- there is such an assignment
abbrev pub IsClosedCode : Sheet → List Insn → Type 0
IsClosedCode t code = (states : ℕ → Option Seen) × IsClosed t code states
