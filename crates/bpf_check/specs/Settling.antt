-- What a step of the check answers, for the proofs. No public clause cites it.
use Rattle.std.specs.Prelude.{ℕ, ◌<◌, List, Option, Some, None}
use Rattle.bpf_insn.specs.declared.insn.Insn.{Insn}
use Rattle.bpf_check.specs.declared.known.Seen.{Seen}
use Rattle.bpf_check.specs.Sheet.{Sheet}
use Rattle.bpf_check.specs.Closed.{IsClosedCode}
use Rattle.bpf_check.specs.Tables.{IsSettled, work}

-- a place to go on at, with less to be done than before; or no assignment is closed
abbrev pub Settles : Sheet → List Insn → ℕ → List (Option Seen) → Option ℕ → Type 0
Settles t code before table (Some place) = IsSettled t code table place × (work table place < before)
Settles t code before table None = IsClosedCode t code → ⊥
