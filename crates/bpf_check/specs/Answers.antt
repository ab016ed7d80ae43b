-- What the check of bytes answers.
use Rattle.std.specs.Prelude.{◌≡◌, ℕ, ◌*◌, List, length, Result, Ok, Err}
use Rattle.bpf_insn.specs.declared.insn.Insn.{Insn}
use Rattle.bpf_encode.specs.declared.decode.DecodeError.{DecodeError}
use Rattle.bpf_encode.specs.declared.decode.DecodeError.TheVariants as decoding
use Rattle.bpf_encode.specs.Decoding.{IsCodeOf}
use Rattle.bpf_encode.specs.Faults.{IsFirstFault}
use Rattle.bpf_check.specs.declared.check.CodeFault.{CodeFault}
use Rattle.bpf_check.specs.declared.check.CodeFault.TheVariants.{S1, S2, Memory}
use Rattle.bpf_check.specs.Sheet.{Sheet}
use Rattle.bpf_check.specs.Closed.{IsClosedCode}

-- the bytes are those of closed code, and this is 4,097 times its slots
pub record AreClosed (t : Sheet) (bytes : List ℕ) (most : ℕ) : Type 0 where
  pub code : List Insn
  pub is_code_of : IsCodeOf code bytes
  pub closed : IsClosedCode t code
  pub is_most : most ≡ 4097 * length code

-- the bytes are those of code that is not closed
pub record AreOpen (t : Sheet) (bytes : List ℕ) : Type 0 where
  pub code : List Insn
  pub is_code_of : IsCodeOf code bytes
  pub not_closed : IsClosedCode t code → ⊥

-- the answer that holds of bytes: of closed code, of no code, or of other code. Want of memory says nothing of them
abbrev pub IsAnswer : Sheet → List ℕ → Result ℕ CodeFault → Type 0
IsAnswer t bytes (Ok most) = AreClosed t bytes most
IsAnswer t bytes (Err (S1 fault)) = IsFirstFault bytes fault
IsAnswer t bytes (Err S2) = AreOpen t bytes
IsAnswer t bytes (Err (Memory _)) = ⊥

-- ---- of code, for the proofs

abbrev pub Judges : Sheet → List Insn → Result ℕ CodeFault → Type 0
Judges t code (Ok most) = IsClosedCode t code × (most ≡ 4097 * length code)
Judges t code (Err (S1 fault)) = ⊥
Judges t code (Err S2) = IsClosedCode t code → ⊥
Judges t code (Err (Memory _)) = Unit {0}

abbrev pub refused : DecodeError → CodeFault
refused (decoding.Memory want) = Memory want
refused fault = S1 fault
