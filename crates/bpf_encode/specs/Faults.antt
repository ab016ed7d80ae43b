-- The first fault of bytes that are no code.
use Rattle.std.specs.Prelude.{◌≡◌, ℕ, ◌%◌, ◌^◌, ◌<◌, ◌≤◌, ◌⊎◌, Bool, true, false, List, [], ◌∷◌, ◌++◌, length, slice_index, IsTrue}
use Rattle.bpf_insn.specs.declared.form.Form.{Form}
use Rattle.bpf_insn.specs.declared.insn.Insn.{Insn}
use Rattle.bpf_insn.specs.declared.insn.Insn.TheVariants.{Half}
use Rattle.bpf_insn.specs.declared.slot.Slot.{Slot}
use Rattle.bpf_insn.specs.Code.{is_valid, is_wide}
use Rattle.bpf_insn.specs.Opcodes.{IsFormAt}
use Rattle.bpf_insn.specs.Encoding.{slot_of, slot_bytes, code_bytes}
use Rattle.bpf_encode.specs.declared.decode.DecodeError.{DecodeError}
use Rattle.bpf_encode.specs.declared.decode.DecodeError.TheVariants.{BadLength, BadOpcode, BadField, HalfWide, Memory}
use Rattle.bpf_encode.specs.Decoding.{IsCode, Fits}

-- the bytes of a slot stand at the front of these
abbrev pub BeginsWith : Slot → List ℕ → Type 0
BeginsWith s bytes = (rest : List ℕ) × (slot_bytes s ++ rest ≡ bytes)

-- what is missing of code that ends in a wide load, and of other code
abbrev pub missing : Bool → List Insn
missing true = Half ∷ []
missing false = []

-- slot n has this fault: the bytes are whole slots, those of n instructions and of a rest. Where a half is owed to the last of these
-- instructions, they are code but for it, and else they are code
pub record FaultAt (owed : Bool) (fault : List ℕ → Type 0) (bytes : List ℕ) (n : ℕ) : Type 0 where
  pub multiple : length bytes % 8 ≡ 0
  pub before : List Insn
  pub rest : List ℕ
  pub is_code : IsCode (before ++ missing owed)
  pub many : length before ≡ n
  pub split : bytes ≡ code_bytes before ++ rest
  pub whole : 8 ≤ length rest
  pub at_fault : fault rest

-- no form of the set has the opcode
abbrev pub HasBadOpcode : List ℕ → Type 0
HasBadOpcode rest = (form : Form) → IsFormAt (slice_index rest 0) form → ⊥

-- a form of the set has the opcode, and no instruction has the slot
pub record HasBadField (rest : List ℕ) : Type 0 where
  pub form : Form
  pub opcode : IsFormAt (slice_index rest 0) form
  pub fields : (i : Insn) → IsTrue (is_valid i) → Fits i → BeginsWith (slot_of 0 i) rest → ⊥

-- no half has the slot, whatever it holds
abbrev pub HasBadHalf : List ℕ → Type 0
HasBadHalf rest = (upper : ℕ) → upper < 2 ^ 32 → BeginsWith (slot_of upper Half) rest → ⊥

-- the first slot of a wide load, and nothing after it
pub record IsHalfWide (rest : List ℕ) : Type 0 where
  pub insn : Insn
  pub wide : IsTrue (is_wide insn)
  pub valid : IsTrue (is_valid insn)
  pub fits : Fits insn
  pub spelt : slot_bytes (slot_of 0 insn) ≡ rest

-- the first fault of the bytes; want of memory is none
abbrev pub IsFirstFault : List ℕ → DecodeError → Type 0
IsFirstFault bytes BadLength = length bytes % 8 ≡ 0 → ⊥
IsFirstFault bytes (BadOpcode n) = FaultAt false HasBadOpcode bytes n
IsFirstFault bytes (BadField n) = FaultAt false HasBadField bytes n ⊎ FaultAt true HasBadHalf bytes n
IsFirstFault bytes (HalfWide n) = FaultAt false IsHalfWide bytes n
IsFirstFault bytes (Memory _) = ⊥

-- each number is one of 8 bits
abbrev pub AreBytes : List ℕ → Type 0
AreBytes bytes = (i : ℕ) → slice_index bytes i < 2 ^ 8
