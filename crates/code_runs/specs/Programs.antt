-- Programs of a script's bodies, and the code that they are.
use Rattle.std.specs.Prelude.{◌≡◌, ℕ, ◌≤◌, List, length, Some, slice_get}
use Rattle.bt_core.specs.declared.limits.TheConstants.{CODE_SLOTS}
use Rattle.bpf_insn.specs.declared.insn.Insn.{Insn}
use Rattle.bpf_encode.specs.Decoding.{IsCodeOf}
use Rattle.bpf_encode.specs.declared.program.Program.{Program}
use Rattle.typed_tree.specs.declared.body.TypedBody.{TypedBody}
use Rattle.typed_tree.specs.declared.script.Typed.{Typed}
use Rattle.code_runs.specs.Coding.{fuel_of}
use Rattle.code_runs.specs.Kept.{KeepsWalk}

-- the program is this code: its bytes spell it, it has at most 4,096 slots, and for each of them a fuel of 4,098 instructions
pub record IsProgram (code : List Insn) (program : Program) : Type 0 where
  pub spelt : IsCodeOf code program.bytes
  pub few : length code ≤ CODE_SLOTS
  pub fuel : program.fuel ≡ fuel_of code

-- The program keeps a body of the script: its code makes, for every number of actors, actor, context and payload, the calls of the body's
-- walk, and ends by its exit where the walk ends.
pub record KeepsItsBody (script : Typed) (body : TypedBody) (program : Program) : Type 0 where
  pub code : List Insn
  pub is : IsProgram code program
  pub keeps : KeepsWalk script body code

-- there is one program for each body, which keeps it
pub record KeepScript (script : Typed) (programs : List Program) : Type 0 where
  pub as_many : length programs ≡ length script.bodies
  pub each : (n : ℕ) (body : TypedBody) (program : Program) → slice_get script.bodies n ≡ Some body → slice_get programs n ≡ Some program
      → KeepsItsBody script body program

-- these are the codes of programs, in their order
pub record AreCodesOf (programs : List Program) (codes : List (List Insn)) : Type 0 where
  pub as_many : length codes ≡ length programs
  pub each : (n : ℕ) (program : Program) (code : List Insn) → slice_get programs n ≡ Some program → slice_get codes n ≡ Some code
      → IsCodeOf code program.bytes
