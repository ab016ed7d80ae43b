-- Code for each body in typed instructions.
use Rattle.std.specs.Prelude.{◌≡◌, ℕ, List, length, Some, slice_get}
use Rattle.bpf_insn.specs.declared.insn.Insn.{Insn}
use Rattle.ir_code.specs.declared.probe.IrProbe.{IrProbe}
use Rattle.body_code.specs.Bodies.{KeepsBody}

-- there is one code for each, which keeps it
pub record KeepProbes (probes : List IrProbe) (codes : List (List Insn)) : Type 0 where
  pub as_many : length codes ≡ length probes
  pub each : (n : ℕ) (probe : IrProbe) (code : List Insn) → slice_get probes n ≡ Some probe → slice_get codes n ≡ Some code → KeepsBody probe code
