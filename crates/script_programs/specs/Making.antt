-- Programs of typed instructions. No public contract speaks of it.
use Rattle.std.specs.Prelude.{List}
use Rattle.std.specs.List.{AllZip}
use Rattle.bpf_encode.specs.declared.program.Program.{Program}
use Rattle.ir_code.specs.declared.probe.IrProbe.{IrProbe}
use Rattle.body_code.specs.Blocks.{code_of}
use Rattle.body_code.specs.Bodies.{KeepsBody}
use Rattle.code_runs.specs.Programs.{IsProgram}

-- the program is the code of a body in typed instructions, which keeps it
pub record IsMade (probe : IrProbe) (program : Program) : Type 0 where
  pub is : IsProgram (code_of probe) program
  pub keeps : KeepsBody probe (code_of probe)

-- one for each
abbrev pub AreMade : List IrProbe → List Program → Type 0
AreMade probes programs = AllZip IsMade probes programs
