use Rattle.std.proofs.Common.{◌≡◌, List, take}
use Rattle.bpf_insn.specs.declared.insn.Insn.{Insn}
use Rattle.code_runs.specs.Programs.{AreCodesOf}
use Rattle.code_runs.proofs.codes.codes_of.Given as goal

abbrev pub invariant-loop-program : goal.invariant-loop-program
invariant-loop-program l = (others : List (List Insn)) → AreCodesOf l.programs others → l.codes ≡ take l.program-index others
