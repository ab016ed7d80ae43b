-- Runs of code whose helpers work on a typed script.
use Rattle.std.specs.Prelude.{ℕ, List, Result}
use Rattle.bt_core.specs.Interaction.{Interaction}
use Rattle.bpf_insn.specs.declared.insn.Insn.{Insn}
use Rattle.bpf_insn.specs.declared.trap.Trap.{Trap}
use Rattle.bpf_insn.specs.Machine.{entry_state}
use Rattle.bpf_interp.specs.declared.machine.Ended.{Ended as EndedRun}
use Rattle.bpf_interp.specs.Running.{machine_run}
use Rattle.helper_abi.specs.Helpers.{Desk, helpers}

-- at most so many instructions of the step table from the entry on, with the helpers turned into steps
abbrev pub script_run : Desk → List Insn → List ℕ → List ℕ → ℕ → Interaction (Result EndedRun Trap)
script_run desk code context payload fuel = machine_run (helpers desk) code fuel 0 (entry_state context payload)
