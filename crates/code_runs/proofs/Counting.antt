-- The count of a run that was performed.
use Rattle.std.proofs.Common.{List, Result, Ok, Err, refl}
use Rattle.bt_core.specs.declared.step.Step.{Step}
use Rattle.bt_core.specs.Interaction.{Interaction, Ended, and_then, Performed, Whole}
use Rattle.bt_core.proofs.InteractionLaws.{Whole-and_then, Whole-Ended, Part-and_then}
use Rattle.bpf_insn.specs.declared.trap.Trap.{Trap}
use Rattle.bpf_insn.specs.declared.trap.Trap.TheVariants as trap
use Rattle.bpf_interp.specs.declared.machine.Ended.{Ended as EndedRun}
use Rattle.bpf_interp.specs.Running.{RunPerformed}
use Rattle.code_runs.specs.Coding.{count_of}
use Rattle.code_runs.specs.Serving.{told}

whole : (t : Interaction (Result EndedRun Trap)) (old new : List Step) (end : Result EndedRun Trap) → Whole t old new end → Whole (and_then t (λ end. Ended (count_of end))) old new (count_of end)
whole t old new end w = Whole-and_then t (λ end. Ended (count_of end)) old new new end (count_of end) w (Whole-Ended (count_of end) (count_of end) new refl)

pub counted : (t : Interaction (Result EndedRun Trap)) (old new : List Step) (r : Result EndedRun Trap) → RunPerformed t old new r
    → Performed (and_then t (λ end. Ended (count_of end))) old new (told r)
counted t old new (Ok ended) h = whole t old new (Ok ended) h
counted t old new (Err (trap.Memory want)) h = Part-and_then t (λ end. Ended (count_of end)) old new h
counted t old new (Err (trap.BadJump n)) h = whole t old new (Err (trap.BadJump n)) h
counted t old new (Err (trap.BadAddress n)) h = whole t old new (Err (trap.BadAddress n)) h
counted t old new (Err (trap.UnsetRegister n)) h = whole t old new (Err (trap.UnsetRegister n)) h
counted t old new (Err (trap.BadHelper n)) h = whole t old new (Err (trap.BadHelper n)) h
counted t old new (Err trap.NoFuel) h = whole t old new (Err trap.NoFuel) h
