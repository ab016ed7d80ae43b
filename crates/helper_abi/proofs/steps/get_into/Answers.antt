use Rattle.std.proofs.Common.{sym, ap}
use Rattle.bt_core.proofs.InteractionLaws.{Whole-and_then, Whole-Ended}
use Rattle.bt_core.specs.Interaction.{Ended}
use Rattle.bpf_insn.specs.Machine.{Gave}
use Rattle.bpf_insn.specs.Regions.{Spaces}
use Rattle.map_ops.specs.Asking as map
use Rattle.helper_abi.specs.Steps.{wrote}
use Rattle.helper_abi.proofs.steps.get_into.Goals as goal

pub returns-in-Ok-clause-called : goal.returns-in-Ok-clause-called
returns-in-Ok-clause-called g c =
    let frame = ap (λ (s : Spaces). Gave 0 s.frame) c.put.ensures in
    Whole-and_then (map.got c.args.map c.args.key) (λ value. Ended (wrote c.args.memory.now c.args.to value)) _ _ _ c.in-Ok.value _ c.in-Ok.ensures.performed (Whole-Ended _ _ _ (sym frame))
