use Rattle.std.proofs.Common.{SFits, w64, sym, ap, rules}
use Rattle.std.proofs.lemmas.Int.{to_z-of_z}
use Rattle.bt_core.proofs.InteractionLaws.{Part-and_then, Whole-and_then, Whole-Ended}
use Rattle.bt_core.specs.declared.value.Value.TheVariants.{Int}
use Rattle.bt_core.specs.Interaction.{Ended}
use Rattle.bpf_insn.specs.Machine.{Gave}
use Rattle.bpf_insn.specs.Regions.{Spaces}
use Rattle.map_ops.specs.Asking as map
use Rattle.helper_abi.specs.Steps.{wrote}
use Rattle.helper_abi.proofs.steps.sum_into.Goals as goal

pub returns-in-Ok-clause-called : goal.returns-in-Ok-clause-called
returns-in-Ok-clause-called g c =
    let fits : SFits w64 c.in-Ok.number = search rules in
    let put = simp to_z-of_z at c.put.ensures in
    let frame = ap (λ (s : Spaces). Gave 0 s.frame) put in
    Whole-and_then (map.summed c.args.map c.args.key.now c.args.actors) (λ n. Ended (wrote c.args.memory.now c.args.to (Int n))) _ _ _ c.in-Ok.number _ c.in-Ok.ensures.performed (Whole-Ended _ _ _ (sym frame))

pub returns-in-Err-clause-called : goal.returns-in-Err-clause-called
returns-in-Err-clause-called g c = Part-and_then (map.summed c.args.map c.args.key.now c.args.actors) (λ n. Ended (wrote c.args.memory.now c.args.to (Int n))) _ _ c.in-Err.ensures.performed
