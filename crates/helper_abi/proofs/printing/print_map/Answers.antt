use Rattle.std.proofs.Common.{SFits, w64, refl, rules}
use Rattle.std.proofs.lemmas.Int.{to_z-of_z}
use Rattle.bt_core.proofs.InteractionLaws.{Part-and_then, Whole-and_then, Whole-Ended}
use Rattle.bt_core.specs.Interaction.{Ended}
use Rattle.map_ops.specs.Asking as map
use Rattle.helper_abi.specs.Steps.{nothing}
use Rattle.helper_abi.proofs.printing.print_map.Goals as goal

pub returns-in-Ok-clause-called : goal.returns-in-Ok-clause-called
returns-in-Ok-clause-called g c =
    let fits : SFits w64 c.args.div = search rules in
    let performed = simp to_z-of_z at c.in-Ok.ensures.performed in
    Whole-and_then (map.printed c.args.kind c.args.map c.args.top c.args.div c.args.actors) (λ value. Ended (nothing c.args.memory.now)) _ _ _ _ _ performed (Whole-Ended _ _ _ refl)

pub returns-in-Err-clause-called : goal.returns-in-Err-clause-called
returns-in-Err-clause-called g c =
    let fits : SFits w64 c.args.div = search rules in
    let performed = simp to_z-of_z at c.in-Err.ensures.performed in
    Part-and_then (map.printed c.args.kind c.args.map c.args.top c.args.div c.args.actors) (λ value. Ended (nothing c.args.memory.now)) _ _ performed
