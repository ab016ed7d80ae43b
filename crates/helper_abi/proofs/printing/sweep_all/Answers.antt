use Rattle.std.proofs.Common.{refl}
use Rattle.bt_core.proofs.InteractionLaws.{Part-and_then, Whole-and_then, Whole-Ended}
use Rattle.bt_core.specs.Interaction.{Ended}
use Rattle.map_ops.specs.Asking as map
use Rattle.helper_abi.specs.Steps.{nothing}
use Rattle.helper_abi.proofs.printing.sweep_all.Goals as goal
use Rattle.helper_abi.proofs.printing.sweep_all.Goals.{in-Ok, in-Err}

pub returns-clause-called : goal.returns-clause-called
returns-clause-called g c =
    elim c.match-ask_each.branch [
      | in-Ok w ↦ rw w.result-is (Whole-and_then (map.swept c.args.sweep c.args.kind c.args.map c.args.actors) (λ value. Ended (nothing c.args.memory.now)) _ _ _ _ _ w.in-Ok.ensures.performed (Whole-Ended _ _ _ refl))
      | in-Err w ↦ rw w.result-is (Part-and_then (map.swept c.args.sweep c.args.kind c.args.map c.args.actors) (λ value. Ended (nothing c.args.memory.now)) _ _ w.in-Err.ensures.performed)
    ]
