use Rattle.std.proofs.Common.{SFits, w64, subst, rules}
use Rattle.std.proofs.lemmas.Int.{to_z-of_z}
use Rattle.bt_core.specs.declared.map.MapKind.{MapKind}
use Rattle.bt_core.specs.Interaction.{Performed}
use Rattle.map_ops.specs.Asking.{printed}
use Rattle.bt_ir.proofs.step.print.Goals as goal

pub returns-clause-performed : goal.returns-clause-performed
returns-clause-performed g c =
    let fits : SFits w64 c.args.div = search rules in
    let performed = simp to_z-of_z at c.print_map.ensures.performed in
    subst (λ (k : MapKind). Performed (printed k c.args.map c.args.top c.args.div c.args.view.now.actors) (g.P.Port.steps c.args.port.now) (g.P.Port.steps c.print_map.new.port) c.print_map.result) c.kind_of-kind.ensures
    performed
