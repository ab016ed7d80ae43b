use Rattle.std.proofs.Common.{refl, subst}
use Rattle.std.proofs.lemmas.Result.{err_from_is_err_and}
use Rattle.bt_core.specs.declared.map.MapKind.{MapKind}
use Rattle.bt_core.specs.Interaction.{Whole, Part}
use Rattle.bt_core.proofs.InteractionLaws.{Part-and_then, Whole-and_then, Whole-Ended}
use Rattle.ir_code.specs.Meaning.{sweep_on}
use Rattle.bt_ir.proofs.step.sweep.Goals as goal

pub returns-in_err-ask_each-clause-performed : goal.returns-in_err-ask_each-clause-performed
returns-in_err-ask_each-clause-performed g c =
    let p = err_from_is_err_and c.from_residual.result c.from_residual.ensures.1 in
    rw p.1 (subst (λ (k : MapKind). Part (sweep_on c.args.sweep k c.args.map c.args.view.now.actors c.args.state.now) (g.P.Port.steps c.args.port.now) (g.P.Port.steps c.ask_each.new.port)) c.kind_of-kind.ensures
    (Part-and_then _ _ _ _ c.in_err-ask_each.ensures.performed))

pub returns-clause-performed : goal.returns-clause-performed
returns-clause-performed g c =
    subst (λ (k : MapKind). Whole (sweep_on c.args.sweep k c.args.map c.args.view.now.actors c.args.state.now) (g.P.Port.steps c.args.port.now) (g.P.Port.steps c.ask_each.new.port) c.args.state.now) c.kind_of-kind.ensures
    (Whole-and_then _ _ _ _ _ _ _ c.in_ok-ask_each.ensures.performed (Whole-Ended _ _ _ refl))
