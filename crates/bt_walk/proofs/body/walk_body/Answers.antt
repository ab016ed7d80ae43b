use Rattle.std.proofs.Common.{◌∙◌, ap, refl, false}
use Rattle.std.proofs.lemmas.Result.{err_from_is_err_and}
use Rattle.bt_core.proofs.InteractionLaws.{Performed-none}
use Rattle.walk_meaning.specs.Walk.{first_frame}
use Rattle.bt_walk.proofs.Bodies.{body_begun, body_done, tree_fits}
use Rattle.bt_walk.proofs.Binds.{Stopped}
use Rattle.bt_walk.proofs.body.walk_body.Goals as goal

pub returns-in_err-frame-clause-performed : goal.returns-in_err-frame-clause-performed
returns-in_err-frame-clause-performed g c =
    let p = err_from_is_err_and c.from_residual.result c.from_residual.ensures.1 in
    Stopped _ _ _ _ p.1 (Performed-none _ _ _ refl)

pub walk_guarded-requires-clause-served : goal.walk_guarded-requires-clause-served
walk_guarded-requires-clause-served g c = record { can = c.requires; fine = c.args.body.now.fine }

pub walk_guarded-requires-clause-test : goal.walk_guarded-requires-clause-test
walk_guarded-requires-clause-test g c = (tree_fits c.args.body.now).0

pub walk_guarded-requires-clause-fits : goal.walk_guarded-requires-clause-fits
walk_guarded-requires-clause-fits g c = (false, (tree_fits c.args.body.now).1)

pub returns-in_err-flow-clause-performed : goal.returns-in_err-flow-clause-performed
returns-in_err-flow-clause-performed g c =
    let p = err_from_is_err_and c.from_residual-in_err-flow.result c.from_residual-in_err-flow.ensures.1 in
    Stopped _ _ _ _ p.1 (body_begun c.args.body.now c.args.context.now c.args.payload.now c.args.actor c.args.actors _ _ _ (c.in_ok-frame.ensures ∙ ap first_frame c.as_slice.ensures) c.in_err-flow.ensures.walked)

pub returns-clause-performed : goal.returns-clause-performed
returns-clause-performed g c =
    body_done c.args.body.now c.args.context.now c.args.payload.now c.args.actor c.args.actors _ _ _ (c.in_ok-frame.ensures ∙ ap first_frame c.as_slice.ensures) _ _ _ c.in_ok-flow.ensures.walked c.ending_of.ensures

pub returns-in_err-flow-clause-kept : goal.returns-in_err-flow-clause-kept
returns-in_err-flow-clause-kept g c = c.in_err-flow.ensures.kept

pub returns-clause-kept : goal.returns-clause-kept
returns-clause-kept g c = c.in_ok-flow.ensures.kept
