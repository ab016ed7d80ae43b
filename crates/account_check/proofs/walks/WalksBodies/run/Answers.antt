use Rattle.std.proofs.lemmas.Result.{err_from_is_err_and}
use Rattle.std.proofs.Common.{◌≡◌, rules, sym, subst}
use Rattle.std.specs.Prelude.{slice_get, Some}
use Rattle.bt_core.specs.declared.context.Context.{Context}
use Rattle.bt_core.specs.Interaction.{Whole, Part}
use Rattle.walk_meaning.specs.Served.{CanWalk}
use Rattle.walk_meaning.specs.Walk.{walk}
use Rattle.bt_meaning.specs.Walks.{walked}
use Rattle.account_check.proofs.WalkLemmas.{can_walk, walk_done, walk_stopped}
use Rattle.account_check.proofs.walks.WalksBodies.run.Goals as goal

pub walk_body-requires : goal.walk_body-requires
walk_body-requires g c = let w = c.args.self.now in
    let there : slice_get c.args.self.now.script.now.bodies c.args.body ≡ Some c.in-Some.body.now = search rules in
    subst (λ (x : Context). CanWalk (g.P.Port.fixed c.args.port.now).setting c.in-Some.body.now x c.args.payload.now w.actor w.actors) (sym c.context-seen.ensures)
    (can_walk w.script.now c.args.body c.in-Some.body.now c.args.context.now c.args.payload.now (g.P.Port.fixed c.args.port.now).setting w.actor w.actors w.below there c.requires.can_run c.requires.served)

pub returns-in_err-walk_body-in-Some-clause-performed : goal.returns-in_err-walk_body-in-Some-clause-performed
returns-in_err-walk_body-in-Some-clause-performed g c = let w = c.args.self.now in
    let there : slice_get c.args.self.now.script.now.bodies c.args.body ≡ Some c.in-Some.body.now = search rules in
    let part : Part (walk c.in-Some.body.now c.args.context.now c.args.payload.now c.args.self.now.actor c.args.self.now.actors) (g.P.Port.steps c.args.port.now) (g.P.Port.steps c.walk_body.new.port) =
    subst (λ (x : Context). Part (walk c.in-Some.body.now x c.args.payload.now w.actor w.actors) (g.P.Port.steps c.args.port.now) (g.P.Port.steps c.walk_body.new.port)) c.context-seen.ensures
    c.in_err-walk_body-in-Some.ensures.performed in
    let p = err_from_is_err_and c.from_residual.result c.from_residual.ensures.1 in
    rw p.1 (subst (λ o. Part (walked o c.args.context.now c.args.payload.now c.args.self.now.actor c.args.self.now.actors) (g.P.Port.steps c.args.port.now) (g.P.Port.steps c.walk_body.new.port)) (sym there)
    (walk_stopped (walk c.in-Some.body.now c.args.context.now c.args.payload.now w.actor w.actors) (g.P.Port.steps c.args.port.now) (g.P.Port.steps c.walk_body.new.port) part))

pub returns-in_ok-walk_body-in-Some-clause-performed : goal.returns-in_ok-walk_body-in-Some-clause-performed
returns-in_ok-walk_body-in-Some-clause-performed g c = let w = c.args.self.now in
    let there : slice_get c.args.self.now.script.now.bodies c.args.body ≡ Some c.in-Some.body.now = search rules in
    subst (λ o. Whole (walked o c.args.context.now c.args.payload.now c.args.self.now.actor c.args.self.now.actors) (g.P.Port.steps c.args.port.now) (g.P.Port.steps c.walk_body.new.port) 0) (sym there)
    (walk_done (walk c.in-Some.body.now c.args.context.now c.args.payload.now w.actor w.actors) (g.P.Port.steps c.args.port.now) (g.P.Port.steps c.walk_body.new.port) c.in_ok-walk_body-in-Some.field-0
    (subst (λ (x : Context). Whole (walk c.in-Some.body.now x c.args.payload.now w.actor w.actors) (g.P.Port.steps c.args.port.now) (g.P.Port.steps c.walk_body.new.port) c.in_ok-walk_body-in-Some.field-0) c.context-seen.ensures
    c.in_ok-walk_body-in-Some.ensures.performed))
