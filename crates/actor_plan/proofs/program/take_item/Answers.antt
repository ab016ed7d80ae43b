use Rattle.bt_core.specs.Ports.{Setting}
use Rattle.actor_plan.specs.Ready.{IsReady}
use Rattle.std.proofs.Common.{ℕ, sym, subst, ◌∙◌}
use Rattle.std.proofs.lemmas.Result.{err_from_is_err_and}
use Rattle.bt_core.specs.Interaction.{Interaction}
use Rattle.actor_plan.specs.declared.agenda.AgendaItem.{AgendaItem}
use Rattle.actor_plan.specs.Programs.{item_work}
use Rattle.actor_plan.proofs.TakingLaws.{check_fails, work_fails, works, stops}
use Rattle.actor_plan.proofs.program.take_item.Goals as goal

pub returns-in_err-goes_on-clause-performed : goal.returns-in_err-goes_on-clause-performed
returns-in_err-goes_on-clause-performed g c =
    let work : AgendaItem → Interaction ℕ = item_work (g.B.Bodies.plan c.args.bodies.now) c.args.recording.now c.args.attached.now c.args.track.now in
    let p = err_from_is_err_and c.from_residual.result c.from_residual.ensures.1 in
    rw p.1 (check_fails c.args.exits work c.args.item (g.P.Port.steps c.args.port.now) (g.P.Port.steps c.goes_on.new.port) c.in_err-goes_on.ensures.performed)

pub returns-in_err-instructions-clause-performed : goal.returns-in_err-instructions-clause-performed
returns-in_err-instructions-clause-performed g c =
    let work : AgendaItem → Interaction ℕ = item_work (g.B.Bodies.plan c.args.bodies.now) c.args.recording.now c.args.attached.now c.args.track.now in
    let on = c.if-not-branch.false in
    let p = err_from_is_err_and c.from_residual-in_err-instructions.result c.from_residual-in_err-instructions.ensures.1 in
    rw p.1 (work_fails c.args.exits work c.args.item (g.P.Port.steps c.args.port.now) (g.P.Port.steps c.goes_on.new.port) (g.P.Port.steps c.run_item.new.port) c.in_ok-goes_on.field-0 on
    c.in_ok-goes_on.ensures.performed c.in_err-instructions.ensures.performed)

pub returns-clause-performed : goal.returns-clause-performed
returns-clause-performed g c =
    let work : AgendaItem → Interaction ℕ = item_work (g.B.Bodies.plan c.args.bodies.now) c.args.recording.now c.args.attached.now c.args.track.now in
    let on = c.if-not-branch.false in
    works c.args.exits work c.args.item (g.P.Port.steps c.args.port.now) (g.P.Port.steps c.goes_on.new.port) (g.P.Port.steps c.run_item.new.port) c.in_ok-goes_on.field-0
    c.in_ok-instructions.instructions on c.in_ok-goes_on.ensures.performed c.in_ok-instructions.ensures.performed

pub returns-then-not-branch-clause-performed : goal.returns-then-not-branch-clause-performed
returns-then-not-branch-clause-performed g c =
    let work : AgendaItem → Interaction ℕ = item_work (g.B.Bodies.plan c.args.bodies.now) c.args.recording.now c.args.attached.now c.args.track.now in
    let off = c.if-not-branch.true in
    stops c.args.exits work c.args.item (g.P.Port.steps c.args.port.now) (g.P.Port.steps c.goes_on.new.port) c.in_ok-goes_on.field-0 off
    c.in_ok-goes_on.ensures.performed

pub run_item-requires-clause-ready : goal.run_item-requires-clause-ready
run_item-requires-clause-ready g c =
    let kept = c.in_ok-goes_on.ensures.port_kept in
    subst (λ (s : Setting). IsReady (g.B.Bodies.plan c.args.bodies.now) c.args.recording.now c.args.attached.now s) (λ k. (sym kept k).setting) c.requires.ready

pub returns-clause-port_kept : goal.returns-clause-port_kept
returns-clause-port_kept g c =
    c.in_ok-instructions.ensures.port_kept ∙ c.in_ok-goes_on.ensures.port_kept
