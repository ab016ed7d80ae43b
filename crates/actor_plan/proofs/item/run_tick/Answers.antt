use Rattle.bt_core.specs.declared.context.Context.{Context}
use Rattle.std.proofs.lemmas.Option.{slice_get_within}
use Rattle.std.proofs.Common.{[], if◌then◌else◌, sym, refl, subst, arith, ℕ, Bool, ◌∙◌}
use Rattle.std.proofs.lemmas.Result.{err_from_is_err_and}
use Rattle.bt_core.specs.Interaction.{Ended, Interaction, Performed, Whole}
use Rattle.bt_core.proofs.InteractionLaws.{Part-and_then, Whole-and_then, Whole-Ended, Performed-and_then}
use Rattle.actor_plan.specs.Contexts.{tick_context}
use Rattle.actor_plan.specs.Programs.{crosses_last}
use Rattle.actor_plan.proofs.ItemLaws.{tick_runs, run_is_few}
use Rattle.actor_plan.proofs.item.run_tick.Goals as goal

pub returns-in_err-crosses_last-clause-performed : goal.returns-in_err-crosses_last-clause-performed
returns-in_err-crosses_last-clause-performed g c =
    let t = c.args.tick.now in
    let p = err_from_is_err_and c.from_residual.result c.from_residual.ensures.1 in
    rw p.1 (Part-and_then (crosses_last c.args.place)
    (λ last. if last then (g.B.Bodies.plan c.args.bodies.now).run t.body (tick_context c.args.recording.now c.args.track.now t) [] else Ended 0)
    (g.P.Port.steps c.args.port.now) (g.P.Port.steps c.crosses_last.new.port) c.in_err-crosses_last.ensures.performed)

pub run-requires-clause-can_run : goal.run-requires-clause-can_run
run-requires-clause-can_run g c = tick_runs (g.B.Bodies.plan c.args.bodies.now) c.args.recording.now c.args.attached.now (g.P.Port.fixed c.args.port.now).setting c.requires.ready
    c.args.track.now c.args.place c.args.tick.now c.context_of_tick-context.result c.requires.there c.context_of_tick-context.ensures

pub returns-clause-few : goal.returns-clause-few
returns-clause-few g c = run_is_few (g.B.Bodies.plan c.args.bodies.now) c.args.recording.now c.args.attached.now (g.P.Port.fixed c.args.port.now).setting c.requires.ready
    c.args.tick.now.body c.context_of_tick-context.result [] (g.P.Port.steps c.crosses_last.new.port) (g.P.Port.steps c.run.new.port) c.run.result c.run.ensures.performed

pub returns-then-not-branch-clause-performed : goal.returns-then-not-branch-clause-performed
returns-then-not-branch-clause-performed g c =
    let t = c.args.tick.now in let plan = g.B.Bodies.plan c.args.bodies.now in
    let old = g.P.Port.steps c.args.port.now in let mid = g.P.Port.steps c.crosses_last.new.port in
    let last : Bool = c.in_ok-crosses_last.field-0 in
    let work : Bool → Interaction ℕ = (λ b. if b then plan.run t.body (tick_context c.args.recording.now c.args.track.now t) [] else Ended 0) in
    let off = c.if-not-branch.true in
    Whole-and_then (crosses_last c.args.place) work old mid mid last 0 c.in_ok-crosses_last.ensures.performed
    (subst (λ (b : Bool). Whole (work b) mid mid 0) (sym off) (Whole-Ended 0 0 mid refl))

pub returns-clause-performed : goal.returns-clause-performed
returns-clause-performed g c =
    let t = c.args.tick.now in let plan = g.B.Bodies.plan c.args.bodies.now in
    let old = g.P.Port.steps c.args.port.now in let mid = g.P.Port.steps c.crosses_last.new.port in
    let last : Bool = c.in_ok-crosses_last.field-0 in
    let work : Bool → Interaction ℕ = (λ b. if b then plan.run t.body (tick_context c.args.recording.now c.args.track.now t) [] else Ended 0) in
    let new = g.P.Port.steps c.run.new.port in let on = c.if-not-branch.false in
    let done = subst (λ (x : Context). Performed (plan.run t.body x []) mid new c.run.result) c.context_of_tick-context.ensures c.run.ensures.performed in
    Performed-and_then (crosses_last c.args.place) work old mid new last c.run.result c.in_ok-crosses_last.ensures.performed
    (subst (λ (b : Bool). Performed (work b) mid new c.run.result) (sym on) done)

pub returns-clause-port_kept : goal.returns-clause-port_kept
returns-clause-port_kept g c =
    c.run.ensures.port_kept ∙ c.in_ok-crosses_last.ensures.port_kept

pub crosses_last-requires : goal.crosses_last-requires
crosses_last-requires g c =
    let within = slice_get_within c.args.attached.now.ticks c.args.place c.args.tick.now c.requires.there in
    omega (arith, within, c.requires.ready.ticks)
