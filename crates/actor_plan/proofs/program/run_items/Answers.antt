use Rattle.bt_core.specs.Ports.{Setting}
use Rattle.actor_plan.specs.Ready.{IsReady}
use Rattle.std.proofs.Common.{◌≡◌, ℕ, suc, true, false, [], ◌∷◌, length, refl, ap, ◌∙◌, arith, subst, sym}
use Rattle.std.proofs.lemmas.Bool.{not-true, not-false}
use Rattle.std.proofs.lemmas.Result.{err_from_is_err_and}
use Rattle.bt_core.specs.Interaction.{Interaction, Part, Whole}
use Rattle.actor_plan.specs.declared.agenda.AgendaItem.{AgendaItem}
use Rattle.actor_plan.specs.Plans.{Plan}
use Rattle.actor_plan.specs.Programs.{item_work, items_program}
use Rattle.actor_plan.proofs.TakingLaws.{none_taken, item_stops, item_ends, one_item, all_taken}
use Rattle.actor_plan.proofs.program.run_items.Goals as goal

pub loop-item-init : goal.loop-item-init
loop-item-init g c =
    let work : AgendaItem → Interaction ℕ = item_work (g.B.Bodies.plan c.args.bodies.now) c.args.recording.now c.args.attached.now c.args.track.now in
    record { left = none_taken c.args.exits work c.args.items (g.P.Port.steps c.args.port.now); few = omega arith; port = refl; plan = refl }

pub returns-in_err-taken-clause-performed : goal.returns-in_err-taken-clause-performed
returns-in_err-taken-clause-performed g c =
    let work : AgendaItem → Interaction ℕ = item_work (g.B.Bodies.plan c.args.bodies.now) c.args.recording.now c.args.attached.now c.args.track.now in
    let i = c.in-Some.item in
    let mid = g.P.Port.steps c.loop-item.port in
    let new = g.P.Port.steps c.take_item.new.port in
    let p = err_from_is_err_and c.from_residual.result c.from_residual.ensures.1 in
    rw p.1 (item_stops c.args.exits work c.args.items c.loop-item.items c.loop-item.instructions (g.P.Port.steps c.args.port.now) mid c.loop-item.invariant.left i c.next.new.self c.in-Some.ensures new
    (subst (λ (q : Plan). Part (items_program c.args.exits (item_work q c.args.recording.now c.args.attached.now c.args.track.now) (i ∷ [])) mid new)
    c.loop-item.invariant.plan c.in_err-taken.ensures.performed))

pub returns-then-not-taken-clause-performed : goal.returns-then-not-taken-clause-performed
returns-then-not-taken-clause-performed g c =
    let work : AgendaItem → Interaction ℕ = item_work (g.B.Bodies.plan c.args.bodies.now) c.args.recording.now c.args.attached.now c.args.track.now in
    let i = c.in-Some.item in
    let mid = g.P.Port.steps c.loop-item.port in
    let new = g.P.Port.steps c.take_item.new.port in
    let off : c.in_ok-taken.taken.to_end ≡ false = not-true c.in_ok-taken.taken.to_end c.if-not-taken.true in
    item_ends c.args.exits work c.args.items c.loop-item.items c.loop-item.instructions (g.P.Port.steps c.args.port.now) mid c.loop-item.invariant.left i c.next.new.self c.in-Some.ensures new c.in_ok-taken.taken off
    (subst (λ (q : Plan). Whole (items_program c.args.exits (item_work q c.args.recording.now c.args.attached.now c.args.track.now) (i ∷ [])) mid new c.in_ok-taken.taken)
    c.loop-item.invariant.plan c.in_ok-taken.ensures.performed)

pub loop-item-preserved : goal.loop-item-preserved
loop-item-preserved g c =
    let work : AgendaItem → Interaction ℕ = item_work (g.B.Bodies.plan c.args.bodies.now) c.args.recording.now c.args.attached.now c.args.track.now in
    let i = c.in-Some.item in
    let mid = g.P.Port.steps c.loop-item.port in
    let new = g.P.Port.steps c.take_item.new.port in
    let on : c.in_ok-taken.taken.to_end ≡ true = not-false c.in_ok-taken.taken.to_end c.if-not-taken.false in
    let before = c.loop-item.invariant in
    let e = c.in_ok-taken.ensures in
    let few = before.few in
    let one = e.few in
    let long : length c.loop-item.items ≡ suc (length c.next.new.self) = ap length c.in-Some.ensures in
    record {
      left = one_item c.args.exits work c.args.items c.loop-item.items c.loop-item.instructions (g.P.Port.steps c.args.port.now) mid before.left i c.next.new.self c.in-Some.ensures new c.in_ok-taken.taken on
          (subst (λ (q : Plan). Whole (items_program c.args.exits (item_work q c.args.recording.now c.args.attached.now c.args.track.now) (i ∷ [])) mid new c.in_ok-taken.taken)
          before.plan e.performed);
      few = omega (arith, few, one, long);
      port = e.port_kept ∙ before.port;
      plan = e.plan_kept ∙ before.plan;
    }

pub loop-item-smaller : goal.loop-item-smaller
loop-item-smaller g c = let long : length c.loop-item.items ≡ suc (length c.next.new.self) = ap length c.in-Some.ensures in omega (arith, long)

pub returns-clause-performed : goal.returns-clause-performed
returns-clause-performed g c =
    let work : AgendaItem → Interaction ℕ = item_work (g.B.Bodies.plan c.args.bodies.now) c.args.recording.now c.args.attached.now c.args.track.now in
    all_taken c.args.exits work c.args.items c.loop-item.items c.loop-item.instructions (g.P.Port.steps c.args.port.now) (g.P.Port.steps c.loop-item.port) c.loop-item.invariant.left c.in_default.ensures.0

pub take_item-requires-clause-ready : goal.take_item-requires-clause-ready
take_item-requires-clause-ready g c =
    let i = c.loop-item.invariant in
    subst (λ (z : Plan × Setting). IsReady z.0 c.args.recording.now c.args.attached.now z.1) (λ k. (sym i.plan k, (sym i.port k).setting)) c.requires.ready

pub returns-then-not-taken-clause-port_kept : goal.returns-then-not-taken-clause-port_kept
returns-then-not-taken-clause-port_kept g c =
    c.in_ok-taken.ensures.port_kept ∙ c.loop-item.invariant.port

pub returns-then-not-taken-clause-plan_kept : goal.returns-then-not-taken-clause-plan_kept
returns-then-not-taken-clause-plan_kept g c =
    c.in_ok-taken.ensures.plan_kept ∙ c.loop-item.invariant.plan
