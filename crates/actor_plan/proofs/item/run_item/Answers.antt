use Rattle.actor_plan.specs.declared.agenda.AgendaItem.{AgendaItem}
use Rattle.bt_core.specs.Interaction.{Performed, Whole}
use Rattle.actor_plan.specs.Programs.{item_work, where_some, tick_work}
use Rattle.bt_core.proofs.InteractionLaws.{Whole-Ended}
use Rattle.bt_ast.specs.declared.attached.Tick.{Tick}
use Rattle.std.proofs.Common.{sym, refl, subst, Option}
use Rattle.actor_plan.proofs.ItemLaws.{recorded_here}
use Rattle.actor_plan.proofs.item.run_item.Goals as goal

pub run_entry-requires-clause-recorded : goal.run_entry-requires-clause-recorded
run_entry-requires-clause-recorded g c =
    recorded_here c.args.recording.now (g.B.Bodies.plan c.args.bodies.now).actor _ c.args.track.now _ c.requires.ready.valid c.requires.on_cpu
    (sym c.in-Some-get.ensures)

pub returns-in-Some-clause-performed : goal.returns-in-Some-clause-performed
returns-in-Some-clause-performed g c =
    let plan = g.B.Bodies.plan c.args.bodies.now in let r = c.args.recording.now in let attached = c.args.attached.now in let track = c.args.track.now in
    let old = g.P.Port.steps c.args.port.now in let new = g.P.Port.steps c.run_tick.new.port in
    subst (λ (i : AgendaItem). Performed (item_work plan r attached track i) old new c.run_tick.result) (sym c.in-Tick.is)
    (subst (λ (o : Option Tick). Performed (where_some (tick_work plan r attached track c.in-Tick.place) o) old new c.run_tick.result) c.in-Some.ensures
    c.run_tick.ensures.performed)

pub returns-in-None-clause-performed : goal.returns-in-None-clause-performed
returns-in-None-clause-performed g c =
    let plan = g.B.Bodies.plan c.args.bodies.now in let r = c.args.recording.now in let attached = c.args.attached.now in let track = c.args.track.now in
    let old = g.P.Port.steps c.args.port.now in
    subst (λ (i : AgendaItem). Whole (item_work plan r attached track i) old old 0) (sym c.in-Tick.is)
    (subst (λ (o : Option Tick). Whole (where_some (tick_work plan r attached track c.in-Tick.place) o) old old 0) c.in-None.ensures (Whole-Ended 0 0 old refl))
