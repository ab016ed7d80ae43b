use Rattle.std.proofs.Common.{◌≡◌, ◌+◌, ◌≤◌, List, Some, length, get_or, ap, ◌∙◌, sym, subst}
use Rattle.std.specs.Prelude.{slice_get}
use Rattle.bt_core.specs.declared.limits.TheConstants.{EVENTS, TICKS}
use Rattle.bt_core.specs.Interaction.{Interaction, Performed}
use Rattle.recordings.specs.declared.recording.CpuTrack.{CpuTrack}
use Rattle.actor_plan.specs.declared.agenda.AgendaItem.{AgendaItem}
use Rattle.actor_plan.specs.declared.outcome.Outcome.{Outcome}
use Rattle.actor_plan.specs.Programs.{item_work, items_program}
use Rattle.actor_plan.proofs.CpuLaws.{few_items, on_track, cpu_is}
use Rattle.actor_plan.proofs.program.run_cpu.Goals as goal

pub run_items-requires-clause-on_cpu : goal.run_items-requires-clause-on_cpu
run_items-requires-clause-on_cpu g c =
    let track = c.index-as_slice-cpu.result in
    on_track c.args.recording.now c.args.cpu (g.B.Bodies.plan c.args.bodies.now).actor track c.requires.actor c.requires.known
    (c.index-as_slice-cpu.is ∙ ap (λ (cs : List CpuTrack). get_or cs c.args.cpu track) c.as_slice.ensures)

pub run_items-requires-clause-few : goal.run_items-requires-clause-few
run_items-requires-clause-few g c =
    let few = few_items c.args.recording.now c.args.attached.now c.args.cpu c.requires.ready.valid c.requires.in_turn c.requires.known c.requires.few_ticks in
    subst (λ (l : List AgendaItem). length l ≤ EVENTS + TICKS) (sym c.new-items.ensures) few

pub returns-clause-performed : goal.returns-clause-performed
returns-clause-performed g c =
    let r = c.args.recording.now in
    let attached = c.args.attached.now in
    let plan = g.B.Bodies.plan c.args.bodies.now in
    let track = c.index-as_slice-cpu.result in
    let at : slice_get r.cpus plan.actor ≡ Some track = on_track r c.args.cpu plan.actor track c.requires.actor c.requires.known
    (c.index-as_slice-cpu.is ∙ ap (λ (cs : List CpuTrack). get_or cs c.args.cpu track) c.as_slice.ensures) in
    subst (λ (t : Interaction Outcome). Performed t (g.P.Port.steps c.args.port.now) (g.P.Port.steps c.run_items.new.port) c.run_items.result)
    (ap (items_program c.args.exits (item_work plan r attached track)) c.new-items.ensures ∙ cpu_is plan c.args.exits r attached c.args.cpu track c.requires.actor c.requires.known at)
    c.run_items.ensures.performed
