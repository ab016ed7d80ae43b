use Rattle.std.proofs.Common.{get_or, ap, ◌∙◌}
use Rattle.recordings.specs.declared.recording.CpuTrack.{CpuTrack}
use Rattle.actor_plan.specs.Steps.{taken}
use Rattle.actor_plan.proofs.AgendaLaws.{agenda_is}
use Rattle.actor_plan.proofs.agenda.Agenda.new.Goals as goal

pub returns : goal.returns
returns c =
    let r = c.args.recording.now in
    let cpu = c.args.cpu in
    let track = c.index-as_slice-cpu.result in
    ap (λ (t : CpuTrack). taken 0 t.entries 0 c.as_slice-2.result.now) c.index-as_slice-cpu.is
    ∙ (λ i. taken 0 (get_or (c.as_slice.ensures i) cpu track).entries 0 (c.as_slice-2.ensures i))
    ∙ agenda_is r c.args.attached.now cpu track c.requires.valid c.requires.in_turn c.requires.known
