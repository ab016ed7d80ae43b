use Rattle.std.proofs.Common.{◌≡◌, List, map, sym, ◌∙◌, subst, heap_items}
use Rattle.bt_ast.specs.declared.attached.Tick.{Tick}
use Rattle.recordings.specs.declared.recording.CpuTrack.{CpuTrack}
use Rattle.bt_meaning.specs.Schedules.{serial_order}
use Rattle.bt_meaning.specs.Upcoming.{first_items, head_item, upcoming, IsUnderWay}
use Rattle.bt_meaning.proofs.UnderWay.{begins}
use Rattle.bt_meaning.proofs.schedule.Schedule.new.Goals as goal

begun : (c : goal.After-from) → IsUnderWay c.args.attached.now.ticks c.args.recording.now.cpus (heap_items c.from.result)
    × (upcoming c.args.attached.now.ticks c.args.recording.now.cpus (map head_item (heap_items c.from.result)) ≡ serial_order c.args.recording.now c.args.attached.now)
begun c = begins c.args.recording.now c.args.attached.now c.requires.valid c.requires.in_turn c.in_ok-heads.heads.items (heap_items c.from.result) c.requires.few_ticks
    (c.in_ok-heads.ensures ∙ (λ i. first_items (c.as_slice-ticks.ensures i) 0 (c.as_slice-tracks.ensures i)))
    c.from.ensures.1 c.from.ensures.2

pub invariant_of-result : goal.invariant_of-result
invariant_of-result c = subst (λ (z : List Tick × List CpuTrack). IsUnderWay z.0 z.1 (heap_items c.from.result))
    (λ i. (sym c.as_slice-ticks.ensures i, sym c.as_slice-tracks.ensures i)) (begun c).0

pub returns : goal.returns
returns c = (λ i. upcoming (c.as_slice-ticks.ensures i) (c.as_slice-tracks.ensures i) (map head_item (heap_items c.from.result))) ∙ (begun c).1
