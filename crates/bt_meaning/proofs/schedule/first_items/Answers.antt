use Rattle.std.proofs.Common.{◌+◌, ◌++◌, ◌∷◌, List, drop, map, sym, ap, ◌∙◌, append-nil}
use Rattle.std.proofs.lemmas.List.{at_drop_more, drop_all}
use Rattle.recordings.specs.declared.recording.CpuTrack.{CpuTrack}
use Rattle.bt_meaning.specs.Upcoming.{first_items, head_item}
use Rattle.bt_meaning.proofs.UnderWay.{two_more}
use Rattle.bt_meaning.proofs.schedule.first_items.Goals as goal

pub loop-cpu-init : goal.loop-cpu-init
loop-cpu-init c = ap (λ l. map head_item l ++ first_items c.args.ticks.now 0 c.args.tracks.now) c.new-items.ensures.items

pub loop-cpu-preserved : goal.loop-cpu-preserved
loop-cpu-preserved c =
    let ticks = c.args.ticks.now in
    let tracks = c.args.tracks.now in
    let cpu = c.loop-cpu.cpu in
    let track = c.index-tracks-cpu.result in
    let rest = first_items ticks (cpu + 1) (drop (cpu + 1) tracks) in
    two_more (map head_item c.loop-cpu.items.items) (map head_item c.push_item.new.items.items) (map head_item c.push_item-in-loop-cpu.new.items.items)
    _ _ _ _ rest c.in_ok-push_item.ensures c.in_ok-push_item-2.ensures c.tick_at.ensures c.entry_at.ensures
    ∙ ap (λ (l : List CpuTrack). map head_item c.loop-cpu.items.items ++ first_items ticks cpu l)
    (ap (λ (t : CpuTrack). t ∷ drop (cpu + 1) tracks) c.index-tracks-cpu.is ∙ sym (at_drop_more (λ (l : List CpuTrack). l) tracks cpu track c.loop-cpu-test.true))
    ∙ c.loop-cpu.invariant

pub returns : goal.returns
returns c =
    let items = map head_item c.loop-cpu.items.items in
    let none = drop_all c.loop-cpu.cpu c.args.tracks.now c.loop-cpu-test.false in
    sym (ap (λ (l : List CpuTrack). items ++ first_items c.args.ticks.now c.loop-cpu.cpu l) none ∙ append-nil items) ∙ c.loop-cpu.invariant
