use Rattle.std.proofs.Common.{sym, ◌∙◌, heap_items}
use Rattle.bt_meaning.proofs.UnderWay.{Advances, heap_derived, removed, replaced}
use Rattle.bt_meaning.proofs.schedule.Schedule.next.Goals as goal

-- the item behind has its place
with_next : (c : goal.After-replace_first) → Advances c.self.inside.ticks.now c.self.inside.tracks.now (heap_items c.self.inside.heads) (heap_items c.replace_first.new.heads) c.in_ok-item.field-0.now
with_next c = replaced c.self.inside.ticks.now c.self.inside.tracks.now (heap_items c.self.inside.heads) (heap_items c.replace_first.new.heads) c.in_ok-item.field-0.now
    c.in-Some.behind c.self.invariant c.replace_first.ensures (sym c.item_behind.ensures ∙ c.in-Some.is) (sym c.in_ok-item.ensures.lookup)

-- nothing is behind
with_none : (c : goal.In-Some-pop) → Advances c.self.inside.ticks.now c.self.inside.tracks.now (heap_items c.self.inside.heads) (heap_items c.pop.new.self) c.in-Some-pop.field-0
with_none c =
    let hs = heap_items c.self.inside.heads in
    let down = heap_derived hs c.self.invariant.heap in
    removed c.self.inside.ticks.now c.self.inside.tracks.now hs (heap_items c.pop.new.self) c.in_ok-item.field-0.now c.in-Some-pop.field-0 c.self.invariant
    (sym c.item_behind.ensures ∙ c.in_default.is) (sym c.in_ok-item.ensures.lookup) (sym c.in-Some-pop.ensures.top) c.in-Some-pop.ensures.permutation
    (c.in-Some-pop.ensures.below_top down) (c.in-Some-pop.ensures.heap_order down).0

pub invariant_of-self : goal.invariant_of-self
invariant_of-self c = (with_next c).under

pub returns-in-Some : goal.returns-in-Some
returns-in-Some c = sym c.self.view_is ∙ (with_next c).first

pub invariant_of-self-2 : goal.invariant_of-self-2
invariant_of-self-2 c = (with_none c).under

pub returns : goal.returns
returns c = sym c.self.view_is ∙ (with_none c).first
