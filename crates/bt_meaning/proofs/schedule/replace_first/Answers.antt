-- The first item of the heap has another in its place.
use Rattle.std.proofs.Common.{rules, heap_items, sym, ◌∷◌}
use Rattle.std.specs.BinaryHeap.PeekMut.{peek_mut_top, peek_mut_rest}
use Rattle.std.proofs.lemmas.List.Sorted.{IsPermutation-map}
use Rattle.bt_meaning.specs.Upcoming.{head_item}
use Rattle.bt_meaning.proofs.UnderWay.{above_rest, heap_derived, heap_is}
use Rattle.bt_meaning.proofs.schedule.replace_first.Goals as goal

pub returns-in-Some : goal.returns-in-Some
returns-in-Some c =
    let hs = heap_items c.args.heads.now in
    let p = c.in-Some.first in
    let down = heap_derived hs c.requires.heap in
    let put = c.drop-first.ensures.permutation (search rules) in
    let heap = c.drop-first.ensures.heap_order (search rules) (c.in-Some.ensures.heap_order down) in
    record {
      first = peek_mut_top p;
      rest = peek_mut_rest p;
      was = c.in-Some.ensures.permutation;
      lay = sym c.in-Some.ensures.top;
      soonest = above_rest hs (peek_mut_rest p) (peek_mut_top p) c.in-Some.ensures.permutation (c.in-Some.ensures.greatest down);
      now = IsPermutation-map head_item (record { 0 = c.args.item } ∷ peek_mut_rest p) _ (search rules);
      heap = heap_is _ (search rules);
    }
