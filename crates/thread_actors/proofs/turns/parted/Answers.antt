use Rattle.std.proofs.Common.{◌≡◌, map, sym, ap, ◌∙◌}
use Rattle.std.specs.Vec.Iter.{into_iter_items}
use Rattle.thread_actors.specs.Turns.{at_maps, at_tables, at_sides}
use Rattle.thread_actors.proofs.Rowing.{one_behind, one_gone, all_gone_over}
use Rattle.thread_actors.proofs.turns.parted.Goals as goal

pub loop-turns-init : goal.loop-turns-init
loop-turns-init c = record {
  maps = c.new-at_maps.ensures.items;
  tables = c.new-at_tables.ensures.items;
  sides = c.new-at_sides.ensures.items;
  whole = c.into_iter-turns-iterator.ensures.into_iter_gives.0;
}

pub loop-turns-preserved : goal.loop-turns-preserved
loop-turns-preserved c =
    let before = c.loop-turns.yielded in let own = c.in-Some.turns in let all = c.loop-turns.invariant in let more = c.in_ok-add_each.ensures in record {
      maps = one_behind at_maps before own _ _ all.maps more.maps;
      tables = one_behind at_tables before own _ _ all.tables more.tables;
      sides = one_behind at_sides before own _ _ all.sides more.sides;
      whole = one_gone before own (into_iter_items c.loop-turns.turns-iterator) _ c.args.all.items c.in-Some.ensures.steps.0 all.whole;
    }

pub returns : goal.returns
returns c =
    let left = c.loop-turns.turns-iterator in
    let all = c.loop-turns.invariant in
    let over : c.loop-turns.yielded ≡ c.args.all.items =
    all_gone_over c.loop-turns.yielded (into_iter_items left) c.args.all.items (sym c.in-None.ensures.steps.0 ∙ left.rest.ok.0) all.whole in
    record { maps = all.maps ∙ ap (map at_maps) over; tables = all.tables ∙ ap (map at_tables) over; sides = all.sides ∙ ap (map at_sides) over }
