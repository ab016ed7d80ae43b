use Rattle.std.proofs.Common.{ℕ, ap, ◌∙◌}
use Rattle.bt_meaning.specs.Prints.{rows_after}
use Rattle.run_objects.proofs.MapReads.{map_there, maps_begin, maps_done, maps_more}
use Rattle.run_objects.proofs.ends.rows_of_maps.Goals as goal

pub rows_of-requires : goal.rows_of-requires
rows_of-requires g c = (
  c.requires.0,
  map_there g.at c.args.maps.now c.loop-map.map c.in_ok-number.field-0 c.index-maps-map.result c.requires.1 c.loop-map-test.true c.index-maps-map.is
      c.in_ok-number.ensures.same,
)

pub loop-map-init : goal.loop-map-init
loop-map-init g c = maps_begin (rows_after g.at.world.maps g.at.world.cpus g.at.steps) _ c.args.maps.now c.new-rows.ensures.items

pub loop-map-preserved : goal.loop-map-preserved
loop-map-preserved g c =
    let after = rows_after g.at.world.maps g.at.world.cpus g.at.steps in
    maps_more after c.loop-map.rows.items _ c.loop-map.map c.index-maps-map.result c.args.maps.now c.in_ok-rows_of.field-0 c.loop-map-test.true
    c.index-maps-map.is c.loop-map.invariant (c.in_ok-rows_of.ensures ∙ ap (λ (n : ℕ). after (record { 0 = n }) c.index-maps-map.result) c.in_ok-number.ensures.same)
    c.in_ok-push.ensures.items

pub returns : goal.returns
returns g c =
    maps_done (rows_after g.at.world.maps g.at.world.cpus g.at.steps) c.loop-map.rows.items c.loop-map.map c.args.maps.now c.loop-map-test.false
    c.loop-map.invariant
