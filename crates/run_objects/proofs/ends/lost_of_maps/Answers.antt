use Rattle.std.proofs.Common.{ℕ, ap, ◌∙◌}
use Rattle.bt_meaning.specs.Prints.{lost_after}
use Rattle.run_objects.proofs.MapReads.{map_there, maps_begin, maps_done, maps_more}
use Rattle.run_objects.proofs.ends.lost_of_maps.Goals as goal

pub lost_of-requires : goal.lost_of-requires
lost_of-requires g c = (
  c.requires.0,
  map_there g.at c.args.maps.now c.loop-map.map c.in_ok-number.field-0 c.index-maps-map.result c.requires.1 c.loop-map-test.true c.index-maps-map.is
      c.in_ok-number.ensures.same,
)

pub loop-map-init : goal.loop-map-init
loop-map-init g c = maps_begin (lost_after g.at.world.maps g.at.world.cpus g.at.steps) _ c.args.maps.now c.new-lost.ensures.items

pub loop-map-preserved : goal.loop-map-preserved
loop-map-preserved g c =
    let after = lost_after g.at.world.maps g.at.world.cpus g.at.steps in
    maps_more after c.loop-map.lost.items _ c.loop-map.map c.index-maps-map.result c.args.maps.now c.in_ok-lost_of.field-0 c.loop-map-test.true
    c.index-maps-map.is c.loop-map.invariant (c.in_ok-lost_of.ensures.lost ∙ ap (λ (n : ℕ). after (record { 0 = n }) c.index-maps-map.result) c.in_ok-number.ensures.same)
    c.in_ok-push.ensures.items

pub returns : goal.returns
returns g c =
    maps_done (lost_after g.at.world.maps g.at.world.cpus g.at.steps) c.loop-map.lost.items c.loop-map.map c.args.maps.now c.loop-map-test.false
    c.loop-map.invariant
