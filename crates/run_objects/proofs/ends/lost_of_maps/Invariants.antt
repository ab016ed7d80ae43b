use Rattle.std.proofs.Common.{◌≡◌, ◌++◌, drop}
use Rattle.bt_meaning.specs.Prints.{lost_after, of_maps}
use Rattle.run_objects.proofs.ends.lost_of_maps.Given as goal

abbrev pub ghost-lost_of : goal.ghost-lost_of
ghost-lost_of g a = g.at

abbrev pub invariant-loop-map : goal.invariant-loop-map
invariant-loop-map g l =
    l.lost.items ++ of_maps (lost_after g.at.world.maps g.at.world.cpus g.at.steps) l.map (drop l.map l.maps)
    ≡ of_maps (lost_after g.at.world.maps g.at.world.cpus g.at.steps) 0 l.maps
