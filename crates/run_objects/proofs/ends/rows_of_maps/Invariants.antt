use Rattle.std.proofs.Common.{◌≡◌, ◌++◌, drop}
use Rattle.bt_meaning.specs.Prints.{rows_after, of_maps}
use Rattle.run_objects.proofs.ends.rows_of_maps.Given as goal

abbrev pub ghost-rows_of : goal.ghost-rows_of
ghost-rows_of g a = g.at

abbrev pub invariant-loop-map : goal.invariant-loop-map
invariant-loop-map g l =
    l.rows.items ++ of_maps (rows_after g.at.world.maps g.at.world.cpus g.at.steps) l.map (drop l.map l.maps)
    ≡ of_maps (rows_after g.at.world.maps g.at.world.cpus g.at.steps) 0 l.maps
