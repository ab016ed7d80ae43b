use Rattle.run_objects.proofs.ends.read_maps.Given as goal

abbrev pub ghost-rows_of_maps : goal.ghost-rows_of_maps
ghost-rows_of_maps g a = g.at

abbrev pub ghost-lost_of_maps : goal.ghost-lost_of_maps
ghost-lost_of_maps g a = g.at
