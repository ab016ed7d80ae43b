use Rattle.run_objects.proofs.ends.rows_of.Given as goal

abbrev pub ghost-replies_of : goal.ghost-replies_of
ghost-replies_of g a = g.at
