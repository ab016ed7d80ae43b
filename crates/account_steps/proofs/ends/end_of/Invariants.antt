use Rattle.account_steps.proofs.ends.end_of.Given as goal

abbrev pub ghost-read_maps : goal.ghost-read_maps
ghost-read_maps g a = g.at
