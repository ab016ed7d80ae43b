use Rattle.account_steps.proofs.follow_all.follow_all.Given as goal

abbrev pub ghost-follow_cpus : goal.ghost-follow_cpus
ghost-follow_cpus g a = g.plans
