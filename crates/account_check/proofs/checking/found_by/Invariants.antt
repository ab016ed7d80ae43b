use Rattle.account_check.proofs.checking.found_by.Given as goal

abbrev pub ghost-check_steps : goal.ghost-check_steps
ghost-check_steps g a = g.plans
