use Rattle.worker_tests.proofs.workers.run_one.Goals as goal

pub run-requires : goal.run-requires
run-requires g c = c.requires

pub returns : goal.returns
returns g c = c.run.ensures.turns
