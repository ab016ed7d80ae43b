use Rattle.code_runs.proofs.laws.code_means_walks.Goals as goal
use Rattle.code_runs.proofs.Means.{agree, code_replayed, code_serial}

pub returns-clause-agree : goal.returns-clause-agree
returns-clause-agree c script codes attached r job held keep = agree script codes attached r job held keep

pub returns-clause-replayed : goal.returns-clause-replayed
returns-clause-replayed c script codes attached r steps job held keep replies i = code_replayed script codes attached r job held keep steps replies i

pub returns-clause-serial : goal.returns-clause-serial
returns-clause-serial c script codes attached r job held keep replies = code_serial script codes attached r job held keep replies
