use Rattle.job_laws.proofs.Jobs.{is_job}
use Rattle.job_laws.proofs.laws.accepted_scripts_are_jobs.Goals as goal

pub returns : goal.returns
returns c = λ script typed attached r valid none to types. is_job script typed attached r to types valid none
