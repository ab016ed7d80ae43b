use Rattle.bt_top.proofs.Making.{big_asked, big_can_run}
use Rattle.bt_top.proofs.made.big_job.Goals as goal

pub returns-clause-job : goal.returns-clause-job
returns-clause-job c =
    big_asked c.args.x c.args.n c.in_ok-recording.recording c.big_script_job.result c.in_ok-recording.ensures.made c.in_ok-recording.ensures.valid
    c.big_script_job.ensures.same c.big_script_job.ensures.asks

pub returns-clause-can_run : goal.returns-clause-can_run
returns-clause-can_run c =
    big_can_run c.args.x c.args.n c.big_script_job.result c.accepted_scripts_are_jobs.ensures
    (big_asked c.args.x c.args.n c.in_ok-recording.recording c.big_script_job.result c.in_ok-recording.ensures.made c.in_ok-recording.ensures.valid
    c.big_script_job.ensures.same c.big_script_job.ensures.asks)
