use Rattle.bt_io.specs.Parts.{joined}
use Rattle.top_jobs.proofs.Due.{recording_is_fault, script_asks, script_refuses}
use Rattle.top_jobs.proofs.judge.accept.Goals as goal

pub returns-in-Err-clause-refused : goal.returns-in-Err-clause-refused
returns-in-Err-clause-refused g c =
    rw c.recording_refusal.ensures (recording_is_fault c.args.script.now (joined c.args.recording.items) c.in-Err.error c.in-Err.ensures.fault)

pub returns-in-Ok-clause-job : goal.returns-in-Ok-clause-job
returns-in-Ok-clause-job g c =
    script_asks c.args.script.now (joined c.args.recording.items) c.in-Ok.recording c.script_job.result
    (record { valid = c.in-Ok.ensures.valid; spelled = c.in-Ok.ensures.spelled }) c.script_job.ensures.same c.script_job.ensures.asks

pub returns-in-Ok-clause-refused : goal.returns-in-Ok-clause-refused
returns-in-Ok-clause-refused g c =
    script_refuses c.args.script.now (joined c.args.recording.items) c.in-Ok.recording c.script_job.result
    (record { valid = c.in-Ok.ensures.valid; spelled = c.in-Ok.ensures.spelled }) c.script_job.ensures.fault
