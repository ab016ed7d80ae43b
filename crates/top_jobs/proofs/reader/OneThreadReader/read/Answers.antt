use Rattle.top_jobs.proofs.reader.OneThreadReader.read.Goals as goal

pub returns-clause-fault : goal.returns-clause-fault
returns-clause-fault c = rw (← c.in_ok-into_one.ensures) c.read_recording.ensures.fault

pub returns-clause-refused : goal.returns-clause-refused
returns-clause-refused c = rw (← c.in_ok-into_one.ensures) c.read_recording.ensures.refused
