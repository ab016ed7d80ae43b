use Rattle.top_refusals.proofs.tell.tell_recording.Goals as goal

pub returns-in-TooLong : goal.returns-in-TooLong
returns-in-TooLong g c = rw c.in-TooLong.is c.tell_behind.ensures

pub returns-in-Fault : goal.returns-in-Fault
returns-in-Fault g c = rw (c.in-Fault.is, ← c.fault_told.ensures) c.tell_fault.ensures
