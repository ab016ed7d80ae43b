use Rattle.top_refusals.proofs.tell.tell.Goals as goal

pub returns-in-WriteFault : goal.returns-in-WriteFault
returns-in-WriteFault g c = rw c.in-WriteFault.is c.write_line.ensures

pub returns-in-ReadFault : goal.returns-in-ReadFault
returns-in-ReadFault g c = rw (c.in-ReadFault.is, ← c.operand_name-in-ReadFault.ensures) c.tell_behind.ensures

pub returns-in-Memory : goal.returns-in-Memory
returns-in-Memory g c = rw c.in-Memory.is c.tell_memory.ensures

pub returns-in-Usage : goal.returns-in-Usage
returns-in-Usage g c = rw c.in-Usage.is c.tell_usage.ensures

pub returns-in-Script : goal.returns-in-Script
returns-in-Script g c = rw (c.in-Script.is, ← c.operand_name.ensures) c.tell_script.ensures

pub returns-in-Recording : goal.returns-in-Recording
returns-in-Recording g c = rw (c.in-Recording.is, ← c.operand_name-in-Recording.ensures) c.tell_recording.ensures

pub returns-in-LongAccount : goal.returns-in-LongAccount
returns-in-LongAccount g c = rw (c.in-LongAccount.is, ← c.operand_name-in-LongAccount.ensures) c.tell_behind-in-LongAccount.ensures

pub returns-in-Denied : goal.returns-in-Denied
returns-in-Denied g c = rw c.in-Denied.is c.tell_denial.ensures
