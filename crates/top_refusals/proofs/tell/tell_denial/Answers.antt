use Rattle.top_refusals.proofs.tell.tell_denial.Goals as goal

pub returns-in-Code : goal.returns-in-Code
returns-in-Code g c = rw (c.in-Code.is, ← c.operand_name-name.ensures, ← c.from.ensures) c.tell_numbered.ensures

pub returns-in-Account : goal.returns-in-Account
returns-in-Account g c = rw (c.in-Account.is, ← c.operand_name-name-in-Account.ensures, ← c.account_told.ensures) c.tell_fault.ensures
