use Rattle.account_format.proofs.call.call_at.Goals as goal

pub returns-in-ReadAll : goal.returns-in-ReadAll
returns-in-ReadAll c = rw c.in-ReadAll.is c.sweep_at.ensures

pub returns-in-Clear : goal.returns-in-Clear
returns-in-Clear c = rw c.in-Clear.is c.sweep_at-in-Clear.ensures

pub returns-in-Zero : goal.returns-in-Zero
returns-in-Zero c = rw c.in-Zero.is c.sweep_at-in-Zero.ensures

pub returns-in-Read : goal.returns-in-Read
returns-in-Read c = rw c.in-Read.is c.read_at.ensures

pub returns-in-ClearOf : goal.returns-in-ClearOf
returns-in-ClearOf c = rw c.in-ClearOf.is c.clear_of_at.ensures

pub returns-in-ZeroOf : goal.returns-in-ZeroOf
returns-in-ZeroOf c = rw c.in-ZeroOf.is c.zero_of_at.ensures

pub returns-in-Cross : goal.returns-in-Cross
returns-in-Cross c = rw c.in-Cross.is c.cross_at.ensures
