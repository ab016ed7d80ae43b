use Rattle.std.proofs.Common.{refl}
use Rattle.bt_walk.proofs.Binds.{Given-done}
use Rattle.bt_walk.proofs.stmt.number_or_one.Goals as goal

pub returns-in-Some-clause-walked : goal.returns-in-Some-clause-walked
returns-in-Some-clause-walked g c = rw c.in-Some.is c.number.ensures.walked

pub returns-in-None-clause-walked : goal.returns-in-None-clause-walked
returns-in-None-clause-walked g c = rw c.in-None.is (Given-done _ _ _ _ _ _ refl refl)

pub number-requires-clause-served : goal.number-requires-clause-served
number-requires-clause-served g c = c.requires.served

pub returns-in-Some-clause-kept : goal.returns-in-Some-clause-kept
returns-in-Some-clause-kept g c = c.number.ensures.kept

pub returns-in-Some-clause-turns : goal.returns-in-Some-clause-turns
returns-in-Some-clause-turns g c = c.number.ensures.turns
