use Rattle.bt_lower.proofs.Arms.{at-ok}
use Rattle.bt_lower.proofs.Jumps.{T-Break, T-Continue, T-Return, T-Exit}
use Rattle.bt_lower.proofs.simple.jump.Goals as goal

pub returns-in-Break : goal.returns-in-Break
returns-in-Break c = at-ok c.begin.result c.begin.ensures (T-Break _ _ _ _ c.in-Break.is)

pub returns-in-Continue : goal.returns-in-Continue
returns-in-Continue c = at-ok c.begin-in-Continue.result c.begin-in-Continue.ensures (T-Continue _ _ _ _ c.in-Continue.is)

pub returns-in-Return : goal.returns-in-Return
returns-in-Return c = at-ok c.begin-in-Return.result c.begin-in-Return.ensures (T-Return _ _ _ _ c.in-Return.is)

pub returns-in_ok-begin-in-Exit : goal.returns-in_ok-begin-in-Exit
returns-in_ok-begin-in-Exit c = at-ok c.push.result c.push.ensures (T-Exit _ _ _ _ _ c.in-Exit.is c.in_ok-begin-in-Exit.ensures)
