use Rattle.bpf_check.proofs.Tables.{settled_closed}
use Rattle.bpf_check.proofs.settle.is_closed.Goals as goal

pub returns-clause-closed : goal.returns-clause-closed
returns-clause-closed c _ = (_, settled_closed _ _ _ _ c.loop-at.invariant c.loop-at-test.false)
