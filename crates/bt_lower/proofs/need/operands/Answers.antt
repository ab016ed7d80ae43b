use Rattle.std.proofs.Common.{ap}
use Rattle.bt_lower.specs.Needs.{Need, then_beside}
use Rattle.bt_lower.proofs.Measured.{same, same-beyond}
use Rattle.bt_lower.proofs.need.operands.Goals as goal

pub returns-clause-both : goal.returns-clause-both
returns-clause-both c = same _ _ _ c.then_beside.ensures.beside (ap (λ (left : Need). then_beside c.args.bytes left c.args.right) c.in_ok-left.ensures.more)

pub returns-clause-beyond : goal.returns-clause-beyond
returns-clause-beyond c = same-beyond _ _ _ c.then_beside.ensures.beyond (ap (λ (left : Need). then_beside c.args.bytes left c.args.right) c.in_ok-left.ensures.more)
