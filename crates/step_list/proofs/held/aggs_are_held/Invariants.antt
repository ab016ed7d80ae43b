use Rattle.std.proofs.Common.{drop}
use Rattle.step_list.specs.HeldReplies.{AreHeldAggs}
use Rattle.step_list.proofs.held.aggs_are_held.Given as goal

-- all are such where those that are left to see are
abbrev pub invariant-loop-row : goal.invariant-loop-row
invariant-loop-row l = AreHeldAggs (drop l.row-index l.rows) → AreHeldAggs l.rows
