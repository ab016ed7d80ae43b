use Rattle.std.proofs.Common.{◌+◌, ◌*◌, ◌≤◌, length, drop}
use Rattle.bt_lower.specs.Code.{closed}
use Rattle.bt_lower.proofs.Branches.{ArmsLeft}
use Rattle.bt_lower.proofs.Rest.{LowersRest}
use Rattle.bt_lower.proofs.stmt.+stmt.Given as goal

abbrev pub decreases-lower_stmt : goal.decreases-lower_stmt
decreases-lower_stmt l = 4 * goal.size-lower_stmt l + 1

abbrev pub decreases-lower_block : goal.decreases-lower_block
decreases-lower_block l = 4 * goal.size-lower_block l

abbrev pub decreases-lower_into : goal.decreases-lower_into
decreases-lower_into l = 4 * goal.size-lower_into l + 1

abbrev pub decreases-lower_else : goal.decreases-lower_else
decreases-lower_else l = 4 * goal.size-lower_else l + 2

abbrev pub decreases-lower_only_else : goal.decreases-lower_only_else
decreases-lower_only_else l = 4 * goal.size-lower_only_else l + 2

abbrev pub decreases-lower_arm : goal.decreases-lower_arm
decreases-lower_arm l = 4 * goal.size-lower_arm l + 2

abbrev pub decreases-lower_if : goal.decreases-lower_if
decreases-lower_if l = 4 * goal.size-lower_if l

abbrev pub decreases-lower_while : goal.decreases-lower_while
decreases-lower_while l = 4 * goal.size-lower_while l + 2

abbrev pub decreases-lower_unroll : goal.decreases-lower_unroll
decreases-lower_unroll l = 4 * goal.size-lower_unroll l + 2

abbrev pub invariant-lower_block-loop-left : goal.invariant-lower_block-loop-left
invariant-lower_block-loop-left l = record {
  within : l.left ≤ length l.stmts;
  lowered : LowersRest (drop l.left l.stmts) l.way l.fn.code l.code;
}

abbrev pub decreases-lower_block-loop-left : goal.decreases-lower_block-loop-left
decreases-lower_block-loop-left l = l.left

abbrev pub invariant-lower_if-loop-left : goal.invariant-lower_if-loop-left
invariant-lower_if-loop-left l = record {
  within : l.left ≤ length l.arms;
  lowered : ArmsLeft l.s l.arms (drop l.left l.arms) l.after l.way (closed l.fn.code) l.code l.next;
}

abbrev pub decreases-lower_if-loop-left : goal.decreases-lower_if-loop-left
decreases-lower_if-loop-left l = l.left
