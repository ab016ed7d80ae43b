use Rattle.std.proofs.Common.{◌≡◌, ◌+◌, ◌*◌, ◌≤◌, length, drop, map}
use Rattle.bt_lower.specs.Needs.{all_need, stmt_need, tree_arms_need}
use Rattle.bt_lower.proofs.body_need.+body_need.Given as goal

abbrev pub decreases-stmt_need : goal.decreases-stmt_need
decreases-stmt_need l = 3 * goal.size-stmt_need l

abbrev pub decreases-block_need : goal.decreases-block_need
decreases-block_need l = 3 * goal.size-block_need l + 1

abbrev pub decreases-tested_need : goal.decreases-tested_need
decreases-tested_need l = 3 * goal.size-tested_need l + 2

abbrev pub decreases-unroll_need : goal.decreases-unroll_need
decreases-unroll_need l = 3 * goal.size-unroll_need l + 2

abbrev pub decreases-otherwise_need : goal.decreases-otherwise_need
decreases-otherwise_need l = 3 * goal.size-otherwise_need l + 2

abbrev pub invariant-block_need-loop-left : goal.invariant-block_need-loop-left
invariant-block_need-loop-left l = record {
  within : l.left ≤ length l.stmts;
  sums : l.all ≡ all_need (map stmt_need (drop l.left l.stmts));
}

abbrev pub decreases-block_need-loop-left : goal.decreases-block_need-loop-left
decreases-block_need-loop-left l = l.left

abbrev pub invariant-stmt_need-loop-left : goal.invariant-stmt_need-loop-left
invariant-stmt_need-loop-left l = record {
  within : l.left ≤ length l.arms;
  sums : l.all ≡ tree_arms_need (drop l.left l.arms);
}

abbrev pub decreases-stmt_need-loop-left : goal.decreases-stmt_need-loop-left
decreases-stmt_need-loop-left l = l.left
