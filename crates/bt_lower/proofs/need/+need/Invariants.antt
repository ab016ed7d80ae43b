use Rattle.std.proofs.Common.{◌≡◌, ◌+◌, ◌*◌, ◌≤◌, length, drop}
use Rattle.bt_lower.specs.Needs.{listed, values_need}
use Rattle.bt_lower.proofs.need.+need.Given as goal

abbrev pub decreases-value_need : goal.decreases-value_need
decreases-value_need l = 3 * goal.size-value_need l

abbrev pub decreases-number_need : goal.decreases-number_need
decreases-number_need l = 3 * goal.size-number_need l

abbrev pub decreases-text_need : goal.decreases-text_need
decreases-text_need l = 3 * goal.size-text_need l

abbrev pub decreases-values_need : goal.decreases-values_need
decreases-values_need l = 3 * goal.size-values_need l + 1

abbrev pub decreases-keyed_need : goal.decreases-keyed_need
decreases-keyed_need l = 3 * goal.size-keyed_need l + 2

abbrev pub invariant-values_need-loop-left : goal.invariant-values_need-loop-left
invariant-values_need-loop-left l = record {
  within : l.left ≤ length l.es;
  sums : l.all ≡ listed (values_need (drop l.left l.es));
  room : l.all.sizes ≤ l.all.need.frame;
}

abbrev pub decreases-values_need-loop-left : goal.decreases-values_need-loop-left
decreases-values_need-loop-left l = l.left
