use Rattle.std.proofs.Common.{◌+◌, ◌*◌, ◌≤◌, length, drop}
use Rattle.bt_lower.specs.Lowers.{LowersList}
use Rattle.bt_lower.proofs.value.+value.Given as goal

abbrev pub decreases-lower_value : goal.decreases-lower_value
decreases-lower_value l = 2 * goal.size-lower_value l

abbrev pub decreases-lower_number : goal.decreases-lower_number
decreases-lower_number l = 2 * goal.size-lower_number l

abbrev pub decreases-lower_text : goal.decreases-lower_text
decreases-lower_text l = 2 * goal.size-lower_text l

abbrev pub decreases-lower_values : goal.decreases-lower_values
decreases-lower_values l = 2 * goal.size-lower_values l + 1

abbrev pub decreases-lower_number_arm : goal.decreases-lower_number_arm
decreases-lower_number_arm l = 2 * goal.size-lower_number_arm l + 1

abbrev pub decreases-lower_text_arm : goal.decreases-lower_text_arm
decreases-lower_text_arm l = 2 * goal.size-lower_text_arm l + 1

abbrev pub decreases-tested_arm : goal.decreases-tested_arm
decreases-tested_arm l = 2 * goal.size-tested_arm l + 1

abbrev pub decreases-lower_test : goal.decreases-lower_test
decreases-lower_test l = 2 * goal.size-lower_test l + 1

abbrev pub invariant-lower_values-loop-left : goal.invariant-lower_values-loop-left
invariant-lower_values-loop-left l = record {
  within : l.left ≤ length l.es;
  lowered : LowersList (drop l.left l.es) l.fn.code l.code;
}

abbrev pub decreases-lower_values-loop-left : goal.decreases-lower_values-loop-left
decreases-lower_values-loop-left l = l.left
