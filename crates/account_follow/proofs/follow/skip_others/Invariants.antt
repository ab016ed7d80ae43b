use Rattle.std.proofs.Common.{length, ◌-◌, ◌≡◌, ◌≤◌, take, drop}
use Rattle.bt_core.specs.Steps.{of_actor}
use Rattle.account_follow.proofs.follow.skip_others.Given as goal

-- those that were passed over are others'
abbrev pub invariant-loop-at : goal.invariant-loop-at
invariant-loop-at l = record {
  above : l.fn.from ≤ l.at;
  within : l.at ≤ length l.list;
  same : of_actor l.actor (take l.at l.list) ≡ of_actor l.actor (take l.fn.from l.list);
  rest : of_actor l.actor (drop l.at l.list) ≡ of_actor l.actor (drop l.fn.from l.list);
}

abbrev pub decreases-loop-at : goal.decreases-loop-at
decreases-loop-at l = length l.list - l.at
