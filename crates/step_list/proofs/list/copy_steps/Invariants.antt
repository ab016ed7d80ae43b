use Rattle.std.proofs.Common.{◌≡◌, ◌++◌, take}
use Rattle.step_list.specs.Places.{expanded}
use Rattle.step_list.proofs.list.copy_steps.Given as goal

abbrev pub invariant-loop-place : goal.invariant-loop-place
invariant-loop-place l = l.steps.items ≡ l.fn.steps.items ++ expanded l.keys l.whole l.prints (take l.place-index l.places)
