use Rattle.std.proofs.Common.{◌≡◌, ◌++◌, drop}
use Rattle.step_list.specs.Lists.{steps_in}
use Rattle.weave.specs.Keyed.{keyed_from}
use Rattle.weave.proofs.spots.add_list.Given as goal

abbrev pub invariant-loop-place : goal.invariant-loop-place
invariant-loop-place l = l.found.items ++ keyed_from l.number l.place (drop l.place (steps_in l.list)) ≡ l.fn.found.items ++ keyed_from l.number 0 (steps_in l.list)
