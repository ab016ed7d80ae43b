use Rattle.std.proofs.Common.{◌≡◌, ◌++◌, drop}
use Rattle.weave.specs.Keyed.{keyed_lists}
use Rattle.weave.proofs.spots.gathered.Given as goal

abbrev pub invariant-loop-number : goal.invariant-loop-number
invariant-loop-number l = l.found.items ++ keyed_lists l.number (drop l.number l.lists) ≡ keyed_lists 0 l.lists
