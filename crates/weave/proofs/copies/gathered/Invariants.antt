use Rattle.std.proofs.Common.{◌≡◌, take}
use Rattle.weave.specs.Listed.{listed}
use Rattle.weave.proofs.copies.gathered.Given as goal

abbrev pub invariant-loop-list : goal.invariant-loop-list
invariant-loop-list l = l.steps.items ≡ listed (take l.list-index l.lists)
