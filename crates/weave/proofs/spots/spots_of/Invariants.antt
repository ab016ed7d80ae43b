use Rattle.std.proofs.Common.{◌≡◌, map, take}
use Rattle.weave.specs.declared.spots.Keyed.{Keyed}
use Rattle.weave.proofs.spots.spots_of.Given as goal

abbrev pub invariant-loop-keyed : goal.invariant-loop-keyed
invariant-loop-keyed l = l.spots.items ≡ map (λ (k : Keyed). k.spot) (take l.keyed-index l.found)
