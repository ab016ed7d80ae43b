use Rattle.std.proofs.Common.{◌≡◌, take}
use Rattle.bt_types.specs.Listed.{maps_at}
use Rattle.bt_types.proofs.close.maps_at.Given as goal

-- what was seen so far
abbrev pub invariant-loop-number : goal.invariant-loop-number
invariant-loop-number l = l.all ≡ maps_at l.maps (take l.number-index l.named)
