use Rattle.std.proofs.Common.{◌≡◌, take}
use Rattle.bt_types.specs.Listed.{formats_at}
use Rattle.bt_types.proofs.close.formats_at.Given as goal

-- what was seen so far
abbrev pub invariant-loop-number : goal.invariant-loop-number
invariant-loop-number l = l.all ≡ formats_at l.formats (take l.number-index l.calls)
