use Rattle.std.proofs.Common.{◌≡◌, take}
use Rattle.account_check.proofs.text.first_difference.Given as goal

-- so far they are the same
abbrev pub invariant-loop-at : goal.invariant-loop-at
invariant-loop-at l = take l.at l.one ≡ take l.at l.other
