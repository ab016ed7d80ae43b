use Rattle.std.proofs.Common.{◌≡◌, ◌++◌, length}
use Rattle.account_check.proofs.reading.list_of.Given as goal

-- what was listed, and what is left
abbrev pub invariant-loop-list : goal.invariant-loop-list
invariant-loop-list l = l.list.items ++ l.entries ≡ l.fn.entries

abbrev pub decreases-loop-list : goal.decreases-loop-list
decreases-loop-list l = length l.entries
