use Rattle.std.proofs.Common.{◌≡◌, ◌++◌, length}
use Rattle.std.specs.List.{AllByRecursion}
use Rattle.account_format.specs.Entries.{FitsStep}
use Rattle.account_format.specs.Accounts.{entries_bytes}
use Rattle.account_format.proofs.writing.push_entries.Given as goal

abbrev pub invariant-loop-ordered : goal.invariant-loop-ordered
invariant-loop-ordered l = record {
  pushed : l.bytes.items ++ entries_bytes l.left ≡ l.initial.bytes.items ++ entries_bytes l.steps;
  fits : AllByRecursion FitsStep l.left → AllByRecursion FitsStep l.steps;
}

abbrev pub decreases-loop-ordered : goal.decreases-loop-ordered
decreases-loop-ordered l = length l.left
