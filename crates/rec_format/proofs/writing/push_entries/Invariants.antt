use Rattle.std.proofs.Common.{◌≡◌, ◌++◌, take}
use Rattle.recordings.specs.Entries.{entries_bytes}
use Rattle.recordings.specs.EntryParts.{entries}
use Rattle.rec_format.proofs.writing.push_entries.Given as goal

abbrev pub invariant-loop-place : goal.invariant-loop-place
invariant-loop-place l = l.bytes.items ≡ l.initial.bytes.items ++ entries_bytes (entries l.marks) (take l.place l.entries)
