use Rattle.std.proofs.Common.{◌≡◌}
use Rattle.recordings.specs.Entries.{time_after, HasEntries}
use Rattle.recordings.specs.EntryParts.{entries}
use Rattle.recordings.specs.InFile.{entries_in}
use Rattle.rec_format.proofs.entries.read_entries.Given as goal

abbrev pub invariant-loop-place : goal.invariant-loop-place
invariant-loop-place l = record {
  has : HasEntries (entries l.setting.marks) l.setting.formats.now l.setting.start l.setting.end l.place l.bytes (entries_in l.setting.file.now l.places.items) l.rest;
  time : l.earliest ≡ time_after (entries l.setting.marks) l.setting.start (entries_in l.setting.file.now l.places.items);
}
