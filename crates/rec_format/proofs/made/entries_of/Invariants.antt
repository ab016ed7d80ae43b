use Rattle.std.proofs.Common.{◌≡◌, ℕ, List, ◌++◌, map, take}
use Rattle.recordings.specs.declared.recording.Entry.TheVariants as entry
use Rattle.recordings.specs.InFile.{entries_in}
use Rattle.rec_format.proofs.made.entries_of.Given as goal

-- whatever is written behind them, the entries are those of the events so far
abbrev pub invariant-loop-event : goal.invariant-loop-event
invariant-loop-event l = (more : List ℕ) → entries_in (l.bytes.items ++ more) l.places.items ≡ map (λ e. entry.Event e) (take l.event-index l.events)
