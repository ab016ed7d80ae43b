use Rattle.recordings.proofs.PlaceLaws.{entry_within, entries_in_order}
use Rattle.rec_format.proofs.laws.entries_are_in_time.Goals as goal

pub returns : goal.returns
returns c = record { within = entry_within; in_order = entries_in_order }
