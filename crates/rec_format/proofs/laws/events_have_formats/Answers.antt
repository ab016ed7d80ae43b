use Rattle.recordings.proofs.PlaceLaws.{event_has_format}
use Rattle.rec_format.proofs.laws.events_have_formats.Goals as goal

pub returns : goal.returns
returns c = event_has_format
