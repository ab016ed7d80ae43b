use Rattle.std.proofs.Common.{[], ◌∷◌}
use Rattle.recordings.specs.Events.{part_of_event}
use Rattle.recordings.specs.InFile.{event_seen}
use Rattle.recordings.specs.Parts.{event_bytes}
use Rattle.rec_format.proofs.WriteLaws.{written2}
use Rattle.rec_format.proofs.writing.push_tagged.Goals as goal

pub returns : goal.returns
returns c =
    written2 c.push_event.result c.args.bytes.now.items c.push.new.self.items c.push_event.new.bytes.items (0 ∷ []) (event_bytes (part_of_event (event_seen c.args.event.now)))
    c.in_ok-push.ensures.items c.push_event.ensures.written
