use Rattle.recordings.specs.Parts.{sized_bytes}
use Rattle.std.specs.Int.{w32, w64, to_le_bytes}
use Rattle.recordings.specs.declared.recording.Event.{Event}
use Rattle.recordings.specs.InFile.{event_seen}
use Rattle.rec_format.proofs.WriteLaws.{written7}
use Rattle.rec_format.proofs.writing.push_event.Goals as goal

pub returns-clause-written : goal.returns-clause-written
returns-clause-written c =
    let e : Event = event_seen c.args.event.now in
    written7 c.push_sized32.result c.args.bytes.now.items c.push_u64.new.bytes.items c.push_u32.new.bytes.items c.push_u32-2.new.bytes.items c.push_u32-3.new.bytes.items c.push_u32-4.new.bytes.items
    c.extend_from_slice.new.self.items c.push_sized32.new.bytes.items
    (to_le_bytes w64 e.time) (to_le_bytes w32 e.pid) (to_le_bytes w32 e.tid) (to_le_bytes w32 e.uid) (to_le_bytes w32 e.gid) e.comm (sized_bytes w32 e.payload)
    c.in_ok-push_u64.ensures c.in_ok-push_u32.ensures c.in_ok-push_u32-2.ensures c.in_ok-push_u32-3.ensures c.in_ok-push_u32-4.ensures c.in_ok-extend_from_slice.ensures.items c.push_sized32.ensures
