use Rattle.std.proofs.Common.{List, ◌++◌, ap, ◌∙◌, arith}
use Rattle.std.proofs.lemmas.List.{take_all}
use Rattle.recordings.specs.declared.recording.CpuTrack.{CpuTrack}
use Rattle.recordings.specs.Recordings.{track_bytes, tracks_bytes}
use Rattle.rec_format.specs.Answers.{CanWriteTrack}
use Rattle.rec_format.proofs.WriteLaws.{written_more, item_writable}
use Rattle.rec_format.proofs.writing.push_tracks.Goals as goal

pub push_track-requires : goal.push_track-requires
push_track-requires c = item_writable (CanWriteTrack c.args.marks) c.args.tracks.now c.loop-track.track-index c.track-item.result c.loop-track-test.true c.track-item.is c.requires

pub loop-track-preserved : goal.loop-track-preserved
loop-track-preserved c =
    written_more (track_bytes c.args.marks) c.args.tracks.now c.loop-track.track-index c.track-item.result c.args.bytes.now.items c.loop-track.bytes.items c.push_track.new.bytes.items
    c.loop-track-test.true c.track-item.is c.loop-track.invariant c.in_ok-push_track.ensures

pub returns : goal.returns
returns c =
    c.loop-track.invariant ∙ ap (λ (l : List CpuTrack). c.args.bytes.now.items ++ tracks_bytes c.args.marks l) (take_all c.loop-track.track-index c.args.tracks.now (omega (arith, c.loop-track-test.false)))
