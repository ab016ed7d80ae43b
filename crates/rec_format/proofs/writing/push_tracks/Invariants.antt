use Rattle.std.proofs.Common.{◌≡◌, ◌++◌, take}
use Rattle.recordings.specs.Recordings.{tracks_bytes}
use Rattle.rec_format.proofs.writing.push_tracks.Given as goal

abbrev pub invariant-loop-track : goal.invariant-loop-track
invariant-loop-track l = l.bytes.items ≡ l.initial.bytes.items ++ tracks_bytes l.marks (take l.track-index l.tracks)
