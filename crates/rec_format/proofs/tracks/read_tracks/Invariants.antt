use Rattle.rec_format.specs.Faults.{HasTracks}
use Rattle.rec_format.proofs.LoopLaws.{Counts}
use Rattle.rec_format.proofs.tracks.read_tracks.Given as goal

abbrev pub invariant-loop-place : goal.invariant-loop-place
invariant-loop-place l = record {
  has : HasTracks l.setting.marks l.setting.formats.now l.setting.start l.setting.end l.place l.bytes l.cpus l.rest;
  counts : Counts l.cpus l.least l.announced;
}
