use Rattle.std.proofs.Common.{Bool, List, sym, subst}
use Rattle.std.specs.List.{AllByRecursion}
use Rattle.recordings.specs.declared.recording.CpuTrack.{CpuTrack}
use Rattle.recordings.specs.declared.recording.Recording.{Recording}
use Rattle.recordings.specs.Checks.{has_marks}
use Rattle.rec_format.specs.Answers.{CanWriteTrack}
use Rattle.rec_format.proofs.WriteLaws.{tracks_writable}
use Rattle.rec_format.proofs.writing.write_recording.Goals as goal

pub push_tracks-requires : goal.push_tracks-requires
push_tracks-requires c =
    let r : Recording = c.args.recording.now in
    let all : AllByRecursion (CanWriteTrack (has_marks r.version)) r.cpus = tracks_writable (has_marks r.version) r.formats r.start r.end r.cpus c.requires.cpus.each c.requires.cpus.few in
    subst (λ (marks : Bool). AllByRecursion (CanWriteTrack marks) c.as_slice-2.result.now) (sym c.has_marks-marks.ensures)
    (subst (λ (cs : List CpuTrack). AllByRecursion (CanWriteTrack (has_marks r.version)) cs) (sym c.as_slice-2.ensures) all)
