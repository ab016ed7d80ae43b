use Rattle.std.proofs.Common.{◌≡◌, ℕ, length, List, Option, ap, sym, subst, ◌∙◌}
use Rattle.std.specs.Prelude.{IfSome}
use Rattle.recordings.specs.declared.recording.CpuTrack.{CpuTrack}
use Rattle.bt_io.specs.Parts.{joined}
use Rattle.rec_format.specs.Parted.{HasPartedTracks, shared_bytes}
use Rattle.rec_format.proofs.PartedLaws.{parted_all}
use Rattle.rec_format.proofs.parted.read_parted.Goals as goal

pub returns : goal.returns
returns g c =
    let front = c.in-Some-read_front.front in
    let others = c.in-Some.others.now in
    let same = c.as_slice.ensures.value ∙ ap (λ v. v.items) c.deref.ensures in
    let tracks = subst (λ (some : Option (List CpuTrack)). IfSome some (HasPartedTracks front (length others) (joined (shared_bytes others)))) c.in-Some-2.is c.in_ok-cpus.ensures in
    parted_all c.args.parts.now others c.in-Some.first.now c.as_slice.result.now front c.in-Some-2.cpus c.into_formats.result c.in-Some.ensures.cases.0 same
    c.in-Some-read_front.ensures c.if-front-others.false tracks c.into_formats.ensures
