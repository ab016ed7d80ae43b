use Rattle.std.proofs.Common.{◌≡◌, ℕ, List, Option, Some, Ok, Vec, Global, ap, subst, ◌∙◌}
use Rattle.std.specs.Prelude.{IfSome}
use Rattle.std.specs.declared.sync.Arc.{Arc}
use Rattle.bt_io.specs.Parts.{joined}
use Rattle.recordings.specs.declared.recording.Recording.{Recording}
use Rattle.rec_format.specs.Parted.{IsParted, shared_bytes}
use Rattle.rec_format.proofs.UniqueLaws.{answer_only, answer_refused}
use Rattle.rec_format.proofs.reading.read_recording_on_threads.Goals as goal

pub returns-then-len-lt2-clause-fault : goal.returns-then-len-lt2-clause-fault
returns-then-len-lt2-clause-fault g c = rw (← c.in_ok-into_one.ensures) c.read_recording.ensures.fault

pub returns-then-len-lt2-clause-refused : goal.returns-then-len-lt2-clause-refused
returns-then-len-lt2-clause-refused g c = rw (← c.in_ok-into_one.ensures) c.read_recording.ensures.refused

-- the bytes of the files are those of the parts
same_bytes : (files : List (Arc (Vec ℕ Global) Global)) (slice : List (Arc (Vec ℕ Global) Global)) (parts : List (List ℕ)) → slice ≡ files → shared_bytes files ≡ parts
    → joined (shared_bytes slice) ≡ joined parts
same_bytes files slice parts whole same = ap (λ (l : List (Arc (Vec ℕ Global) Global)). joined (shared_bytes l)) whole ∙ ap joined same

-- what was read of the files is of the parts
parted_of : (bytes whole : List ℕ) (read : Option Recording) (recording : Recording) → bytes ≡ whole → read ≡ Some recording → IfSome read (IsParted bytes) → IsParted whole recording
parted_of bytes whole read recording same some is =
    subst (λ (l : List ℕ). IsParted l recording) same (subst (λ (r : Option Recording). IfSome r (IsParted bytes)) some is)

pub returns-in-Some-clause-only : goal.returns-in-Some-clause-only
returns-in-Some-clause-only g c =
    let same = same_bytes c.in_ok-files.files.items c.as_slice.result.now c.args.parts.items c.as_slice.ensures.value c.in_ok-files.ensures in
    let is = parted_of _ _ c.in_ok-recording.field-0 c.in-Some.recording same c.in-Some.is c.in_ok-recording.ensures in
    answer_only (joined c.args.parts.items) (Ok c.in-Some.recording) is.held is.spelled

pub returns-in-Some-clause-refused : goal.returns-in-Some-clause-refused
returns-in-Some-clause-refused g c =
    let same = same_bytes c.in_ok-files.files.items c.as_slice.result.now c.args.parts.items c.as_slice.ensures.value c.in_ok-files.ensures in
    let is = parted_of _ _ c.in_ok-recording.field-0 c.in-Some.recording same c.in-Some.is c.in_ok-recording.ensures in
    answer_refused (joined c.args.parts.items) (Ok c.in-Some.recording) is.held is.spelled

pub returns-clause-fault : goal.returns-clause-fault
returns-clause-fault g c =
    let same = c.in_ok-whole-in-None.ensures
    ∙ same_bytes c.in_ok-files.files.items c.as_slice-in-None.result.now c.args.parts.items c.as_slice-in-None.ensures.value c.in_ok-files.ensures in
    rw (← same) c.read_recording-in-None.ensures.fault

pub returns-clause-refused : goal.returns-clause-refused
returns-clause-refused g c =
    let same = c.in_ok-whole-in-None.ensures
    ∙ same_bytes c.in_ok-files.files.items c.as_slice-in-None.result.now c.args.parts.items c.as_slice-in-None.ensures.value c.in_ok-files.ensures in
    rw (← same) c.read_recording-in-None.ensures.refused
