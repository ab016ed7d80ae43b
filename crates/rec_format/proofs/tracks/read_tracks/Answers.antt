use Rattle.std.proofs.Common.{◌≡◌, ℕ, ◌+◌, List, length, ap, sym, subst, ◌∙◌, arith}
use Rattle.std.proofs.lemmas.Result.{err_from_is_err_and}
use Rattle.rec_format.specs.Heads.{cpu_part}
use Rattle.recordings.specs.declared.recording.Entry.{Entry}
use Rattle.recordings.specs.Entries.{HasEntries}
use Rattle.recordings.specs.EntryParts.{entries}
use Rattle.recordings.specs.InFile.{entries_in}
use Rattle.recordings.specs.Parts.{cpu_bytes}
use Rattle.recordings.specs.Recordings.{tracks_bytes}
use Rattle.recordings.proofs.Fields.{IsBytes}
use Rattle.rec_format.proofs.InFileLaws.{rest_more}
use Rattle.rec_format.proofs.Lists.{suffix_fits}
use Rattle.rec_format.proofs.HeadLaws.{cpu_reads}
use Rattle.rec_format.proofs.LoopLaws.{Counts, track_next, cpu_cut, cpu_refused, track_fails}
use Rattle.rec_format.proofs.tracks.read_tracks.Goals as goal

pub returns-in_default : goal.returns-in_default
returns-in_default c = λ _. cpu_cut c.args.setting.now.marks (length c.args.setting.now.file.now) c.args.setting.now.formats.now c.args.setting.now.start c.args.setting.now.end c.args.count c.loop-place.place c.args.bytes.now c.loop-place.rest.now c.loop-place.cpus
    c.loop-place-test.true c.loop-place.invariant.has (sym c.in_default.ensures)

pub returns-in-Some-cpu_fault : goal.returns-in-Some-cpu_fault
returns-in-Some-cpu_fault c =
    let fits : IsBytes c.args.bytes.now = λ i. omega (arith, c.type_inv.bytes i) in
    λ _. cpu_refused c.args.setting.now.marks (length c.args.setting.now.file.now) c.args.setting.now.formats.now c.args.setting.now.start c.args.setting.now.end c.args.count c.loop-place.place c.loop-place.least c.loop-place.announced
    c.args.bytes.now c.loop-place.rest.now c.in-Some.after.now c.loop-place.cpus (cpu_part c.in-Some.head) c.in-Some-cpu_fault.fault fits c.loop-place-test.true c.loop-place.invariant.has c.loop-place.invariant.counts
    (sym c.in-Some.ensures) (sym c.in-Some-cpu_fault.ensures)

pub read_entries-requires : goal.read_entries-requires
read_entries-requires c =
    let s = c.args.setting.now in
    let fits : IsBytes c.args.bytes.now = λ i. omega (arith, c.type_inv.bytes i) in
    let rest = rest_more s.file.now c.args.bytes.now (tracks_bytes s.marks c.loop-place.cpus) c.loop-place.rest.now c.requires.suffix c.loop-place.invariant.has.spelled in
    let taken = cpu_reads.takes c.loop-place.rest.now (cpu_part c.in-Some.head) c.in-Some.after.now (suffix_fits (tracks_bytes s.marks c.loop-place.cpus) c.loop-place.rest.now c.args.bytes.now c.loop-place.invariant.has.spelled fits) (sym c.in-Some.ensures) in
    rest_more s.file.now c.loop-place.rest.now (cpu_bytes (cpu_part c.in-Some.head)) c.in-Some.after.now rest taken.0.parts

pub returns-in_err-places : goal.returns-in_err-places
returns-in_err-places c =
    let fits : IsBytes c.args.bytes.now = λ i. omega (arith, c.type_inv.bytes i) in
    let p = err_from_is_err_and c.from_residual.result c.from_residual.ensures.1 in
    rw (p.1, p.2) (λ other. track_fails c.args.setting.now.marks (length c.args.setting.now.file.now) c.args.setting.now.formats.now c.args.setting.now.start c.args.setting.now.end c.args.count c.loop-place.place c.loop-place.least c.loop-place.announced
    c.args.bytes.now c.loop-place.rest.now c.in-Some.after.now c.loop-place.cpus (cpu_part c.in-Some.head) c.in_err-places.field-0.0 fits c.loop-place-test.true c.loop-place.invariant.has c.loop-place.invariant.counts
    (sym c.in-Some.ensures) (sym c.in_default-cpu_fault.ensures) (c.in_err-places.ensures other))

pub loop-place-preserved : goal.loop-place-preserved
loop-place-preserved c =
    let fits : IsBytes c.args.bytes.now = λ i. omega (arith, c.type_inv.bytes i) in
    let s = c.args.setting.now in
    let lie : c.in_ok-entries.entries ≡ entries_in s.file.now c.in_ok-places.places.items = c.in_ok-entries.ensures ∙ ap (λ (file : List ℕ). entries_in file c.in_ok-places.places.items) (sym c.requires.whole) in
    let stand = subst (λ (es : List Entry). HasEntries (entries s.marks) s.formats.now s.start s.end c.in-Some.head.entries c.in-Some.after.now es c.in_ok-places.after.now) (sym lie) c.in_ok-places.ensures in
    let next = track_next s.marks s.formats.now s.start s.end c.loop-place.place c.loop-place.least c.loop-place.announced
    c.args.bytes.now c.loop-place.rest.now c.in-Some.after.now c.in_ok-places.after.now c.loop-place.cpus c.push.new.self c.in_ok-entries.entries (cpu_part c.in-Some.head) fits c.loop-place.invariant.has c.loop-place.invariant.counts
    (sym c.in-Some.ensures) (sym c.in_default-cpu_fault.ensures) stand c.in_ok-push.ensures.ok in
    record { has = next.0; counts = subst (λ (n : ℕ). Counts c.push.new.self (n + 1) (c.loop-place.announced + c.in-Some.head.entries)) (sym c.from-least.ensures) next.1 }
