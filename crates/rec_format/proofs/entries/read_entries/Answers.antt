use Rattle.std.proofs.Common.{List, length, ◌-◌, sym, ap, ◌∙◌, arith}
use Rattle.std.proofs.lemmas.Result.{err_from_is_err_and}
use Rattle.recordings.specs.declared.recording.Entry.{Entry}
use Rattle.recordings.specs.Entries.{entries_bytes}
use Rattle.recordings.specs.EntryParts.{EntryPart, entries}
use Rattle.recordings.specs.Fronts.{entry_part}
use Rattle.recordings.specs.InFile.{entry_in, entries_in}
use Rattle.recordings.proofs.Fields.{IsBytes}
use Rattle.rec_format.proofs.EntryLaws.{entry_next, entry_cut, entry_refused, first_passes}
use Rattle.rec_format.proofs.KindLaws.{entry_made, readable}
use Rattle.rec_format.proofs.InFileLaws.{rest_more, entry_lies, entries_more}
use Rattle.rec_format.proofs.entries.read_entries.Goals as goal

pub returns-in_default : goal.returns-in_default
returns-in_default c =
    let s = c.args.setting.now in
    λ _. entry_cut (entries s.marks) (readable s.marks) (length s.file.now) s.formats.now s.start s.end c.args.cpu c.args.count c.loop-place.place c.args.bytes.now c.loop-place.rest.now (entries_in s.file.now c.loop-place.places.items)
    c.loop-place-test.true c.loop-place.invariant.has (sym c.in_default.ensures)

pub returns-in_err-format : goal.returns-in_err-format
returns-in_err-format c =
    let s = c.args.setting.now in
    let fits : IsBytes c.args.bytes.now = λ i. omega (arith, c.type_inv.bytes i) in
    let p = err_from_is_err_and c.from_residual-in_err-format.result c.from_residual-in_err-format.ensures.1 in
    rw (p.1, p.2) (λ other. entry_refused (entries s.marks) (readable s.marks) (length s.file.now) s.formats.now s.start s.end c.args.cpu c.args.count c.loop-place.place c.loop-place.earliest
    c.args.bytes.now c.loop-place.rest.now c.in-Some.after.now (entries_in s.file.now c.loop-place.places.items) (entry_part c.in-Some.entry) c.in_err-format.field-0.0 fits c.loop-place-test.true c.loop-place.invariant.has c.loop-place.invariant.time
    (sym c.in-Some.ensures) (sym c.in_err-format.ensures.checked))

pub loop-place-preserved : goal.loop-place-preserved
loop-place-preserved c =
    let s = c.args.setting.now in
    let part : EntryPart = entry_part c.in-Some.entry in
    let es : List Entry = entries_in s.file.now c.loop-place.places.items in
    let fits : IsBytes c.args.bytes.now = λ i. omega (arith, c.type_inv.bytes i) in
    let rest = rest_more s.file.now c.args.bytes.now (entries_bytes (entries s.marks) es) c.loop-place.rest.now c.requires c.loop-place.invariant.has.spelled in
    let first = first_passes (entries s.marks) s.formats.now c.loop-place.earliest s.end c.args.cpu c.loop-place.place part (sym c.in_ok-format.ensures.checked) in
    let lies = entry_lies s.marks s.file.now c.loop-place.rest.now c.in-Some.after.now (length s.file.now - length c.loop-place.rest.now) c.in_ok-format.format c.args.cpu c.loop-place.place s.formats.now part rest (sym c.in-Some.ensures)
    c.in_ok-format.ensures.accepted first in
    let added = entries_more s.file.now c.loop-place.places.items c.push.new.self.items c.in_ok-lies.lies (entry_made s.formats.now part) c.in_ok-push.ensures.items (ap (entry_in s.file.now) c.in_ok-lies.ensures.place ∙ lies) in
    let next = entry_next (entries s.marks) (readable s.marks) s.formats.now s.start s.end c.args.cpu c.loop-place.place c.loop-place.earliest
    c.args.bytes.now c.loop-place.rest.now c.in-Some.after.now es (entries_in s.file.now c.push.new.self.items) part fits c.loop-place.invariant.has c.loop-place.invariant.time
    (sym c.in-Some.ensures) (sym c.in_ok-format.ensures.checked) added in
    record { has = next.0; time = c.time_of-earliest.ensures ∙ next.1 }
