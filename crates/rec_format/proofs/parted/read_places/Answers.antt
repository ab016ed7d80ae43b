use Rattle.std.proofs.Common.{◌≡◌, ℕ, Bool, sym, subst, arith}
use Rattle.recordings.specs.Entries.{HasEntries}
use Rattle.recordings.specs.EntryParts.{entries}
use Rattle.recordings.specs.InFile.{entries_in}
use Rattle.recordings.specs.Parts.{cpu_bytes}
use Rattle.recordings.specs.Checks.{has_marks}
use Rattle.recordings.proofs.Fields.{IsBytes}
use Rattle.recordings.proofs.Left.{nothing_left}
use Rattle.rec_format.specs.Heads.{cpu_part}
use Rattle.rec_format.proofs.HeadLaws.{cpu_reads}
use Rattle.rec_format.proofs.InFileLaws.{rest_more, whole_rest}
use Rattle.rec_format.proofs.PartedLaws.{track_part}
use Rattle.rec_format.proofs.parted.read_places.Goals as goal

pub read_entries-requires : goal.read_entries-requires
read_entries-requires c =
    let bytes = c.args.bytes.now in
    let fits : IsBytes bytes = λ i. omega (arith, c.type_inv.bytes i) in
    let taken = cpu_reads.takes bytes (cpu_part c.in-Some.head) c.in-Some.after.now fits (sym c.in-Some.ensures) in
    rest_more bytes bytes (cpu_bytes (cpu_part c.in-Some.head)) c.in-Some.after.now (whole_rest bytes) taken.0.parts

pub returns : goal.returns
returns c =
    let bytes = c.args.bytes.now in
    let front = c.args.front.now in
    let fits : IsBytes bytes = λ i. omega (arith, c.type_inv.bytes i) in
    let stand : HasEntries (entries (has_marks front.version)) front.formats front.start front.end c.in-Some.head.entries c.in-Some.after.now (entries_in bytes c.in-Ok.places.items) c.in-Ok.rest.now =
    subst (λ (m : Bool). HasEntries (entries m) front.formats front.start front.end c.in-Some.head.entries c.in-Some.after.now (entries_in bytes c.in-Ok.places.items) c.in-Ok.rest.now) c.has_marks.ensures c.in-Ok.ensures in
    let told = track_part (has_marks front.version) front.formats front.start front.end bytes c.in-Some.after.now c.in-Ok.rest.now (cpu_part c.in-Some.head) (entries_in bytes c.in-Ok.places.items)
    fits (sym c.in-Some.ensures) stand (nothing_left c.in-Ok.rest.now c.if-not-is_empty.ensures) in
    record { spelled = told.0; is = told.1; held = fits }
