use Rattle.std.proofs.Common.{◌≡◌, ℕ, List, ◌++◌, ◌<◌, length, get_or, None, Some, Option, ap, sym, ◌∙◌, arith}
use Rattle.std.specs.List.{slice_get}
use Rattle.std.proofs.lemmas.List.{take_all}
use Rattle.std.proofs.lemmas.Option.{get_or_from_slice_get, slice_get-get_or}
use Rattle.recordings.specs.declared.recording.Entry.{Entry}
use Rattle.recordings.specs.declared.recording.Entry.TheVariants as entry
use Rattle.event_layout.proofs.Lists.{all_at}
use Rattle.recordings.specs.Entries.{entries_bytes}
use Rattle.recordings.specs.EntryParts.{part_of_entry, IsEntryPart, entry_bytes, entries}
use Rattle.recordings.specs.InFile.{entry_seen}
use Rattle.rec_format.proofs.WriteLaws.{written_more}
use Rattle.rec_format.proofs.writing.push_entries.Goals as goal
use Rattle.rec_format.proofs.writing.push_entries.Goals.{in-Some+in_ok-push_entry, in_default}

pub push_entry-requires : goal.push_entry-requires
push_entry-requires c =
    all_at (λ (e : Entry). IsEntryPart c.args.marks (part_of_entry e)) c.args.entries.now c.loop-place.place (entry_seen c.in-Some.entry) c.requires (sym c.in-Some.ensures)

pub returns : goal.returns
returns c =
    c.loop-place.invariant
    ∙ ap (λ (l : List Entry). c.args.bytes.now.items ++ entries_bytes (entries c.args.marks) l) (take_all c.loop-place.place c.args.entries.now (omega (arith, c.loop-place-test.false, c.len-place-end.ensures)))

pub loop-place-preserved : goal.loop-place-preserved
loop-place-preserved c =
    let es : List Entry = c.args.entries.now in
    let place : ℕ = c.loop-place.place in
    let lt : place < length es = omega (arith, c.loop-place-test.true, c.len-place-end.ensures) in
    elim c.match-get.branch [
      | in-Some+in_ok-push_entry w ↦
          let e : Entry = entry_seen w.in-Some.entry in
          let is : e ≡ get_or es place e = sym (get_or_from_slice_get es place e e (sym w.in-Some.ensures)) in
          written_more (λ (e : Entry). entry_bytes c.args.marks (part_of_entry e)) es place e c.args.bytes.now.items c.loop-place.bytes.items c.match-get.bytes.items lt is c.loop-place.invariant
          (ap (λ v. v.items) w.bytes-is ∙ w.in_ok-push_entry.ensures)
      | in_default w ↦
          let there : slice_get es place ≡ Some _ = slice_get-get_or es place (entry.Lost 0 0) lt in
          let clash : ◌≡◌ {A = Option Entry} None (Some _) = w.in_default.ensures ∙ there in
          absurd cc
    ]
