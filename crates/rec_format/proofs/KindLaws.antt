-- Entries, where there may be marks of lost events and where there may not: how they are read, and that they make a kind.
use Rattle.std.proofs.Common.{◌≡◌, ℕ, ◌<◌, ◌^◌, Bool, true, false, cond, Option, Some, None, List, [], ◌∷◌, ◌++◌, refl, ap, sym, subst, ◌∙◌, append_assoc}
use Rattle.std.specs.Prelude.{nat_eq}
use Rattle.std.specs.Int.{w64, to_le_bytes}
use Rattle.std.specs.Option.{option_map}
use Rattle.std.proofs.lemmas.Option.{same_Some}
use Rattle.std.proofs.lemmas.Bool.{eqb-true}
use Rattle.event_layout.specs.declared.format.Format.{Format}
use Rattle.recordings.specs.declared.error.RecordingError.{RecordingError}
use Rattle.recordings.specs.declared.error.RecordingError.TheVariants as fault
use Rattle.recordings.specs.declared.recording.Entry.{Entry}
use Rattle.recordings.specs.declared.recording.Entry.TheVariants as entry
use Rattle.recordings.specs.Parts.{EventPart, event_bytes}
use Rattle.recordings.specs.Fronts.{number_at, event_at, mark_at}
use Rattle.rec_format.specs.Heads.{plain_at, tagged_at, entry_at}
use Rattle.recordings.specs.Recordings.{AreFormats}
use Rattle.recordings.specs.EntryParts.{EntryPart, Occurs, Misses, Unknown, part_of_entry, IsEntryPart, entry_bytes, tag_fault, part_fault, IsEntry, entries}
use Rattle.recordings.proofs.Fields.{IsBytes, bind_some, Takes, Takes-then, wide64, number_takes, number_again}
use Rattle.rec_format.proofs.Lists.{suffix_fits}
use Rattle.recordings.proofs.PartLaws.{Reads, event_reads, bind_to}
use Rattle.rec_format.proofs.EntryLaws.{IsReadable}
use Rattle.rec_format.proofs.EventLaws.{event_made, faultless, event_fine, event_again}

-- ---- reading

-- a byte in front of what was taken
one_before : (tag : ℕ) (bytes text rest : List ℕ) → Takes bytes text rest → Takes (tag ∷ bytes) (tag ∷ text) rest
one_before tag bytes text rest t = record { parts = ap (λ (l : List ℕ). tag ∷ l) t.parts; rest_fits = t.rest_fits }

pub mapped_some : (o : Option (EventPart × List ℕ)) (part : EntryPart) (rest : List ℕ) → option_map {U = EntryPart × List ℕ} (λ (p : EventPart × List ℕ). (Occurs p.0, p.1)) o ≡ Some (part, rest) →
    (e : EventPart) × (o ≡ Some (e, rest)) × (part ≡ Occurs e)
mapped_some None part rest h = absurd cc
mapped_some (Some p) part rest h =
    let same : (Occurs p.0, p.1) ≡ (part, rest) = same_Some (Occurs p.0, p.1) (part, rest) h in
    (p.0, ap (λ (r : List ℕ). Some (p.0, r)) (ap (λ (q : EntryPart × List ℕ). q.1) same), sym (ap (λ (q : EntryPart × List ℕ). q.0) same))

mark_takes : (bytes : List ℕ) (part : EntryPart) (rest : List ℕ) → IsBytes bytes → mark_at bytes ≡ Some (part, rest) → Takes (1 ∷ bytes) (entry_bytes true part) rest × IsEntryPart true part
unfolding mark_at
mark_takes bytes part rest fits e =
    let a = bind_some (number_at w64 bytes) _ (part, rest) e in
    let b = bind_some (number_at w64 a.0.1) _ (part, rest) a.2 in
    let same : (Misses a.0.0 b.0.0, b.0.1) ≡ (part, rest) = same_Some (Misses a.0.0 b.0.0, b.0.1) (part, rest) b.2 in
    let time = number_takes w64 wide64 bytes a.0.0 a.0.1 fits a.1 in
    let count = number_takes w64 wide64 a.0.1 b.0.0 b.0.1 time.0.rest_fits b.1 in
    let both = Takes-then bytes (to_le_bytes w64 a.0.0) a.0.1 (to_le_bytes w64 b.0.0) b.0.1 time.0 count.0 in
    subst (λ (q : EntryPart × List ℕ). Takes (1 ∷ bytes) (entry_bytes true q.0) q.1 × IsEntryPart true q.0) same (one_before 1 bytes _ _ both, (time.1, count.1))

tail_fits : (tag : ℕ) (bytes : List ℕ) → IsBytes (tag ∷ bytes) → IsBytes bytes
tail_fits tag bytes fits = suffix_fits (tag ∷ []) bytes (tag ∷ bytes) refl fits

tagged_takes : (tag : ℕ) (bytes : List ℕ) (part : EntryPart) (rest : List ℕ) → IsBytes bytes → tagged_at tag bytes ≡ Some (part, rest) → Takes (tag ∷ bytes) (entry_bytes true part) rest × IsEntryPart true part
tagged_takes tag bytes part rest fits =
    (elim (nat_eq tag 0) as (λ b. nat_eq tag 0 ≡ b → cond b (option_map {U = EntryPart × List ℕ} (λ (p : EventPart × List ℕ). (Occurs p.0, p.1)) (event_at bytes)) (cond (nat_eq tag 1) (mark_at bytes) (Some (Unknown tag, bytes))) ≡ Some (part, rest)
    → Takes (tag ∷ bytes) (entry_bytes true part) rest × IsEntryPart true part) [
      | true ↦ λ zero h.
          let m = mapped_some (event_at bytes) part rest h in
          let t = event_reads.takes bytes m.0 rest fits m.1 in
          let is : tag ≡ 0 = eqb-true tag 0 zero in
          subst (λ (q : EntryPart). Takes (tag ∷ bytes) (entry_bytes true q) rest × IsEntryPart true q) (sym m.2)
          (subst (λ (n : ℕ). Takes (n ∷ bytes) (0 ∷ event_bytes m.0) rest) (sym is) (one_before 0 bytes _ _ t.0), t.1)
      | false ↦ λ none.
          (elim (nat_eq tag 1) as (λ b. nat_eq tag 1 ≡ b → cond b (mark_at bytes) (Some (Unknown tag, bytes)) ≡ Some (part, rest) → Takes (tag ∷ bytes) (entry_bytes true part) rest × IsEntryPart true part) [
            | true ↦ λ one h.
                let t = mark_takes bytes part rest fits h in
                subst (λ (n : ℕ). Takes (n ∷ bytes) (entry_bytes true part) rest × IsEntryPart true part) (sym (eqb-true tag 1 one)) t
            | false ↦ λ other h.
                let same : (Unknown tag, bytes) ≡ (part, rest) = same_Some (Unknown tag, bytes) (part, rest) h in
                subst (λ (q : EntryPart × List ℕ). Takes (tag ∷ bytes) (entry_bytes true q.0) q.1 × IsEntryPart true q.0) same (record { parts = refl; rest_fits = fits }, (none, other))
          ]) refl
    ]) refl

plain_takes : (bytes : List ℕ) (part : EntryPart) (rest : List ℕ) → IsBytes bytes → plain_at bytes ≡ Some (part, rest) → Takes bytes (entry_bytes false part) rest × IsEntryPart false part
plain_takes bytes part rest fits h =
    let m = mapped_some (event_at bytes) part rest h in
    subst (λ (q : EntryPart). Takes bytes (entry_bytes false q) rest × IsEntryPart false q) (sym m.2) (event_reads.takes bytes m.0 rest fits m.1)

entry_takes : (marks : Bool) (bytes : List ℕ) (part : EntryPart) (rest : List ℕ) → IsBytes bytes → entry_at marks bytes ≡ Some (part, rest) → Takes bytes (entry_bytes marks part) rest × IsEntryPart marks part
entry_takes true [] part rest fits h = absurd cc
entry_takes true (tag ∷ bytes) part rest fits h = tagged_takes tag bytes part rest (tail_fits tag bytes fits) h
entry_takes false bytes part rest fits h = plain_takes bytes part rest fits h

mark_again : (time count : ℕ) (rest : List ℕ) → time < 2 ^ 64 → count < 2 ^ 64 → mark_at ((to_le_bytes w64 time ++ to_le_bytes w64 count) ++ rest) ≡ Some (Misses time count, rest)
unfolding mark_at
mark_again time count rest t c =
    let r1 : List ℕ = to_le_bytes w64 count ++ rest in
    ap mark_at (append_assoc (to_le_bytes w64 time) (to_le_bytes w64 count) rest)
    ∙ bind_to (number_at w64 (to_le_bytes w64 time ++ r1)) _ (time, r1) _ (number_again w64 wide64 time r1 t)
    (bind_to (number_at w64 r1) _ (count, rest) _ (number_again w64 wide64 count rest c) refl)

entry_again : (marks : Bool) (part : EntryPart) (rest : List ℕ) → IsEntryPart marks part → entry_at marks (entry_bytes marks part ++ rest) ≡ Some (part, rest)
entry_again true (Occurs e) rest is = ap (option_map {U = EntryPart × List ℕ} (λ (p : EventPart × List ℕ). (Occurs p.0, p.1))) (event_reads.again e rest is)
entry_again false (Occurs e) rest is = ap (option_map {U = EntryPart × List ℕ} (λ (p : EventPart × List ℕ). (Occurs p.0, p.1))) (event_reads.again e rest is)
entry_again true (Misses time count) rest is = mark_again time count rest is.0 is.1
entry_again false (Misses time count) rest is = absurd is
entry_again true (Unknown tag) rest is =
    ap (λ b. cond b (plain_at rest) (cond (nat_eq tag 1) (mark_at rest) (Some (Unknown tag, rest)))) is.0
    ∙ ap (λ b. cond b (mark_at rest) (Some (Unknown tag, rest))) is.1
entry_again false (Unknown tag) rest is = absurd is

pub entry_reads : (marks : Bool) → Reads (entry_at marks) (IsEntryPart marks) (entry_bytes marks)
entry_reads marks = record { takes = entry_takes marks; again = entry_again marks }

-- ---- the kind

abbrev pub entry_made : List Format → EntryPart → Entry
entry_made formats (Occurs e) = entry.Event (event_made formats e)
entry_made formats (Misses time count) = entry.Lost time count
entry_made formats (Unknown tag) = entry.Lost 0 0

pub entry_spells : (formats : List Format) (cpu place : ℕ) (part : EntryPart) → tag_fault cpu place part ≡ None → part_of_entry (entry_made formats part) ≡ part
entry_spells formats cpu place (Occurs e) h = refl
entry_spells formats cpu place (Misses time count) h = refl
entry_spells formats cpu place (Unknown tag) h = absurd cc

pub entry_is_again : (marks : Bool) (formats : List Format) (e : Entry) → AreFormats formats → IsEntry marks formats e → entry_made formats (part_of_entry e) ≡ e
entry_is_again marks formats (entry.Event e) pass is = ap (λ x. entry.Event x) (event_again formats e pass is)
entry_is_again marks formats (entry.Lost time count) pass is = refl

pub entry_whole : (marks : Bool) (formats : List Format) (e : Entry) → IsEntry marks formats e → IsEntryPart marks (part_of_entry e)
entry_whole marks formats (entry.Event e) is = is.whole
entry_whole true formats (entry.Lost time count) is = (is.0, is.1)
entry_whole false formats (entry.Lost time count) is = is

pub entry_first : (marks : Bool) (formats : List Format) (cpu place : ℕ) (e : Entry) → IsEntry marks formats e → tag_fault cpu place (part_of_entry e) ≡ None
entry_first marks formats cpu place (entry.Event e) is = refl
entry_first marks formats cpu place (entry.Lost time count) is = refl

pub entry_faultless : (marks : Bool) (formats : List Format) (cpu place : ℕ) (e : Entry) → AreFormats formats → IsEntry marks formats e → part_fault formats cpu place (part_of_entry e) ≡ None
entry_faultless marks formats cpu place (entry.Event e) pass is = faultless formats cpu place e pass is
entry_faultless true formats cpu place (entry.Lost time count) pass is = ap (λ b. cond b (Some (fault.EmptyMark cpu place)) None) is.2
entry_faultless false formats cpu place (entry.Lost time count) pass is = absurd is

no_fault : (b : Bool) (e : RecordingError) → cond b (Some e) None ≡ None → b ≡ false
no_fault true e h = absurd cc
no_fault false e h = refl

pub entry_fine : (marks : Bool) (formats : List Format) (cpu place : ℕ) (part : EntryPart) (after : List ℕ) → IsEntryPart marks part → IsBytes (entry_bytes marks part ++ after) → tag_fault cpu place part ≡ None
    → part_fault formats cpu place part ≡ None → IsEntry marks formats (entry_made formats part)
entry_fine true formats cpu place (Occurs e) after whole fits first none = event_fine formats cpu place e after whole (tail_fits 0 (event_bytes e ++ after) fits) none
entry_fine false formats cpu place (Occurs e) after whole fits first none = event_fine formats cpu place e after whole fits none
entry_fine true formats cpu place (Misses time count) after whole fits first none = (whole.0, whole.1, no_fault (nat_eq count 0) (fault.EmptyMark cpu place) none)
entry_fine false formats cpu place (Misses time count) after whole fits first none = whole
entry_fine marks formats cpu place (Unknown tag) after whole fits first none = absurd cc

abbrev pub readable : (marks : Bool) → IsReadable (entries marks)
readable marks = record {
  read = entry_at marks;
  reads = entry_reads marks;
  made = entry_made;
  spells = entry_spells;
  again = entry_is_again marks;
  whole = entry_whole marks;
  faultless_first = entry_first marks;
  faultless = entry_faultless marks;
  fine = entry_fine marks;
}
