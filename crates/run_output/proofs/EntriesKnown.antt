-- The entries of a CPU lie in bytes, as the type of the file says, so that what they have of bytes are bytes.
use Rattle.std.proofs.Common.{ℕ, suc, ◌^◌, ◌<◌, List, [], ◌∷◌, ◌++◌, length, drop, Option, Some, None, inl, inr, refl, subst, arith, ◌≡◌}
use Rattle.std.specs.List.{AllByRecursion}
use Rattle.std.specs.Int.{w32, w64, to_le_bytes}
use Rattle.std.proofs.lemmas.Bool.{cases_lt}
use Rattle.std.proofs.lemmas.List.{take_at, drop_at, get_or_past}
use mir.Syntax.{w8}
use denote.Plain.{UInt}
use denote.Known.{All, Known, nothing_known, uint_known, declared_known, view_known}
use Rattle.std.specs.formers.vec.Vec as vec
use Rattle.std.specs.contracts.alloc.Global as heap
use Rattle.std.specs.contracts.impls.GlobalAllocator.TheImpl.{ghosts}
use Rattle.std.specs.contracts.sync.Arc as arc
use Rattle.std.specs.contracts.vec.Vec as bytes
use Rattle.recordings.specs.contracts.entries.Entries as C
use Rattle.recordings.specs.contracts.entries.Entries.TheInside as I
use Rattle.recordings.specs.declared.entries.Entries as D
use Rattle.recordings.specs.declared.entries.Entries.TheView.{view, invariant}
use Rattle.recordings.specs.declared.recording.Entry.{Entry}
use Rattle.recordings.specs.declared.entries.EntryPlace.{EntryPlace}
use Rattle.recordings.specs.declared.entries.EntryPlace.TheVariants as place
use Rattle.recordings.specs.EntryParts.{EntryPart, Occurs, Misses, Unknown}
use Rattle.recordings.specs.Fronts.{event_at}
use Rattle.recordings.specs.InFile.{event_taken, mark_of, mark_taken, entry_in, entries_in}
use Rattle.recordings.specs.Parts.{EventPart, event_bytes, sized_bytes}
use Rattle.recordings.specs.Places.{IsHeldEntry}
use Rattle.recordings.proofs.Fields.{IsBytes, IsBytes-drop, IsBytes-take}
use Rattle.recordings.proofs.PartLaws.{event_reads}
use Rattle.run_output.proofs.ArcKnown.{arc_known}

abbrev file_known : Known (arc.the_row (bytes.the_row (UInt w8) heap.the_row ghosts) heap.the_row ghosts)
file_known = arc_known (bytes.the_row (UInt w8) heap.the_row ghosts) heap.the_row ghosts (vec.the_facts (UInt w8) heap.the_row ghosts (uint_known w8) (nothing_known heap.the_row))

abbrev inside : Known I.the_row
inside = declared_known I.the_type (file_known, (nothing_known _, tt))

abbrev pub entries_known : Known C.the_row
entries_known = view_known I.the_row inside D.Entries D.the_code view invariant

-- ---- the bytes of an entry are bytes of its file

file_bytes : (file : List ℕ) → All (λ (b : ℕ). b < 2 ^ 8) file → IsBytes file
file_bytes file f i = elim (cases_lt i (length file)) [
  | inl lt ↦ f i 0 lt
  | inr le ↦ rw (get_or_past file i 0 le) (omega arith)
]

each_byte : (bytes : List ℕ) → IsBytes bytes → AllByRecursion (λ b. b < 256) bytes
each_byte [] f = tt
each_byte (b ∷ bs) f = (f 0, each_byte bs (λ i. f (suc i)))

front_bytes : (front back : List ℕ) → IsBytes (front ++ back) → IsBytes front
front_bytes front back f = subst IsBytes (take_at front back (length front) refl) (IsBytes-take (length front) (front ++ back) f)

back_bytes : (front back : List ℕ) → IsBytes (front ++ back) → IsBytes back
back_bytes front back f = subst IsBytes (drop_at front back (length front) refl) (IsBytes-drop (length front) (front ++ back) f)

event_held : (e : EventPart) → IsBytes (event_bytes e) → AllByRecursion (λ b. b < 256) e.comm × AllByRecursion (λ b. b < 256) e.payload
event_held e f =
    let own : List ℕ = e.comm ++ sized_bytes w32 e.payload in
    let from_gid : List ℕ = to_le_bytes w32 e.gid ++ own in
    let from_uid : List ℕ = to_le_bytes w32 e.uid ++ from_gid in
    let from_tid : List ℕ = to_le_bytes w32 e.tid ++ from_uid in
    let from_pid : List ℕ = to_le_bytes w32 e.pid ++ from_tid in
    let ids : IsBytes from_tid = back_bytes (to_le_bytes w32 e.pid) from_tid (back_bytes (to_le_bytes w64 e.time) from_pid f) in
    let users : IsBytes from_gid = back_bytes (to_le_bytes w32 e.uid) from_gid (back_bytes (to_le_bytes w32 e.tid) from_uid ids) in
    let held : IsBytes own = back_bytes (to_le_bytes w32 e.gid) own users in
    let payload : IsBytes e.payload = back_bytes (to_le_bytes w32 (length e.payload)) e.payload (back_bytes e.comm (sized_bytes w32 e.payload) held) in
    (each_byte e.comm (front_bytes e.comm (sized_bytes w32 e.payload) held), each_byte e.payload payload)

taken_held : (bytes : List ℕ) (format : ℕ) (taken : Option (EventPart × List ℕ)) → IsBytes bytes → event_at bytes ≡ taken → IsHeldEntry (event_taken format taken)
taken_held bytes format None f e = tt
taken_held bytes format (Some taken) f e =
    let takes = event_reads.takes bytes taken.0 taken.1 f e in
    event_held taken.0 (front_bytes (event_bytes taken.0) taken.1 (subst IsBytes takes.0.parts f))

mark_held : (part : EntryPart) → IsHeldEntry (mark_of part)
mark_held (Occurs e) = tt
mark_held (Misses time count) = tt
mark_held (Unknown tag) = tt

marks_held : (taken : Option (EntryPart × List ℕ)) → IsHeldEntry (mark_taken taken)
marks_held None = tt
marks_held (Some taken) = mark_held taken.0

held_in : (file : List ℕ) → IsBytes file → (place : EntryPlace) → IsHeldEntry (entry_in file place)
held_in file f (place.Event at format) = taken_held (drop at file) format _ (IsBytes-drop at file f) refl
held_in file f (place.Lost at) = marks_held _

all_held_in : (file : List ℕ) → IsBytes file → (places : List EntryPlace) → AllByRecursion IsHeldEntry (entries_in file places)
all_held_in file f [] = tt
all_held_in file f (p ∷ ps) = (held_in file f p, all_held_in file f ps)

pub entries_held : (es : List Entry) → entries_known.Fact es → AllByRecursion IsHeldEntry es
entries_held es f = subst (AllByRecursion IsHeldEntry) f.1.0 (all_held_in f.0.file.value.items (file_bytes f.0.file.value.items f.2.0) f.0.places.items)
