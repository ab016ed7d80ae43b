-- Entries where they lie: what was read from the front of a file's rest lies at its place.
use Rattle.std.proofs.Common.{◌≡◌, ℕ, zero, suc, ◌+◌, ◌-◌, ◌≤◌, Bool, true, false, cond, Option, Some, None, List, [], ◌∷◌, ◌++◌, length, take, drop, refl, ap, sym, subst, ◌∙◌, append_assoc, arith, map}
use Rattle.std.specs.Prelude.{nat_eq}
use Rattle.std.specs.Int.{w64}
use Rattle.std.proofs.lemmas.List.{drop_at, take-append-drop, length-append, length-drop}
use Rattle.std.proofs.lemmas.Option.{same_Some}
use Rattle.event_layout.specs.declared.format.Format.{Format}
use Rattle.recordings.specs.declared.entries.EntryPlace.{EntryPlace}
use Rattle.recordings.specs.declared.recording.Entry.{Entry}
use Rattle.recordings.specs.declared.recording.Entry.TheVariants as entry
use Rattle.recordings.specs.EntryParts.{EntryPart, Misses, Unknown, tag_fault}
use Rattle.recordings.specs.Fronts.{number_at, event_at, mark_at}
use Rattle.rec_format.specs.Heads.{plain_at, tagged_at, entry_at}
use Rattle.recordings.specs.InFile.{first_bytes, entry_place, event_taken, mark_taken, entry_in, entries_in}
use Rattle.rec_format.specs.Answers.{IsPartPlaced}
use Rattle.recordings.specs.Events.{event_of}
use Rattle.recordings.proofs.Fields.{bind_some}
use Rattle.rec_format.proofs.EventLaws.{place_of-Some}
use Rattle.rec_format.proofs.KindLaws.{entry_made, mapped_some}

-- ---- the rest of a file

abbrev pub IsRest : List ℕ → List ℕ → Type 0
IsRest file bytes = bytes ≡ drop (length file - length bytes) file

pub whole_rest : (file : List ℕ) → IsRest file file
whole_rest file =
    let none : 0 ≡ length file - length file = omega arith in
    ap (λ (n : ℕ). drop n file) none

pub rest_more : (file bytes front rest : List ℕ) → IsRest file bytes → bytes ≡ front ++ rest → IsRest file rest
rest_more file bytes front rest is spelled =
    let n : ℕ = length file - length bytes in
    let long : length bytes ≤ length file = omega (arith, ap length is, length-drop n file) in
    let parts : file ≡ (take n file ++ front) ++ rest =
    sym (take-append-drop n file) ∙ ap (λ (l : List ℕ). take n file ++ l) (sym is ∙ spelled) ∙ sym (append_assoc (take n file) front rest) in
    let counted : length (take n file ++ front) ≡ length file - length rest = omega (arith, ap length parts, length-append (take n file ++ front) rest) in
    sym (ap (λ (l : List ℕ). drop (length file - length rest) l) parts ∙ drop_at (take n file ++ front) rest (length file - length rest) counted)

-- behind the first byte of a rest
one_on : (xs : List ℕ) (n x : ℕ) (ys : List ℕ) → x ∷ ys ≡ drop n xs → ys ≡ drop (n + 1) xs
one_on [] zero x ys h = absurd cc
one_on [] (suc n) x ys h = absurd cc
one_on (y ∷ xs) zero x ys h = cc
one_on (y ∷ xs) (suc n) x ys h =
    let next : suc (n + 1) ≡ suc n + 1 = omega arith in
    one_on xs n x ys h ∙ ap (λ (m : ℕ). drop m (y ∷ xs)) next

-- ---- an entry that was read

event_lies : (file bytes after : List ℕ) (at format : ℕ) (formats : List Format) (part : EntryPart) → bytes ≡ drop at file → plain_at bytes ≡ Some (part, after) → IsPartPlaced formats part format
    → entry_in file (entry_place at part format) ≡ entry_made formats part
event_lies file bytes after at format formats part is some =
    let m = mapped_some (event_at bytes) part after some in
    subst (λ (q : EntryPart). IsPartPlaced formats q format → entry_in file (entry_place at q format) ≡ entry_made formats q) (sym m.2)
    (λ placed. ap (λ (b : List ℕ). event_taken format (event_at b)) (sym is) ∙ ap (event_taken format) m.1 ∙ ap (λ (n : ℕ). entry.Event (event_of m.0 n)) (sym (place_of-Some formats m.0.payload format placed)))

mark_is : (bytes : List ℕ) (part : EntryPart) (after : List ℕ) → mark_at bytes ≡ Some (part, after) → (time : ℕ) × (count : ℕ) × (part ≡ Misses time count)
unfolding mark_at
mark_is bytes part after e =
    let a = bind_some (number_at w64 bytes) _ (part, after) e in
    let b = bind_some (number_at w64 a.0.1) _ (part, after) a.2 in
    let same : (Misses a.0.0 b.0.0, b.0.1) ≡ (part, after) = same_Some (Misses a.0.0 b.0.0, b.0.1) (part, after) b.2 in
    (a.0.0, b.0.0, sym (ap (λ (q : EntryPart × List ℕ). q.0) same))

mark_lies : (file bytes after : List ℕ) (at format : ℕ) (formats : List Format) (part : EntryPart) → bytes ≡ drop at file → mark_at bytes ≡ Some (part, after)
    → entry_in file (entry_place at part format) ≡ entry_made formats part
mark_lies file bytes after at format formats part is some =
    let m = mark_is bytes part after some in
    subst (λ (q : EntryPart). mark_at bytes ≡ Some (q, after) → entry_in file (entry_place at q format) ≡ entry_made formats q) (sym m.2)
    (λ there. ap (λ (b : List ℕ). mark_taken (mark_at b)) (sym is) ∙ ap mark_taken there) some

abbrev Lies : List ℕ → ℕ → ℕ → List Format → EntryPart → Type 0
Lies file at format formats part = entry_in file (entry_place at part format) ≡ entry_made formats part

tagged_lies : (file bytes after : List ℕ) (tag at format cpu n : ℕ) (formats : List Format) (part : EntryPart) → bytes ≡ drop at file → tagged_at tag bytes ≡ Some (part, after) → IsPartPlaced formats part format → tag_fault cpu n part ≡ None
    → Lies file at format formats part
tagged_lies file bytes after tag at format cpu n formats part is some placed none =
    let later : Option (EntryPart × List ℕ) = cond (nat_eq tag 1) (mark_at bytes) (Some (Unknown tag, bytes)) in
    (elim (nat_eq tag 0) as (λ b. cond b (plain_at bytes) later ≡ Some (part, after) → Lies file at format formats part) [
      | true ↦ λ h. event_lies file bytes after at format formats part is h placed
      | false ↦ (elim (nat_eq tag 1) as (λ b. cond b (mark_at bytes) (Some (Unknown tag, bytes)) ≡ Some (part, after) → Lies file at format formats part) [
        | true ↦ λ h. mark_lies file bytes after at format formats part is h
        | false ↦ λ h.
            let same : Unknown tag ≡ part = ap (λ (q : EntryPart × List ℕ). q.0) (same_Some (Unknown tag, bytes) (part, after) h) in
            let known : tag_fault cpu n (Unknown tag) ≡ None = ap (tag_fault cpu n) same ∙ none in
            absurd cc
      ])
    ]) some

pub entry_lies : (marks : Bool) (file rest after : List ℕ) (start format cpu n : ℕ) (formats : List Format) (part : EntryPart) → rest ≡ drop start file → entry_at marks rest ≡ Some (part, after) → IsPartPlaced formats part format
    → tag_fault cpu n part ≡ None → entry_in file (entry_place (start + first_bytes marks) part format) ≡ entry_made formats part
entry_lies true file [] after start format cpu n formats part is some placed none = absurd cc
entry_lies true file (tag ∷ bytes) after start format cpu n formats part is some placed none = tagged_lies file bytes after tag (start + 1) format cpu n formats part (one_on file start tag bytes is) some placed none
entry_lies false file rest after start format cpu n formats part is some placed none =
    event_lies file rest after (start + 0) format formats part (is ∙ ap (λ (m : ℕ). drop m file) (omega arith)) some placed

-- one entry more
pub map_more : {X Y : Type 0} (f : X → Y) (xs : List X) (x : X) → map f (xs ++ x ∷ []) ≡ map f xs ++ f x ∷ []
map_more f [] x = refl
map_more f (y ∷ ys) x = ap (λ l. f y ∷ l) (map_more f ys x)

pub entries_more : (file : List ℕ) (places later : List EntryPlace) (place : EntryPlace) (e : Entry) → later ≡ places ++ place ∷ [] → entry_in file place ≡ e → entries_in file later ≡ entries_in file places ++ e ∷ []
entries_more file places later place e added lies =
    ap (entries_in file) added ∙ map_more (entry_in file) places place ∙ ap (λ (x : Entry). entries_in file places ++ x ∷ []) lies
