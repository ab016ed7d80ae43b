-- What was written so far, and a part more.
use Rattle.std.proofs.Common.{◌≡◌, ℕ, ◌+◌, ◌<◌, ◌≤◌, Bool, true, false, Some, Result, Ok, Err, List, [], ◌∷◌, ◌++◌, length, take, get_or, refl, ap, sym, ◌∙◌, append_assoc, arith}
use Rattle.std.specs.Int.{w64, to_le_bytes}
use Rattle.std.specs.Prelude.{OnOk}
use Rattle.std.specs.List.{flat_map, AllByRecursion}
use Rattle.std.proofs.lemmas.List.{take_more, flat_map_more}
use Rattle.std.proofs.lemmas.Option.{slice_get-get_or}
use Rattle.bt_core.specs.declared.limits.TheConstants.{EVENTS}
use Rattle.event_layout.specs.declared.format.Format.{Format}
use Rattle.event_layout.proofs.Lists.{all_at}
use Rattle.recordings.specs.declared.recording.CpuTrack.{CpuTrack}
use Rattle.recordings.specs.declared.recording.Entry.{Entry}
use Rattle.recordings.specs.EntryParts.{Misses, part_of_entry, IsEntryPart, IsEntry, entry_bytes}
use Rattle.recordings.specs.Recordings.{total_entries, IsTrack}
use Rattle.rec_format.specs.Answers.{CanWriteTrack}
use Rattle.rec_format.proofs.KindLaws.{entry_whole}
use Rattle.rec_format.proofs.LoopLaws.{total_first}

on_ok : {T E : Type 0} (P Q : Type 0) (r : Result T E) → (P → Q) → OnOk r P → OnOk r Q
on_ok P Q (Ok x) f h = f h
on_ok P Q (Err e) f h = tt

-- two pieces, one after the other
pub written2 : {T E : Type 0} (r : Result T E) (old s1 s2 a b : List ℕ) → s1 ≡ old ++ a → OnOk r (s2 ≡ s1 ++ b) → OnOk r (s2 ≡ old ++ (a ++ b))
written2 r old s1 s2 a b h1 h2 = on_ok (s2 ≡ s1 ++ b) (s2 ≡ old ++ (a ++ b)) r (λ h. h ∙ (ap (λ l. l ++ b) h1 ∙ append_assoc old a b)) h2

-- three pieces
pub written3 : {T E : Type 0} (r : Result T E) (old s1 s2 s3 a b c : List ℕ) → s1 ≡ old ++ a → s2 ≡ s1 ++ b → OnOk r (s3 ≡ s2 ++ c) → OnOk r (s3 ≡ old ++ (a ++ (b ++ c)))
written3 r old s1 s2 s3 a b c h1 h2 h3 =
    written2 r old s1 s3 a (b ++ c) h1 (on_ok (s3 ≡ s2 ++ c) (s3 ≡ s1 ++ (b ++ c)) r (λ h. h ∙ (ap (λ l. l ++ c) h2 ∙ append_assoc s1 b c)) h3)

-- five pieces
pub written5 : {T E : Type 0} (r : Result T E) (old s1 s2 s3 s4 s5 a b c d e : List ℕ) → s1 ≡ old ++ a → s2 ≡ s1 ++ b → s3 ≡ s2 ++ c → s4 ≡ s3 ++ d → OnOk r (s5 ≡ s4 ++ e)
    → OnOk r (s5 ≡ old ++ (a ++ (b ++ (c ++ (d ++ e)))))
written5 r old s1 s2 s3 s4 s5 a b c d e h1 h2 h3 h4 h5 =
    on_ok (s5 ≡ s4 ++ e) (s5 ≡ old ++ (a ++ (b ++ (c ++ (d ++ e))))) r
    (λ h.
    let all : s5 ≡ ((((old ++ a) ++ b) ++ c) ++ d) ++ e = h ∙ ap (λ l. l ++ e) (h4 ∙ ap (λ l. l ++ d) (h3 ∙ ap (λ l. l ++ c) (h2 ∙ ap (λ l. l ++ b) h1))) in
    let moved : ((((old ++ a) ++ b) ++ c) ++ d) ++ e ≡ old ++ (a ++ (b ++ (c ++ (d ++ e)))) = simp append_assoc in
    all ∙ moved) h5

-- seven pieces
pub written7 : {T E : Type 0} (r : Result T E) (old s1 s2 s3 s4 s5 s6 s7 a b c d e f g : List ℕ) → s1 ≡ old ++ a → s2 ≡ s1 ++ b → s3 ≡ s2 ++ c → s4 ≡ s3 ++ d → s5 ≡ s4 ++ e → s6 ≡ s5 ++ f → OnOk r (s7 ≡ s6 ++ g)
    → OnOk r (s7 ≡ old ++ (a ++ (b ++ (c ++ (d ++ (e ++ (f ++ g)))))))
written7 r old s1 s2 s3 s4 s5 s6 s7 a b c d e f g h1 h2 h3 h4 h5 h6 h7 =
    on_ok (s7 ≡ s6 ++ g) (s7 ≡ old ++ (a ++ (b ++ (c ++ (d ++ (e ++ (f ++ g))))))) r
    (λ h.
    let all : s7 ≡ ((((((old ++ a) ++ b) ++ c) ++ d) ++ e) ++ f) ++ g =
    h ∙ ap (λ l. l ++ g) (h6 ∙ ap (λ l. l ++ f) (h5 ∙ ap (λ l. l ++ e) (h4 ∙ ap (λ l. l ++ d) (h3 ∙ ap (λ l. l ++ c) (h2 ∙ ap (λ l. l ++ b) h1))))) in
    let moved : ((((((old ++ a) ++ b) ++ c) ++ d) ++ e) ++ f) ++ g ≡ old ++ (a ++ (b ++ (c ++ (d ++ (e ++ (f ++ g)))))) = simp append_assoc in
    all ∙ moved) h7

-- a mark of lost events is spelled alike wherever it may stand
pub lost_bytes : (marks : Bool) (time count : ℕ) → entry_bytes marks (Misses time count) ≡ 1 ∷ (to_le_bytes w64 time ++ to_le_bytes w64 count)
lost_bytes true time count = refl
lost_bytes false time count = refl

-- what all items need for being written, the one at a place has
pub item_writable : {X : Type 0} (P : X → Type 0) (xs : List X) (i : ℕ) (x : X) → i < length xs → x ≡ get_or xs i x → AllByRecursion P xs → P x
item_writable {X} P xs i x lt is all = all_at P xs i x all (slice_get-get_or xs i x lt ∙ ap (λ (y : X). Some y) (sym is))

-- one item more
pub written_more : {X : Type 0} (spelling : X → List ℕ) (xs : List X) (i : ℕ) (x : X) (old now later : List ℕ) → i < length xs → x ≡ get_or xs i x → now ≡ old ++ flat_map spelling (take i xs) → later ≡ now ++ spelling x
    → later ≡ old ++ flat_map spelling (take (i + 1) xs)
written_more {X} spelling xs i x old now later lt is so_far more =
    let next : take (i + 1) xs ≡ take i xs ++ x ∷ [] = take_more xs i x lt ∙ ap (λ (y : X). take i xs ++ y ∷ []) (sym is) in
    more ∙ ap (λ (l : List ℕ). l ++ spelling x) so_far ∙ flat_map_more spelling old (take i xs) x ∙ ap (λ (l : List X). old ++ flat_map spelling l) (sym next)

each_other : {X : Type 0} (P Q : X → Type 0) → ((x : X) → P x → Q x) → (xs : List X) → AllByRecursion P xs → AllByRecursion Q xs
each_other P Q f [] all = tt
each_other P Q f (x ∷ xs) all = (f x all.0, each_other P Q f xs all.1)

pub tracks_writable : (marks : Bool) (formats : List Format) (start end : ℕ) (cs : List CpuTrack) → AllByRecursion (IsTrack marks formats start end) cs → total_entries cs ≤ EVENTS → AllByRecursion (CanWriteTrack marks) cs
tracks_writable marks formats start end [] all few = tt
tracks_writable marks formats start end (c ∷ cs) all few = (
  record {
    counted = omega (arith, total_first c cs, few);
    entries = each_other (IsEntry marks formats) (λ (e : Entry). IsEntryPart marks (part_of_entry e)) (entry_whole marks formats) c.entries all.0.entries.each;
  },
  tracks_writable marks formats start end cs all.1 (omega (arith, total_first c cs, few)),
)
