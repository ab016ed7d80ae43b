-- The list that the loops make is the agenda, where entries and ticks stand in the order of their times.
use Rattle.std.proofs.Common.{◌≡◌, ℕ, suc, ◌+◌, ◌<◌, ◌≤◌, Bool, true, false, List, [], ◌∷◌, ◌++◌, drop, length, refl, sym, ap, ◌∙◌, subst, arith, get_or, lit≤, if◌then◌else◌, inl, inr}
use Rattle.std.specs.Prelude.{nat_lt, nat_le, slice_get, Some, ◌^◌}
use Rattle.std.proofs.lemmas.Bool.{cases_lt}
use Rattle.std.proofs.lemmas.Bool.Decides.{nat_tests}
use Rattle.std.proofs.lemmas.Option.{slice_get-get_or}
use Rattle.std.proofs.lemmas.List.Sums.{get_or-le-sum_by}
use Rattle.bt_core.specs.declared.limits.TheConstants.{EVENTS}
use Rattle.bt_ast.specs.declared.attached.Attached.{Attached}
use Rattle.bt_ast.specs.declared.attached.Tick.{Tick}
use Rattle.recordings.specs.declared.recording.CpuTrack.{CpuTrack}
use Rattle.recordings.specs.declared.recording.Recording.{Recording}
use Rattle.recordings.specs.declared.recording.Entry.{Entry}
use Rattle.recordings.specs.declared.recording.Entry.TheVariants as entry
use Rattle.recordings.specs.Entries.{AreInTime}
use Rattle.recordings.specs.EntryParts.{entries}
use Rattle.recordings.specs.Places.{entry_time}
use Rattle.recordings.specs.Recordings.{IsValidRecording}
use Rattle.recordings.specs.Checks.{has_marks}
use Rattle.recordings.proofs.PlaceLaws.{track_at}
use Rattle.actor_plan.specs.declared.agenda.AgendaItem.TheVariants as item
use Rattle.actor_plan.specs.Agendas.{AreInTurn, entries_of, entries_on_track, item_at, entries_where, is_between, items_from, agenda_of}
use Rattle.actor_plan.specs.Steps.{entries_on, earlier, earlier_count, taken}

-- ---- tests of times

below : (a b : ℕ) → a < b → nat_lt a b ≡ true
below a b h = grind (arith, nat_tests)

not_below : (a b : ℕ) → b ≤ a → nat_lt a b ≡ false
not_below a b h = grind (arith, nat_tests)

at_most : (a b : ℕ) → a ≤ b → nat_le a b ≡ true
at_most a b h = grind (arith, nat_tests)

above : (a b : ℕ) → b < a → nat_le a b ≡ false
above a b h = grind (arith, nat_tests)

between_yes : (from to x : ℕ) → from ≤ x → x < to → is_between from to x ≡ true
between_yes from to x low high = rw (at_most from x low) (below x to high)

between_before : (from to x : ℕ) → x < from → is_between from to x ≡ false
between_before from to x low = rw (above from x low) refl

between_behind : (from to x : ℕ) → from ≤ x → to ≤ x → is_between from to x ≡ false
between_behind from to x low high = rw (at_most from x low) (not_below x to high)

-- ---- entries by a test

-- from the one time on, the times of entries never fall, up to the other
abbrev pub InTime : ℕ → ℕ → List Entry → Type 0
InTime low high [] = Unit {0}
InTime low high (e ∷ es) = (low ≤ entry_time e) × (entry_time e ≤ high) × InTime (entry_time e) high es

pub in_time_is : (marks : Bool) (low high : ℕ) (es : List Entry) → AreInTime (entries marks) low high es → InTime low high es
in_time_is marks low high [] times = tt
in_time_is marks low high (entry.Event e ∷ es) times = (times.0, times.1, in_time_is marks e.time high es times.2)
in_time_is marks low high (entry.Lost time count ∷ es) times = (times.0, times.1, in_time_is marks time high es times.2)

-- from a time on they are from any earlier time on
weaken : (t u end : ℕ) (es : List Entry) → t ≤ u → InTime u end es → InTime t end es
weaken t u end [] le times = tt
weaken t u end (e ∷ es) le times = let low = times.0 in (omega arith, times.1, times.2)

-- all pass
all_pass : (f : ℕ → Bool) → ((x : ℕ) → f x ≡ true) → (p : ℕ) (es : List Entry) → entries_where f p es ≡ entries_on p es
all_pass f passes p [] = refl
all_pass f passes p (e ∷ es) = rw (passes (entry_time e)) (ap (λ l. item_at p e ∷ l) (all_pass f passes (p + 1) es))

-- none passes
none_pass : (f : ℕ → Bool) (t : ℕ) → ((x : ℕ) → t ≤ x → f x ≡ false) → (end p : ℕ) (es : List Entry) → InTime t end es → entries_where f p es ≡ []
none_pass f t fails end p [] times = refl
none_pass f t fails end p (e ∷ es) times = rw (fails (entry_time e) times.0) (none_pass f t fails end (p + 1) es (weaken t (entry_time e) end es times.0 times.2))

-- two tests that agree from a time on
same_pass : (f g : ℕ → Bool) (t : ℕ) → ((x : ℕ) → t ≤ x → f x ≡ g x) → (end p : ℕ) (es : List Entry) → InTime t end es → entries_where f p es ≡ entries_where g p es
same_pass f g t same end p [] times = refl
same_pass f g t same end p (e ∷ es) times =
    let rest : entries_where f (p + 1) es ≡ entries_where g (p + 1) es = same_pass f g t same end (p + 1) es (weaken t (entry_time e) end es times.0 times.2) in
    (λ i. if same (entry_time e) times.0 i then item_at p e ∷ rest i else rest i)

-- those that are earlier pass, and no others
earlier_pass : (f : ℕ → Bool) (t : ℕ) → ((x : ℕ) → x < t → f x ≡ true) → ((x : ℕ) → t ≤ x → f x ≡ false) → (low end p : ℕ) (es : List Entry) → InTime low end es → entries_where f p es ≡ earlier t p es
earlier_pass f t passes fails low end p [] times = refl
earlier_pass f t passes fails low end p (e ∷ es) times = elim (cases_lt (entry_time e) t) [
  | inl lt ↦ rw (passes (entry_time e) lt) (rw (below (entry_time e) t lt) (ap (λ l. item_at p e ∷ l) (earlier_pass f t passes fails (entry_time e) end (p + 1) es times.2)))
  | inr le ↦ rw (fails (entry_time e) le) (rw (not_below (entry_time e) t le) (none_pass f t fails end (p + 1) es (weaken t (entry_time e) end es le times.2)))
]

-- what is earlier passes no test, and is left out
skip : (t : ℕ) (f : ℕ → Bool) → ((x : ℕ) → x < t → f x ≡ false) → (p : ℕ) (es : List Entry) → entries_where f p es ≡ entries_where f (p + earlier_count t es) (drop (earlier_count t es) es)
skip t f fails p [] = refl
skip t f fails p (e ∷ es) = elim (cases_lt (entry_time e) t) [
  | inl lt ↦ rw (fails (entry_time e) lt) (rw (below (entry_time e) t lt) (let q : p + 1 + earlier_count t es ≡ p + suc (earlier_count t es) = omega arith in
      skip t f fails (p + 1) es ∙ ap (λ n. entries_where f n (drop (earlier_count t es) es)) q))
  | inr le ↦ rw (not_below (entry_time e) t le) (let q : p ≡ p + 0 = omega arith in ap (λ n. entries_where f n (e ∷ es)) q)
]

-- what is not earlier
left : (t low end : ℕ) (es : List Entry) → InTime low end es → InTime t end (drop (earlier_count t es) es)
left t low end [] times = tt
left t low end (e ∷ es) times = elim (cases_lt (entry_time e) t) [
  | inl lt ↦ rw (below (entry_time e) t lt) (left t (entry_time e) end es times.2)
  | inr le ↦ rw (not_below (entry_time e) t le) (le, times.1, times.2)
]

-- ---- items

-- the times of ticks do not fall, from a time on
abbrev pub NoneBefore : ℕ → List Tick → Type 0
NoneBefore time [] = Unit {0}
NoneBefore time (t ∷ ts) = (time ≤ t.time) × NoneBefore t.time ts

pub from_start : (time : ℕ) (ts : List Tick) → NoneBefore time ts → NoneBefore 0 ts
from_start time [] h = tt
from_start time (t ∷ ts) h = (omega arith, h.1)

skip_items : (t p : ℕ) (es : List Entry) (time place : ℕ) (ts : List Tick) → t ≤ time → NoneBefore time ts → items_from p es time place ts ≡ items_from (p + earlier_count t es) (drop (earlier_count t es) es) time place ts
skip_items t p es time place [] le h = skip t (nat_le time) (λ x lt. above time x (omega arith)) p es
skip_items t p es time place (s ∷ ts) le h =
    let front = skip t (is_between time s.time) (λ x lt. between_before time s.time x (omega arith)) p es in
    let later : t ≤ s.time = (let low = h.0 in omega arith) in
    let back = skip_items t p es s.time (place + 1) ts later h.1 in
    (λ i. front i ++ item.Tick place ∷ back i)

-- events that are all from a time on are taken as from the beginning
from_any : (t end p : ℕ) (es : List Entry) (place : ℕ) (ts : List Tick) → InTime t end es → items_from p es t place ts ≡ items_from p es 0 place ts
from_any t end p es place [] times = same_pass (nat_le t) (nat_le 0) t (λ x le. at_most t x le ∙ sym (at_most 0 x (omega arith))) end p es times
from_any t end p es place (s ∷ ts) times =
    let front = same_pass (is_between t s.time) (is_between 0 s.time) t (λ x le. rw (at_most t x le) (rw (at_most 0 x (omega arith)) refl)) end p es times in
    ap (λ l. l ++ item.Tick place ∷ items_from p es s.time (place + 1) ts) front

-- the list that the loops make
pub taken_all : (low end p : ℕ) (es : List Entry) (place : ℕ) (ts : List Tick) → InTime low end es → NoneBefore 0 ts → items_from p es 0 place ts ≡ taken p es place ts
taken_all low end p es place [] times h = all_pass (nat_le 0) (λ x. at_most 0 x (omega arith)) p es
taken_all low end p es place (s ∷ ts) times h =
    let rest = drop (earlier_count s.time es) es in
    let next = p + earlier_count s.time es in
    let front = earlier_pass (is_between 0 s.time) s.time (λ x lt. between_yes 0 s.time x (omega arith) lt) (λ x le. between_behind 0 s.time x (omega arith) le) low end p es times in
    let rest_times = left s.time low end es times in
    let back : items_from p es s.time (place + 1) ts ≡ taken next rest (place + 1) ts =
    skip_items s.time p es s.time (place + 1) ts (omega arith) h.1
    ∙ from_any s.time end next rest (place + 1) ts rest_times
    ∙ taken_all s.time end next rest (place + 1) ts rest_times (from_start s.time ts h.1) in
    (λ i. front i ++ item.Tick place ∷ back i)

-- ---- ticks in their order

behind : (s : Tick) (ts : List Tick) → ((place : ℕ) (a b : Tick) → slice_get (s ∷ ts) place ≡ Some a → slice_get (s ∷ ts) (suc place) ≡ Some b → a.time ≤ b.time) → NoneBefore s.time ts
behind s [] h = tt
behind s (t ∷ ts) h = (h 0 s t refl refl, behind t ts (λ place a b x y. h (suc place) a b x y))

pub none_before : (ts : List Tick) → AreInTurn ts → NoneBefore 0 ts
none_before [] h = tt
none_before (t ∷ ts) h = (omega arith, behind t ts h.times)

-- ---- the agenda of a CPU

pub few_entries : (r : Recording) (cpu : ℕ) (d : CpuTrack) → IsValidRecording r → cpu < length r.cpus → length (get_or r.cpus cpu d).entries ≤ 2 ^ 32
few_entries r cpu d valid lt =
    let few = valid.cpus.few in
    let one = get_or-le-sum_by (λ (c : CpuTrack). length c.entries) r.cpus cpu d lt in
    let most : EVENTS ≤ 2 ^ 32 = lit≤ tt in
    omega (arith, one, few, most)

pub times_are : (r : Recording) (cpu : ℕ) (d : CpuTrack) → IsValidRecording r → cpu < length r.cpus → InTime r.start r.end (entries_of r cpu)
times_are r cpu d valid lt =
    let track = get_or r.cpus cpu d in
    let at = slice_get-get_or r.cpus cpu d lt in
    subst (λ o. InTime r.start r.end (entries_on_track o)) (sym at) (in_time_is (has_marks r.version) r.start r.end track.entries (track_at r cpu track valid at).entries.in_time)

pub agenda_is : (r : Recording) (attached : Attached) (cpu : ℕ) (d : CpuTrack) → IsValidRecording r → AreInTurn attached.ticks → cpu < length r.cpus
    → taken 0 (get_or r.cpus cpu d).entries 0 attached.ticks ≡ agenda_of r attached cpu
unfolding agenda_of
agenda_is r attached cpu d valid turn lt =
    ap (λ o. taken 0 (entries_on_track o) 0 attached.ticks) (sym (slice_get-get_or r.cpus cpu d lt))
    ∙ sym (taken_all r.start r.end 0 (entries_of r cpu) 0 attached.ticks (times_are r cpu d valid lt) (none_before attached.ticks turn))
