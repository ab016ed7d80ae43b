-- What a valid recording has at each place.
use Rattle.std.proofs.Common.{◌≡◌, ◌⊎◌, ℕ, zero, suc, ◌+◌, ◌<◌, ◌≤◌, Bool, true, false, Some, None, List, [], ◌∷◌, refl, ap, sym, subst, ◌∙◌, arith, inl, inr}
use Rattle.std.specs.Prelude.{option_and_then, ◌==◌}
use Rattle.std.specs.Str.{bytes_eq}
use Rattle.std.proofs.lemmas.Bool.{cases_lt, eq-eqb, eqb-false, or_parts, and_from}
use Rattle.std.proofs.lemmas.Slice.Eq.{bytes_eq-Decides}
use Rattle.std.specs.List.{slice_get}
use Rattle.std.proofs.lemmas.Option.{same_Some}
use Rattle.event_layout.specs.declared.format.Format.{Format}
use Rattle.event_layout.specs.ByName.{IsNamed, is_same_tracepoint}
use Rattle.event_layout.proofs.Lists.{all_at}
use Rattle.recordings.specs.Checks.{has_marks, is_same_event}
use Rattle.recordings.specs.declared.recording.Recording.{Recording}
use Rattle.recordings.specs.declared.recording.CpuTrack.{CpuTrack}
use Rattle.recordings.specs.declared.recording.Entry.{Entry}
use Rattle.recordings.specs.declared.recording.Entry.TheVariants as entry
use Rattle.recordings.specs.declared.recording.Event.{Event}
use Rattle.recordings.specs.Entries.{EntryKind, time_of, AreInTime}
use Rattle.recordings.specs.EntryParts.{part_of_entry, part_time, IsEntry, entries}
use Rattle.recordings.specs.Places.{entry_at_place, entry_time, HasFormat}
use Rattle.recordings.specs.Recordings.{IsTrack, AreApart, AreNumbered, IsValidRecording}
use Rattle.recordings.proofs.PayloadLaws.{event_id, two_bytes}

-- ---- formats

apart_at : (fs : List Format) (i j : ℕ) (f g : Format) → AreApart fs → slice_get fs i ≡ Some f → slice_get fs j ≡ Some g → i < j → is_same_event g f ≡ false
apart_at [] i j f g apart first second order = absurd cc
apart_at (x ∷ xs) zero zero f g apart first second order = absurd (omega arith)
apart_at (x ∷ xs) zero (suc j) f g apart first second order =
    ap (λ (y : Format). is_same_event g y) (sym (same_Some x f first)) ∙ all_at (λ (y : Format). is_same_event y x ≡ false) xs j g apart.0 second
apart_at (x ∷ xs) (suc i) zero f g apart first second order = absurd (omega arith)
apart_at (x ∷ xs) (suc i) (suc j) f g apart first second order = apart_at xs i j f g apart.1 first second (omega arith)

-- two formats have one ID, or are called the same
abbrev pub AreAlike : Format → Format → Type 0
AreAlike f g = (f.layout.id ≡ g.layout.id) ⊎ IsNamed f g.system g.layout.name

alike_swapped : (f g : Format) → AreAlike f g → AreAlike g f
alike_swapped f g (inl id) = inl (sym id)
alike_swapped f g (inr named) = inr (record { of_system = sym named.of_system; called = sym named.called })

not_alike : (f g : Format) → is_same_event g f ≡ false → AreAlike f g → ⊥
not_alike f g apart (inl id) =
    let tests = or_parts (f.layout.id == g.layout.id) (is_same_tracepoint f g) apart in
    let same = eq-eqb f.layout.id g.layout.id id in cc
not_alike f g apart (inr named) =
    let tests = or_parts (f.layout.id == g.layout.id) (is_same_tracepoint f g) apart in
    let same = and_from (bytes_eq f.system g.system) (bytes_eq f.layout.name g.layout.name) ((bytes_eq-Decides f.system g.system).1 named.of_system) ((bytes_eq-Decides f.layout.name g.layout.name).1 named.called) in cc

pub one_format : (fs : List Format) (i j : ℕ) (f g : Format) → AreApart fs → slice_get fs i ≡ Some f → slice_get fs j ≡ Some g → AreAlike f g → i ≡ j
one_format fs i j f g apart first second alike = elim (cases_lt i j) [
  | inl less ↦ absurd (not_alike f g (apart_at fs i j f g apart first second less) alike)
  | inr more ↦ elim (cases_lt j i) [
    | inl less ↦ absurd (not_alike g f (apart_at fs j i g f apart second first less) (alike_swapped f g alike))
    | inr same ↦ omega arith
  ]
]

-- ---- entries in time

-- an entry of a list is not before the first time, and not after the last
pub within_time : {E P : Type 0} (kind : EntryKind E P) (earliest latest : ℕ) (es : List E) (place : ℕ) (e : E) → AreInTime kind earliest latest es → slice_get es place ≡ Some e → (earliest ≤ time_of kind e) × (time_of kind e ≤ latest)
within_time kind earliest latest [] place e times at = absurd cc
within_time kind earliest latest (f ∷ fs) zero e times at = subst (λ x. (earliest ≤ time_of kind x) × (time_of kind x ≤ latest)) (same_Some f e at) (times.0, times.1)
within_time kind earliest latest (f ∷ fs) (suc k) e times at =
    let rest = within_time kind (time_of kind f) latest fs k e times.2 at in
    (omega (arith, times.0, rest.0), rest.1)

-- of two entries the later one does not have the earlier time
pub times_rise : {E P : Type 0} (kind : EntryKind E P) (earliest latest : ℕ) (es : List E) (i j : ℕ) (d e : E) → AreInTime kind earliest latest es → slice_get es i ≡ Some d → slice_get es j ≡ Some e → i ≤ j → time_of kind d ≤ time_of kind e
times_rise kind earliest latest [] i j d e times first second order = absurd cc
times_rise kind earliest latest (f ∷ fs) zero j d e times first second order =
    let from : AreInTime kind (time_of kind f) latest (f ∷ fs) = (omega arith, times.1, times.2) in
    subst (λ x. time_of kind x ≤ time_of kind e) (same_Some f d first) (within_time kind (time_of kind f) latest (f ∷ fs) j e from second).0
times_rise kind earliest latest (f ∷ fs) (suc i) zero d e times first second order = absurd (omega arith)
times_rise kind earliest latest (f ∷ fs) (suc i) (suc j) d e times first second order = times_rise kind (time_of kind f) latest fs i j d e times.2 first second (omega arith)

-- ---- events of a recording

-- an entry stands on a track
pub record IsOnTrack (r : Recording) (cpu place : ℕ) (e : Entry) : Type 0 where
  pub track : CpuTrack
  pub placed : slice_get r.cpus cpu ≡ Some track
  pub there : slice_get track.entries place ≡ Some e

pub on_track : (r : Recording) (cpu place : ℕ) (e : Entry) → entry_at_place r cpu place ≡ Some e → IsOnTrack r cpu place e
on_track r cpu place e at =
    (elim (slice_get r.cpus cpu) as (λ o. slice_get r.cpus cpu ≡ o → option_and_then (λ (c : CpuTrack). slice_get c.entries place) o ≡ Some e → IsOnTrack r cpu place e) [
      | None ↦ λ h g. absurd cc
      | Some c ↦ λ h g. record { track = c; placed = h; there = g }
    ]) refl at

pub track_at : (r : Recording) (cpu : ℕ) (c : CpuTrack) → IsValidRecording r → slice_get r.cpus cpu ≡ Some c → IsTrack (has_marks r.version) r.formats r.start r.end c
track_at r cpu c valid at = all_at (IsTrack (has_marks r.version) r.formats r.start r.end) r.cpus cpu c valid.cpus.each at

entry_is : (r : Recording) (cpu place : ℕ) (e : Entry) → IsValidRecording r → entry_at_place r cpu place ≡ Some e → IsEntry (has_marks r.version) r.formats e
entry_is r cpu place e valid at =
    let on = on_track r cpu place e at in
    all_at (IsEntry (has_marks r.version) r.formats) on.track.entries place e (track_at r cpu on.track valid on.placed).entries.each on.there

pub event_has_format : (r : Recording) (cpu place : ℕ) (e : Event) → IsValidRecording r → entry_at_place r cpu place ≡ Some (entry.Event e) → HasFormat r.formats e
event_has_format r cpu place e valid at =
    let is = entry_is r cpu place (entry.Event e) valid at in
    record { format = is.format; placed = is.placed; two = two_bytes r.formats e is; id = event_id r.formats e valid.formats is; long = is.long; short = is.whole.payload }

-- the versions that there are
abbrev pub IsVersion : ℕ → Type 0
IsVersion version = (version ≡ 1) ⊎ (version ≡ 2)

-- where there is a mark there may be marks, and it tells of some events
mark_stands : (marks : Bool) (formats : List Format) (time count : ℕ) → IsEntry marks formats (entry.Lost time count) → (marks ≡ true) × (1 ≤ count)
mark_stands true formats time count is = (refl, let some = eqb-false count 0 is.2 in omega (arith, some))
mark_stands false formats time count is = absurd is

may_have : (version : ℕ) → IsVersion version → has_marks version ≡ true → version ≡ 2
may_have version (inl one) h = let clash : has_marks 1 ≡ true = ap has_marks (sym one) ∙ h in absurd cc
may_have version (inr two) h = two

pub mark_tells : (r : Recording) (cpu place time count : ℕ) → IsValidRecording r → entry_at_place r cpu place ≡ Some (entry.Lost time count) → (r.version ≡ 2) × (1 ≤ count)
mark_tells r cpu place time count valid at =
    let stands = mark_stands (has_marks r.version) r.formats time count (entry_is r cpu place (entry.Lost time count) valid at) in
    (may_have r.version valid.version stands.0, stands.1)

time_is : (e : Entry) → part_time (part_of_entry e) ≡ entry_time e
time_is (entry.Event e) = refl
time_is (entry.Lost time count) = refl

pub entry_within : (r : Recording) (cpu place : ℕ) (e : Entry) → IsValidRecording r → entry_at_place r cpu place ≡ Some e → (r.start ≤ entry_time e) × (entry_time e ≤ r.end)
entry_within r cpu place e valid at =
    let on = on_track r cpu place e at in
    subst (λ (t : ℕ). (r.start ≤ t) × (t ≤ r.end)) (time_is e)
    (within_time (entries (has_marks r.version)) r.start r.end on.track.entries place e (track_at r cpu on.track valid on.placed).entries.in_time on.there)

pub entries_in_order : (r : Recording) (cpu i j : ℕ) (d e : Entry) → IsValidRecording r → entry_at_place r cpu i ≡ Some d → entry_at_place r cpu j ≡ Some e → i ≤ j → entry_time d ≤ entry_time e
entries_in_order r cpu i j d e valid first second order =
    let on = on_track r cpu i d first in
    let other = on_track r cpu j e second in
    let same : other.track ≡ on.track = same_Some other.track on.track (sym other.placed ∙ on.placed) in
    let there : slice_get on.track.entries j ≡ Some e = ap (λ (c : CpuTrack). slice_get c.entries j) (sym same) ∙ other.there in
    let rise = times_rise (entries (has_marks r.version)) r.start r.end on.track.entries i j d e (track_at r cpu on.track valid on.placed).entries.in_time on.there there order in
    omega (arith, rise, time_is d, time_is e)

-- ---- CPUs

number_from : (least : ℕ) (cs : List CpuTrack) (place : ℕ) (c : CpuTrack) → AreNumbered least cs → slice_get cs place ≡ Some c → least ≤ c.number
number_from least [] place c numbered at = absurd cc
number_from least (d ∷ ds) zero c numbered at = subst (λ (x : CpuTrack). least ≤ x.number) (same_Some d c at) numbered.0
number_from least (d ∷ ds) (suc k) c numbered at = let rest = number_from (d.number + 1) ds k c numbered.1 at in omega (arith, numbered.0, rest)

pub numbers_rise : (least : ℕ) (cs : List CpuTrack) (i j : ℕ) (c d : CpuTrack) → AreNumbered least cs → slice_get cs i ≡ Some c → slice_get cs j ≡ Some d → i < j → c.number < d.number
numbers_rise least [] i j c d numbered first second order = absurd cc
numbers_rise least (x ∷ xs) zero zero c d numbered first second order = absurd (omega arith)
numbers_rise least (x ∷ xs) zero (suc j) c d numbered first second order =
    let rest : x.number + 1 ≤ d.number = number_from (x.number + 1) xs j d numbered.1 second in
    subst (λ (y : CpuTrack). y.number < d.number) (same_Some x c first) (omega arith)
numbers_rise least (x ∷ xs) (suc i) zero c d numbered first second order = absurd (omega arith)
numbers_rise least (x ∷ xs) (suc i) (suc j) c d numbered first second order = numbers_rise (x.number + 1) xs i j c d numbered.1 first second (omega arith)
