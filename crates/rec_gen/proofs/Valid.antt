-- A made recording is valid, and the only one of its seed and count.
use Rattle.std.proofs.Common.{◌≡◌, ℕ, zero, suc, ◌+◌, ◌*◌, ◌<◌, ◌≤◌, ◌^◌, ◌%◌, Bool, true, false, List, [], ◌∷◌, ◌++◌, length, map, refl, ap, sym, subst, ◌∙◌, arith, inl}
use Rattle.std.specs.Prelude.{◌==◌, cond, codes}
use Rattle.std.specs.Int.{w16, to_le_bytes}
use Rattle.recordings.specs.Checks.{is_system}
use Rattle.std.specs.List.{AllByRecursion}
use Rattle.std.proofs.lemmas.List.{length-append, length-map}
use Rattle.std.proofs.lemmas.Nat.{mod_below}
use Rattle.bt_core.specs.declared.limits.TheConstants.{EVENTS}
use Rattle.event_layout.specs.declared.format.Format.{Format}
use Rattle.event_layout.specs.Layouts.{IsLayoutOf}
use Rattle.tracefs_format.proofs.ForOthers.{text_one_layout}
use Rattle.recordings.specs.declared.recording.Recording.{Recording}
use Rattle.recordings.specs.declared.recording.Entry.TheVariants as entry
use Rattle.recordings.specs.declared.recording.Event.{Event}
use Rattle.recordings.specs.Entries.{AreInTime}
use Rattle.recordings.specs.EntryParts.{entries, IsEntry}
use Rattle.recordings.specs.Events.{IsEvent, part_of_event}
use Rattle.recordings.specs.Parts.{IsEventPart}
use Rattle.recordings.specs.Recordings.{IsValidRecording, IsFormat, IsTrack}
use Rattle.rec_gen.specs.declared.format.TheConstants.{TEXT}
use Rattle.rec_gen.specs.Draws.{drawn_at}
use Rattle.rec_gen.specs.Made.{name_of, made_event, events_on, made_track, made_tracks, IsMade}
use Rattle.rec_gen.proofs.Formats.{size_is, id_is}

-- ---- one event

name_length : (n : ℕ) → length (name_of n) ≡ 16
name_length zero = refl
name_length (suc zero) = refl
name_length (suc (suc zero)) = refl
name_length (suc (suc (suc n))) = refl

whole : (seed place : ℕ) → place < EVENTS → IsEventPart (part_of_event (made_event seed place))
whole seed place low =
    let small : drawn_at seed (3 * place + 1) % 8 < 8 = mod_below (drawn_at seed (3 * place + 1)) 8 (omega arith) in
    record {
      time = omega (arith, low);
      pid = omega (arith, small);
      tid = omega (arith, small);
      uid = omega arith;
      gid = omega arith;
      comm = name_length (drawn_at seed (3 * place) % 4);
      payload = omega arith;
    }

is_event : (seed place : ℕ) (format : Format) → IsLayoutOf TEXT format.layout → place < EVENTS → IsEvent (format ∷ []) (made_event seed place)
is_event seed place format h low = record {
  whole = whole seed place low;
  format = format;
  placed = refl;
  begins = ap (λ (n : ℕ). to_le_bytes w16 n) (sym (id_is format.layout h));
  long = let size = size_is format.layout h in omega (arith, size);
}

-- ---- the events of a CPU

each_end : {X : Type 0} (P : X → Type 0) (b : Bool) (xs : List X) (x : X) → AllByRecursion P xs → P x → AllByRecursion P (xs ++ cond b (x ∷ []) [])
each_end P true [] x all here = (here, tt)
each_end P false [] x all here = tt
each_end P b (y ∷ ys) x all here = (all.0, each_end P b ys x all.1 here)

-- from the one time on, the times of events never fall, up to the other; and the last of them
abbrev InTime : ℕ → ℕ → List Event → Type 0
InTime low high [] = Unit {0}
InTime low high (e ∷ es) = (low ≤ e.time) × (e.time ≤ high) × InTime e.time high es

abbrev last_of : ℕ → List Event → ℕ
last_of time [] = time
last_of time (e ∷ es) = last_of e.time es

entries_in_time : (low high : ℕ) (es : List Event) → InTime low high es → AreInTime (entries false) low high (map (λ (e : Event). entry.Event e) es)
entries_in_time low high [] all = tt
entries_in_time low high (e ∷ es) all = (all.0, all.1, entries_in_time e.time high es all.2)

entries_each : (formats : List Format) (es : List Event) → AllByRecursion (IsEvent formats) es → AllByRecursion (IsEntry false formats) (map (λ (e : Event). entry.Event e) es)
entries_each formats [] all = tt
entries_each formats (e ∷ es) all = (all.0, entries_each formats es all.1)

time_end : (b : Bool) (time : ℕ) (es : List Event) (e : Event) → last_of time (es ++ cond b (e ∷ []) []) ≡ cond b e.time (last_of time es)
time_end true time [] e = refl
time_end false time [] e = refl
time_end b time (f ∷ fs) e = time_end b f.time fs e

in_time_end : (b : Bool) (low high : ℕ) (es : List Event) (e : Event) → InTime low high es → last_of low es ≤ e.time → e.time ≤ high
    → InTime low high (es ++ cond b (e ∷ []) [])
in_time_end true low high [] e so_far after below = (after, below, tt)
in_time_end false low high [] e so_far after below = tt
in_time_end b low high (f ∷ fs) e so_far after below = (so_far.0, so_far.1, in_time_end b f.time high fs e so_far.2 after below)

short : (seed place : ℕ) → length (made_event seed place).payload < 2 ^ 32
short seed place = omega arith

pub short_events : (seed cpu n : ℕ) → AllByRecursion (λ (e : Event). length e.payload < 2 ^ 32) (events_on seed cpu n)
short_events seed cpu zero = tt
short_events seed cpu (suc n) = each_end (λ (e : Event). length e.payload < 2 ^ 32) (n % 4 == cpu) (events_on seed cpu n) (made_event seed n) (short_events seed cpu n) (short seed n)

each_event : (seed cpu n : ℕ) (format : Format) → IsLayoutOf TEXT format.layout → n ≤ EVENTS → AllByRecursion (IsEvent (format ∷ [])) (events_on seed cpu n)
each_event seed cpu zero format h few = tt
each_event seed cpu (suc n) format h few =
    each_end (IsEvent (format ∷ [])) (n % 4 == cpu) (events_on seed cpu n) (made_event seed n) (each_event seed cpu n format h (omega (arith, few))) (is_event seed n format h (omega (arith, few)))

last_time : (seed cpu n : ℕ) → last_of 0 (events_on seed cpu n) ≤ 1000 * n
last_time seed cpu zero = omega arith
last_time seed cpu (suc n) =
    let before = last_time seed cpu n in
    let now = time_end (n % 4 == cpu) 0 (events_on seed cpu n) (made_event seed n) in
    (elim (n % 4 == cpu) as (λ b. last_of 0 (events_on seed cpu (suc n)) ≡ cond b (1000 * (n + 1)) (last_of 0 (events_on seed cpu n)) → last_of 0 (events_on seed cpu (suc n)) ≤ 1000 * suc n) [
      | true ↦ λ e. omega (arith, e)
      | false ↦ λ e. omega (arith, e, before)
    ]) now

in_time : (seed cpu n : ℕ) → n ≤ EVENTS → InTime 0 2000000000 (events_on seed cpu n)
in_time seed cpu zero few = tt
in_time seed cpu (suc n) few =
    let before = last_time seed cpu n in
    in_time_end (n % 4 == cpu) 0 2000000000 (events_on seed cpu n) (made_event seed n) (in_time seed cpu n (omega (arith, few))) (omega (arith, before)) (omega (arith, few))

-- ---- how many events there are

one_of_four : {X : Type 0} (x : X) (m : ℕ) → m < 4
    → length (cond (m == 0) (x ∷ []) []) + (length (cond (m == 1) (x ∷ []) []) + (length (cond (m == 2) (x ∷ []) []) + length (cond (m == 3) (x ∷ []) []))) ≡ 1
one_of_four x zero low = refl
one_of_four x (suc zero) low = refl
one_of_four x (suc (suc zero)) low = refl
one_of_four x (suc (suc (suc zero))) low = refl
one_of_four x (suc (suc (suc (suc m)))) low = absurd (omega (arith, low))

all_counted : (seed n : ℕ) → length (events_on seed 0 n) + (length (events_on seed 1 n) + (length (events_on seed 2 n) + length (events_on seed 3 n))) ≡ n
all_counted seed zero = refl
all_counted seed (suc n) =
    let before = all_counted seed n in
    let one = one_of_four (made_event seed n) (n % 4) (mod_below n 4 (omega arith)) in
    let a = length-append (events_on seed 0 n) (cond (n % 4 == 0) (made_event seed n ∷ []) []) in
    let b = length-append (events_on seed 1 n) (cond (n % 4 == 1) (made_event seed n ∷ []) []) in
    let c = length-append (events_on seed 2 n) (cond (n % 4 == 2) (made_event seed n ∷ []) []) in
    let d = length-append (events_on seed 3 n) (cond (n % 4 == 3) (made_event seed n ∷ []) []) in
    omega (arith, before, one, a, b, c, d)

counted : (seed n cpu : ℕ) → length (map (λ (e : Event). entry.Event e) (events_on seed cpu n)) ≡ length (events_on seed cpu n)
counted seed n cpu = length-map (events_on seed cpu n) (λ (e : Event). entry.Event e)

-- ---- the recording

track : (seed count cpu : ℕ) (format : Format) → IsLayoutOf TEXT format.layout → cpu < 2 ^ 32 → count ≤ EVENTS → IsTrack false (format ∷ []) 0 2000000000 (made_track seed count cpu)
track seed count cpu format h low few = record {
  number = low;
  entries = record {
    each = entries_each (format ∷ []) (events_on seed cpu count) (each_event seed cpu count format h few);
    in_time = entries_in_time 0 2000000000 (events_on seed cpu count) (in_time seed cpu count few);
  };
}

abbrev written : (seed count : ℕ) (format : Format) → Recording
written seed count format = record {
  version = 1;
  start = 0;
  end = 2000000000;
  formats = format ∷ [];
  cpus = made_tracks seed count 4;
}

same : (seed count : ℕ) (r : Recording) (m : IsMade seed count r) → r ≡ written seed count m.format
same seed count r m = λ i. record { version = m.version i; start = m.start i; end = m.end i; formats = m.formats i; cpus = m.cpus i }

is_valid : (seed count : ℕ) (format : Format) → IsFormat format → IsLayoutOf TEXT format.layout → count ≤ EVENTS → IsValidRecording (written seed count format)
is_valid seed count format is h few = record {
  version = inl refl;
  start = omega arith;
  end = omega arith;
  span = omega arith;
  some_cpus = omega arith;
  few_cpus = omega arith;
  few_formats = omega arith;
  formats = record { each = (is, tt); apart = (tt, tt) };
  cpus = record {
    each = (
      track seed count 0 format h (omega arith) few,
      (
        track seed count 1 format h (omega arith) few,
        (track seed count 2 format h (omega arith) few, (track seed count 3 format h (omega arith) few, tt)),
      ),
    );
    numbered = (omega arith, (omega arith, (omega arith, (omega arith, tt))));
    few =
        let all = all_counted seed count in
        omega (arith, all, few, counted seed count 0, counted seed count 1, counted seed count 2, counted seed count 3);
  };
}

is_format : (format : Format) → format.system ≡ codes "raw_syscalls" → format.text ≡ TEXT → IsLayoutOf TEXT format.layout → IsFormat format
is_format format system text h = record {
  system = ap is_system system;
  short = let long = ap (λ (l : List ℕ). length l) text in omega (arith, long);
  layout = subst (λ (l : List ℕ). IsLayoutOf l format.layout) (sym text) h;
}

pub made_valid : (seed count : ℕ) (r : Recording) → count ≤ EVENTS → IsMade seed count r → IsValidRecording r
made_valid seed count r few m =
    subst IsValidRecording (sym (same seed count r m)) (is_valid seed count m.format (is_format m.format m.system m.text m.layout) m.layout few)

same_format : (a b : Format) → a.system ≡ b.system → a.text ≡ b.text → a.layout ≡ b.layout → a ≡ b
same_format a b system text layout = λ i. record { system = system i; text = text i; layout = layout i }

pub made_once : (seed count : ℕ) (a b : Recording) → IsMade seed count a → IsMade seed count b → a ≡ b
made_once seed count a b m n =
    same seed count a m
    ∙ ap (written seed count) (same_format m.format n.format (m.system ∙ sym n.system) (m.text ∙ sym n.text) (text_one_layout TEXT m.format.layout n.format.layout m.layout n.layout))
    ∙ sym (same seed count b n)
