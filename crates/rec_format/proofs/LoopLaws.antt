-- One format and one CPU more, as the reader goes.
use Rattle.std.proofs.Common.{◌≡◌, ℕ, ◌+◌, ◌<◌, ◌≤◌, Bool, true, false, cond, Option, Some, None, List, [], ◌∷◌, ◌++◌, length, refl, ap, sym, subst, ◌∙◌, append_assoc, arith, inl, inr}
use Rattle.std.specs.Prelude.{nat_lt}
use Rattle.std.specs.List.{list_any}
use Rattle.std.proofs.lemmas.Bool.{ltb-false, or_parts}
use Rattle.std.proofs.lemmas.List.Sums.{sum_by-append}
use Rattle.bt_core.specs.declared.limits.TheConstants.{EVENTS}
use Rattle.event_layout.specs.declared.format.Format.{Format}
use Rattle.recordings.specs.declared.error.RecordingError.{RecordingError}
use Rattle.recordings.specs.declared.error.RecordingError.TheVariants as fault
use Rattle.recordings.specs.declared.error.CountOf.TheVariants as count
use Rattle.recordings.specs.declared.recording.CpuTrack.{CpuTrack}
use Rattle.recordings.specs.declared.recording.Entry.{Entry}
use Rattle.recordings.specs.Parts.{FormatPart, format_bytes, CpuPart, cpu_bytes}
use Rattle.rec_format.specs.Heads.{format_at, cpu_at}
use Rattle.recordings.specs.Checks.{is_same_event, format_of, IsFormatFault, cpu_fault}
use Rattle.recordings.specs.Entries.{entries_bytes, EntryFails, HasEntries}
use Rattle.recordings.specs.EntryParts.{entries}
use Rattle.recordings.specs.Recordings.{part_of_format, formats_bytes, track_bytes, tracks_bytes, total_entries, IsFormat, AreApart, IsTrack, AreNumbered}
use Rattle.rec_format.specs.Faults.{FormatFails, HasFormats, least_after, HeadHasFault, TrackFails, CpuFails, HasTracks}
use Rattle.rec_format.specs.Answers.{AddsFormat}
use Rattle.recordings.proofs.Fields.{IsBytes}
use Rattle.rec_format.proofs.Lists.{suffix_fits, each_more, spelled_more, length_more}
use Rattle.rec_format.proofs.HeadLaws.{format_reads, cpu_reads, cut_short, refused}

-- ---- formats

apart_more : (fs : List Format) (g : Format) → AreApart fs → list_any (is_same_event g) fs ≡ false → AreApart (fs ++ g ∷ [])
apart_more [] g apart new = (tt, tt)
apart_more (f ∷ fs) g apart new =
    let tests = or_parts (is_same_event g f) (list_any (is_same_event g) fs) new in
    (each_more (λ x. is_same_event x f ≡ false) fs g apart.0 tests.0, apart_more fs g apart.1 tests.1)

pub format_next : (n : ℕ) (bytes rest after : List ℕ) (fs later : List Format) (part : FormatPart) → IsBytes bytes → HasFormats n bytes fs rest → format_at rest ≡ Some (part, after) → AddsFormat fs part later
    → HasFormats (n + 1) bytes later after
format_next n bytes rest after fs later part fits has some adds =
    let taken = format_reads.takes rest part after (suffix_fits (formats_bytes fs) rest bytes has.spelled fits) some in
    let f : Format = format_of part adds.layout in
    let is : IsFormat f = record { system = adds.system; short = taken.1.text; layout = adds.read } in
    let more : HasFormats (n + 1) bytes (fs ++ f ∷ []) after = record {
      spelled = spelled_more (λ g. format_bytes (part_of_format g)) fs f bytes rest (format_bytes part) after has.spelled taken.0.parts refl;
      pass = record { each = each_more IsFormat fs f has.pass.each is; apart = apart_more fs f has.pass.apart adds.apart };
      counted = length_more fs f n has.counted;
    } in
    subst (λ gs. HasFormats (n + 1) bytes gs after) (sym adds.added) more

pub format_cut : (whole count n : ℕ) (bytes rest : List ℕ) (fs : List Format) → n < count → HasFormats n bytes fs rest → format_at rest ≡ None → FormatFails whole count bytes (fault.Truncated whole)
format_cut whole count n bytes rest fs lt has none = record {
  formats = fs;
  rest = rest;
  spelled = has.spelled;
  pass = has.pass;
  due = omega (arith, has.counted);
  fails = inl (cut_short format_reads whole rest none);
}

pub format_refused : (whole count n : ℕ) (bytes rest after : List ℕ) (fs : List Format) (part : FormatPart) (e : RecordingError) → IsBytes bytes → n < count → HasFormats n bytes fs rest
    → format_at rest ≡ Some (part, after) → IsFormatFault fs part e → FormatFails whole count bytes e
format_refused whole count n bytes rest after fs part e fits lt has some wrong = record {
  formats = fs;
  rest = rest;
  spelled = has.spelled;
  pass = has.pass;
  due = omega (arith, has.counted);
  fails = inr (refused format_reads (IsFormatFault fs) rest part after e (suffix_fits (formats_bytes fs) rest bytes has.spelled fits) some wrong);
}

-- ---- CPUs

pub least_more : (least : ℕ) (cs : List CpuTrack) (c : CpuTrack) → least_after least (cs ++ c ∷ []) ≡ c.number + 1
least_more least [] c = refl
least_more least (d ∷ ds) c = least_more (d.number + 1) ds c

pub total_more : (cs : List CpuTrack) (c : CpuTrack) → total_entries (cs ++ c ∷ []) ≡ total_entries cs + length c.entries
total_more cs c = omega (arith, sum_by-append (λ (d : CpuTrack). length d.entries) cs (c ∷ []))

pub total_first : (c : CpuTrack) (cs : List CpuTrack) → total_entries (c ∷ cs) ≡ length c.entries + total_entries cs
total_first c cs = omega (arith, sum_by-append (λ (d : CpuTrack). length d.entries) (c ∷ []) cs)

pub numbered_more : (least : ℕ) (cs : List CpuTrack) (c : CpuTrack) → AreNumbered least cs → least_after least cs ≤ c.number → AreNumbered least (cs ++ c ∷ [])
numbered_more least [] c so_far low = (low, tt)
numbered_more least (d ∷ ds) c so_far low = (so_far.0, numbered_more (d.number + 1) ds c so_far.1 low)

record HeadPasses (least announced : ℕ) (head : CpuPart) : Type 0 where
  low : least ≤ head.number
  few : announced + head.entries ≤ EVENTS

head_passes : (place least announced : ℕ) (head : CpuPart) → cpu_fault place least announced head ≡ None → HeadPasses least announced head
head_passes place least announced head none =
    let on_events : Bool → Option RecordingError = λ b. cond b (Some (fault.Count count.Events)) None in
    (elim (nat_lt head.number least) as (λ b. nat_lt head.number least ≡ b → cond b (Some (fault.CpuNumber place)) (on_events (nat_lt EVENTS (announced + head.entries))) ≡ None → HeadPasses least announced head) [
      | true ↦ λ e h. absurd cc
      | false ↦ λ e h.
          (elim (nat_lt EVENTS (announced + head.entries)) as (λ b. nat_lt EVENTS (announced + head.entries) ≡ b → on_events b ≡ None → HeadPasses least announced head) [
            | true ↦ λ f g. absurd cc
            | false ↦ λ f g. record { low = ltb-false head.number least e; few = ltb-false EVENTS (announced + head.entries) f }
          ]) refl h
    ]) refl none

-- the events that a head announces are few enough
pub head_few : (place least announced : ℕ) (head : CpuPart) → cpu_fault place least announced head ≡ None → announced + head.entries ≤ EVENTS
head_few place least announced head none = (head_passes place least announced head none).few

-- what is kept of the CPUs so far: the least number that the next may have, and how many events were announced
pub record Counts (cs : List CpuTrack) (least announced : ℕ) : Type 0 where
  pub least_is : least ≡ least_after 0 cs
  pub announced_is : announced ≡ total_entries cs

pub track_next : (marks : Bool) (formats : List Format) (start end n least announced : ℕ) (bytes rest after behind : List ℕ) (cs later : List CpuTrack) (es : List Entry) (head : CpuPart) → IsBytes bytes
    → HasTracks marks formats start end n bytes cs rest → Counts cs least announced → cpu_at rest ≡ Some (head, after) → cpu_fault n least announced head ≡ None → HasEntries (entries marks) formats start end head.entries after es behind
    → later ≡ cs ++ record { number = head.number; entries = es } ∷ []
    → HasTracks marks formats start end (n + 1) bytes later behind × Counts later (head.number + 1) (announced + head.entries)
track_next marks formats start end n least announced bytes rest after behind cs later es head fits has counts some none stand added =
    let taken = cpu_reads.takes rest head after (suffix_fits (tracks_bytes marks cs) rest bytes has.spelled fits) some in
    let p = head_passes n least announced head none in
    let c : CpuTrack = record { number = head.number; entries = es } in
    let is : IsTrack marks formats start end c = record { number = taken.1.number; entries = stand.pass } in
    let low : least_after 0 cs ≤ head.number = omega (arith, p.low, counts.least_is) in
    let total : total_entries (cs ++ c ∷ []) ≡ announced + head.entries = omega (arith, total_more cs c, counts.announced_is, stand.counted) in
    let spelled : rest ≡ track_bytes marks c ++ behind =
    taken.0.parts ∙ ap (λ (l : List ℕ). cpu_bytes head ++ l) stand.spelled ∙ sym (append_assoc (cpu_bytes head) (entries_bytes (entries marks) es) behind)
    ∙ ap (λ (m : ℕ). (cpu_bytes (record { number = head.number; entries = m }) ++ entries_bytes (entries marks) es) ++ behind) (sym stand.counted) in
    let more : HasTracks marks formats start end (n + 1) bytes (cs ++ c ∷ []) behind = record {
      spelled = spelled_more (track_bytes marks) cs c bytes rest (track_bytes marks c) behind has.spelled spelled refl;
      pass = record { each = each_more (IsTrack marks formats start end) cs c has.pass.each is; numbered = numbered_more 0 cs c has.pass.numbered low; few = omega (arith, total, p.few) };
      counted = length_more cs c n has.counted;
    } in
    let now : Counts (cs ++ c ∷ []) (head.number + 1) (announced + head.entries) = record { least_is = sym (least_more 0 cs c); announced_is = sym total } in
    let P : List CpuTrack → Type 0 = λ ds. HasTracks marks formats start end (n + 1) bytes ds behind × Counts ds (head.number + 1) (announced + head.entries) in
    subst P (sym added) (more, now)

pub cpu_cut : (marks : Bool) (whole : ℕ) (formats : List Format) (start end count n : ℕ) (bytes rest : List ℕ) (cs : List CpuTrack) → n < count → HasTracks marks formats start end n bytes cs rest → cpu_at rest ≡ None
    → CpuFails marks whole formats start end count bytes (fault.Truncated whole)
cpu_cut marks whole formats start end count n bytes rest cs lt has none = record {
  cpus = cs;
  rest = rest;
  spelled = has.spelled;
  pass = has.pass;
  due = omega (arith, has.counted);
  fails = inl (cut_short cpu_reads whole rest none);
}

head_at : (cs : List CpuTrack) (n least announced : ℕ) (head : CpuPart) → length cs ≡ n → Counts cs least announced → cpu_fault (length cs) (least_after 0 cs) (total_entries cs) head ≡ cpu_fault n least announced head
head_at cs n least announced head counted counts =
    ap (λ (m : ℕ). cpu_fault m (least_after 0 cs) (total_entries cs) head) counted
    ∙ ap (λ (m : ℕ). cpu_fault n m (total_entries cs) head) (sym counts.least_is)
    ∙ ap (λ (m : ℕ). cpu_fault n least m head) (sym counts.announced_is)

pub cpu_refused : (marks : Bool) (whole : ℕ) (formats : List Format) (start end count n least announced : ℕ) (bytes rest after : List ℕ) (cs : List CpuTrack) (head : CpuPart) (e : RecordingError) → IsBytes bytes → n < count
    → HasTracks marks formats start end n bytes cs rest → Counts cs least announced → cpu_at rest ≡ Some (head, after) → cpu_fault n least announced head ≡ Some e → CpuFails marks whole formats start end count bytes e
cpu_refused marks whole formats start end count n least announced bytes rest after cs head e fits lt has counts some wrong = record {
  cpus = cs;
  rest = rest;
  spelled = has.spelled;
  pass = has.pass;
  due = omega (arith, has.counted);
  fails = inr (inl (refused cpu_reads (HeadHasFault cs) rest head after e (suffix_fits (tracks_bytes marks cs) rest bytes has.spelled fits) some
      (head_at cs n least announced head has.counted counts ∙ wrong)));
}

pub track_fails : (marks : Bool) (whole : ℕ) (formats : List Format) (start end count n least announced : ℕ) (bytes rest after : List ℕ) (cs : List CpuTrack) (head : CpuPart) (e : RecordingError) → IsBytes bytes → n < count
    → HasTracks marks formats start end n bytes cs rest → Counts cs least announced → cpu_at rest ≡ Some (head, after) → cpu_fault n least announced head ≡ None → EntryFails (entries marks) whole formats start end n head.entries after e
    → CpuFails marks whole formats start end count bytes e
track_fails marks whole formats start end count n least announced bytes rest after cs head e fits lt has counts some none fails =
    let taken = cpu_reads.takes rest head after (suffix_fits (tracks_bytes marks cs) rest bytes has.spelled fits) some in
    let in_track : TrackFails marks whole formats start end cs rest e = record {
      head = head;
      rest = after;
      spelled = taken.0.parts;
      is_whole = taken.1;
      passes = head_at cs n least announced head has.counted counts ∙ none;
      fails = subst (λ (m : ℕ). EntryFails (entries marks) whole formats start end m head.entries after e) (sym has.counted) fails;
    } in
    record { cpus = cs; rest = rest; spelled = has.spelled; pass = has.pass; due = omega (arith, has.counted); fails = inr (inr in_track) }
