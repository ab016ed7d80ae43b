-- The entries of a CPU, of any kind: one more, the next one that fails, and reading them as a function of the bytes.
use Rattle.std.proofs.Common.{◌≡◌, ℕ, ◌+◌, ◌<◌, ◌≤◌, true, false, cond, ◌||◌, Option, Some, None, Result, Ok, Err, List, [], ◌∷◌, ◌++◌, length, refl, ap, sym, subst, ◌∙◌, arith, inl, inr}
use Rattle.std.specs.Prelude.{nat_lt}
use Rattle.std.specs.List.{AllByRecursion}
use Rattle.std.proofs.lemmas.Bool.{ltb-false, le-ltb, or_parts}
use Rattle.event_layout.specs.declared.format.Format.{Format}
use Rattle.recordings.specs.declared.error.RecordingError.{RecordingError}
use Rattle.recordings.specs.declared.error.RecordingError.TheVariants as fault
use Rattle.recordings.specs.Entries.{EntryKind, entries_bytes, time_of, AreInTime, time_after, unless_first, entry_fault, NextEntryFails, EntryFails, HasEntries}
use Rattle.recordings.specs.Recordings.{AreFormats}
use Rattle.recordings.proofs.Fields.{IsBytes}
use Rattle.rec_format.proofs.Lists.{suffix_fits, each_more, spelled_more, length_more}
use Rattle.rec_format.proofs.Many.{then_read, whole_part, unless_fault, many, Chain, many_all, many_fails}
use Rattle.recordings.proofs.PartLaws.{Reads}
use Rattle.rec_format.proofs.HeadLaws.{cut_short, refused, nothing_read}

-- What is proved of a kind of entry on its own: how its parts are read, and which entry a part makes under the formats. An entry
-- is made again of its part, a fine one has no fault of its own, and a part without one makes a fine entry.
pub record IsReadable {E P : Type 0} (kind : EntryKind E P) : Type 0 where
  pub read : List ℕ → Option (P × List ℕ)
  pub reads : Reads read kind.IsWhole kind.spelling
  pub made : List Format → P → E
  pub spells : (formats : List Format) (cpu place : ℕ) (part : P) → kind.first_fault cpu place part ≡ None → kind.part_of (made formats part) ≡ part
  pub again : (formats : List Format) (e : E) → AreFormats formats → kind.IsFine formats e → made formats (kind.part_of e) ≡ e
  pub whole : (formats : List Format) (e : E) → kind.IsFine formats e → kind.IsWhole (kind.part_of e)
  pub faultless_first : (formats : List Format) (cpu place : ℕ) (e : E) → kind.IsFine formats e → kind.first_fault cpu place (kind.part_of e) ≡ None
  pub faultless : (formats : List Format) (cpu place : ℕ) (e : E) → AreFormats formats → kind.IsFine formats e → kind.own_fault formats cpu place (kind.part_of e) ≡ None
  pub fine : (formats : List Format) (cpu place : ℕ) (part : P) (after : List ℕ) → kind.IsWhole part → IsBytes (kind.spelling part ++ after) → kind.first_fault cpu place part ≡ None → kind.own_fault formats cpu place part ≡ None → kind.IsFine formats (made formats part)

-- ---- times

time_more : {E P : Type 0} (kind : EntryKind E P) (time : ℕ) (es : List E) (e : E) → time_after kind time (es ++ e ∷ []) ≡ time_of kind e
time_more kind time [] e = refl
time_more kind time (f ∷ fs) e = time_more kind (time_of kind f) fs e

in_time_more : {E P : Type 0} (kind : EntryKind E P) (earliest latest : ℕ) (es : List E) (e : E) → AreInTime kind earliest latest es → time_after kind earliest es ≤ time_of kind e → time_of kind e ≤ latest
    → AreInTime kind earliest latest (es ++ e ∷ [])
in_time_more kind earliest latest [] e so_far low high = (low, high, tt)
in_time_more kind earliest latest (f ∷ fs) e so_far low high = (so_far.0, so_far.1, in_time_more kind (time_of kind f) latest fs e so_far.2 low high)

-- what a part that passes has
record Passes {E P : Type 0} (kind : EntryKind E P) (formats : List Format) (earliest latest cpu place : ℕ) (part : P) : Type 0 where
  low : earliest ≤ kind.time part
  high : kind.time part ≤ latest
  own : kind.own_fault formats cpu place part ≡ None
  first : kind.first_fault cpu place part ≡ None

none_first : (a b : Option RecordingError) → unless_first a b ≡ None → (a ≡ None) × (b ≡ None)
none_first None b h = (refl, h)
none_first (Some e) b h = absurd cc

passes : {E P : Type 0} (kind : EntryKind E P) (formats : List Format) (earliest latest cpu place : ℕ) (part : P) → entry_fault kind formats earliest latest cpu place part ≡ None
    → Passes kind formats earliest latest cpu place part
passes kind formats earliest latest cpu place part none =
    let time : ℕ = kind.time part in
    let own : Option RecordingError = kind.own_fault formats cpu place part in
    let first_is = none_first (kind.first_fault cpu place part) (cond (nat_lt time earliest || nat_lt latest time) (Some (fault.TimeOrder cpu place)) own) none in
    (elim (nat_lt time earliest || nat_lt latest time) as (λ b. (nat_lt time earliest || nat_lt latest time) ≡ b → cond b (Some (fault.TimeOrder cpu place)) own ≡ None → Passes kind formats earliest latest cpu place part) [
      | true ↦ λ e h. absurd cc
      | false ↦ λ e h.
          let times = or_parts (nat_lt time earliest) (nat_lt latest time) e in
          record { low = ltb-false time earliest times.0; high = ltb-false latest time times.1; own = h; first = first_is.0 }
    ]) refl first_is.1

pub first_passes : {E P : Type 0} (kind : EntryKind E P) (formats : List Format) (earliest latest cpu place : ℕ) (part : P) → entry_fault kind formats earliest latest cpu place part ≡ None → kind.first_fault cpu place part ≡ None
first_passes kind formats earliest latest cpu place part none = (passes kind formats earliest latest cpu place part none).first

-- a part that passes
passing : {E P : Type 0} (kind : EntryKind E P) (formats : List Format) (earliest latest cpu place : ℕ) (part : P) → earliest ≤ kind.time part → kind.time part ≤ latest → kind.first_fault cpu place part ≡ None → kind.own_fault formats cpu place part ≡ None
    → entry_fault kind formats earliest latest cpu place part ≡ None
passing kind formats earliest latest cpu place part low high first own =
    let time : ℕ = kind.time part in
    let rest : Option RecordingError = kind.own_fault formats cpu place part in
    ap (λ o. unless_first o (cond (nat_lt time earliest || nat_lt latest time) (Some (fault.TimeOrder cpu place)) rest)) first
    ∙ ap (λ b. cond (b || nat_lt latest time) (Some (fault.TimeOrder cpu place)) rest) (le-ltb time earliest low)
    ∙ ap (λ b. cond b (Some (fault.TimeOrder cpu place)) rest) (le-ltb latest time high) ∙ own

-- ---- one more

pub entry_next : {E P : Type 0} (kind : EntryKind E P) (r : IsReadable kind) (formats : List Format) (start end cpu n earliest : ℕ) (bytes rest after : List ℕ) (es later : List E) (part : P) → IsBytes bytes
    → HasEntries kind formats start end n bytes es rest → earliest ≡ time_after kind start es → r.read rest ≡ Some (part, after) → entry_fault kind formats earliest end cpu n part ≡ None
    → later ≡ es ++ r.made formats part ∷ []
    → HasEntries kind formats start end (n + 1) bytes later after × (kind.time part ≡ time_after kind start later)
entry_next {E} kind r formats start end cpu n earliest bytes rest after es later part fits has time some none added =
    let rest_fits = suffix_fits (entries_bytes kind es) rest bytes has.spelled fits in
    let taken = r.reads.takes rest part after rest_fits some in
    let p = passes kind formats earliest end cpu n part none in
    let e : E = r.made formats part in
    let spelled : kind.part_of e ≡ part = r.spells formats cpu n part p.first in
    let same_time : time_of kind e ≡ kind.time part = ap kind.time spelled in
    let fine = r.fine formats cpu n part after taken.1 (subst IsBytes taken.0.parts rest_fits) p.first p.own in
    let low : time_after kind start es ≤ time_of kind e = omega (arith, p.low, time, same_time) in
    let high : time_of kind e ≤ end = omega (arith, p.high, same_time) in
    let more : HasEntries kind formats start end (n + 1) bytes (es ++ e ∷ []) after = record {
      spelled = spelled_more (λ f. kind.spelling (kind.part_of f)) es e bytes rest (kind.spelling part) after has.spelled taken.0.parts (ap kind.spelling (sym spelled));
      pass = record { each = each_more (kind.IsFine formats) es e has.pass.each fine; in_time = in_time_more kind start end es e has.pass.in_time low high };
      counted = length_more es e n has.counted;
    } in
    (subst (λ fs. HasEntries kind formats start end (n + 1) bytes fs after) (sym added) more, sym same_time ∙ sym (time_more kind start es e) ∙ ap (time_after kind start) (sym added))

pub entry_cut : {E P : Type 0} (kind : EntryKind E P) (r : IsReadable kind) (whole : ℕ) (formats : List Format) (start end cpu count n : ℕ) (bytes rest : List ℕ) (es : List E) → n < count
    → HasEntries kind formats start end n bytes es rest → r.read rest ≡ None → EntryFails kind whole formats start end cpu count bytes (fault.Truncated whole)
entry_cut kind r whole formats start end cpu count n bytes rest es lt has none = record {
  entries = es;
  rest = rest;
  spelled = has.spelled;
  pass = has.pass;
  due = omega (arith, has.counted);
  fails = inl (cut_short r.reads whole rest none);
}

pub entry_refused : {E P : Type 0} (kind : EntryKind E P) (r : IsReadable kind) (whole : ℕ) (formats : List Format) (start end cpu count n earliest : ℕ) (bytes rest after : List ℕ) (es : List E) (part : P) (e : RecordingError)
    → IsBytes bytes → n < count → HasEntries kind formats start end n bytes es rest → earliest ≡ time_after kind start es → r.read rest ≡ Some (part, after)
    → entry_fault kind formats earliest end cpu n part ≡ Some e → EntryFails kind whole formats start end cpu count bytes e
entry_refused kind r whole formats start end cpu count n earliest bytes rest after es part e fits lt has time some wrong = record {
  entries = es;
  rest = rest;
  spelled = has.spelled;
  pass = has.pass;
  due = omega (arith, has.counted);
  fails = inr (refused r.reads (λ p e. entry_fault kind formats (time_after kind start es) end cpu (length es) p ≡ Some e) rest part after e (suffix_fits (entries_bytes kind es) rest bytes has.spelled fits) some
      (ap (λ (m : ℕ). entry_fault kind formats (time_after kind start es) end cpu m part) has.counted ∙ ap (λ (t : ℕ). entry_fault kind formats t end cpu n part) (sym time) ∙ wrong));
}

-- ---- reading as a function of the bytes

abbrev after_entry : {E P : Type 0} (kind : EntryKind E P) → IsReadable kind → List Format → ℕ → ℕ → ℕ → List E → Result (P × List ℕ) RecordingError → Result (E × List ℕ) RecordingError
after_entry kind r formats start end cpu acc o = then_read o (λ p. unless_fault (entry_fault kind formats (time_after kind start acc) end cpu (length acc) p.0) (r.made formats p.0, p.1))

pub read_entry : {E P : Type 0} (kind : EntryKind E P) → IsReadable kind → ℕ → List Format → ℕ → ℕ → ℕ → List E → List ℕ → Result (E × List ℕ) RecordingError
read_entry kind r whole formats start end cpu acc bytes = after_entry kind r formats start end cpu acc (whole_part whole (r.read bytes))

record EntryFits {E P : Type 0} (kind : EntryKind E P) (formats : List Format) (start end : ℕ) (acc : List E) (e : E) : Type 0 where
  is : kind.IsFine formats e
  low : time_after kind start acc ≤ time_of kind e
  high : time_of kind e ≤ end

entry_step : {E P : Type 0} (kind : EntryKind E P) (r : IsReadable kind) (whole : ℕ) (formats : List Format) (start end cpu : ℕ) → AreFormats formats → (acc : List E) (e : E) (rest : List ℕ) → EntryFits kind formats start end acc e
    → read_entry kind r whole formats start end cpu acc (kind.spelling (kind.part_of e) ++ rest) ≡ Ok (e, rest)
unfolding read_entry
entry_step {E} {P} kind r whole formats start end cpu pass acc e rest fits =
    let part : P = kind.part_of e in
    ap (λ o. after_entry kind r formats start end cpu acc (whole_part whole o)) (r.reads.again part rest (r.whole formats e fits.is))
    ∙ ap (λ o. unless_fault o (r.made formats part, rest)) (passing kind formats (time_after kind start acc) end cpu (length acc) part fits.low fits.high (r.faultless_first formats cpu (length acc) e fits.is) (r.faultless formats cpu (length acc) e pass fits.is))
    ∙ ap (λ (x : E). Ok (x, rest)) (r.again formats e pass fits.is)

entry_stops : {E P : Type 0} (kind : EntryKind E P) (r : IsReadable kind) (whole : ℕ) (formats : List Format) (start end cpu : ℕ) (acc : List E) (bytes : List ℕ) (e : RecordingError) → IsBytes bytes
    → NextEntryFails kind whole formats start end cpu acc bytes e → read_entry kind r whole formats start end cpu acc bytes ≡ Err e
unfolding read_entry
entry_stops kind r whole formats start end cpu acc bytes e fits (inl cut) =
    ap (λ o. after_entry kind r formats start end cpu acc (whole_part whole o)) (nothing_read r.reads whole bytes e fits cut) ∙ ap (λ (x : RecordingError). Err x) (sym cut.told)
entry_stops kind r whole formats start end cpu acc bytes e fits (inr wrong) =
    ap (λ o. after_entry kind r formats start end cpu acc (whole_part whole o)) (ap r.read wrong.spelled ∙ r.reads.again wrong.part wrong.rest wrong.is_whole)
    ∙ ap (λ o. unless_fault o (r.made formats wrong.part, wrong.rest)) wrong.has_fault

entries_chain : {E P : Type 0} (kind : EntryKind E P) (formats : List Format) (start end : ℕ) (es acc : List E) → AllByRecursion (kind.IsFine formats) es → AreInTime kind (time_after kind start acc) end es
    → Chain (EntryFits kind formats start end) acc es
entries_chain kind formats start end [] acc each in_time = tt
entries_chain kind formats start end (e ∷ es) acc each in_time = (
  record { is = each.0; low = in_time.0; high = in_time.1 },
  entries_chain kind formats start end es (acc ++ e ∷ []) each.1 (subst (λ (t : ℕ). AreInTime kind t end es) (sym (time_more kind start acc e)) in_time.2),
)

pub entries_again : {E P : Type 0} (kind : EntryKind E P) (r : IsReadable kind) (whole : ℕ) (formats : List Format) (start end cpu n : ℕ) (bytes rest : List ℕ) (es : List E) → AreFormats formats
    → HasEntries kind formats start end n bytes es rest → many (read_entry kind r whole formats start end cpu) n [] bytes ≡ Ok (es, rest)
entries_again kind r whole formats start end cpu n bytes rest es pass has =
    many_all (read_entry kind r whole formats start end cpu) (λ e. kind.spelling (kind.part_of e)) (EntryFits kind formats start end) (entry_step kind r whole formats start end cpu pass) es n bytes rest
    (entries_chain kind formats start end es [] has.pass.each has.pass.in_time) has.counted has.spelled

pub entries_fail : {E P : Type 0} (kind : EntryKind E P) (r : IsReadable kind) (whole : ℕ) (formats : List Format) (start end cpu n : ℕ) (bytes : List ℕ) (e : RecordingError) → IsBytes bytes → AreFormats formats
    → EntryFails kind whole formats start end cpu n bytes e → many (read_entry kind r whole formats start end cpu) n [] bytes ≡ Err e
entries_fail kind r whole formats start end cpu n bytes e fits pass f =
    many_fails (read_entry kind r whole formats start end cpu) (λ e. kind.spelling (kind.part_of e)) (EntryFits kind formats start end) (entry_step kind r whole formats start end cpu pass) f.entries n bytes f.rest e
    (entries_chain kind formats start end f.entries [] f.pass.each f.pass.in_time) f.due f.spelled
    (entry_stops kind r whole formats start end cpu f.entries f.rest e (suffix_fits (entries_bytes kind f.entries) f.rest bytes f.spelled fits) f.fails)
