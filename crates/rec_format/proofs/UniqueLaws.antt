-- Bytes are one recording or have one fault: a reading that is a function of the bytes goes the same way.
use Rattle.std.proofs.Common.{◌≡◌, ◌≢◌, ◌⊎◌, ℕ, ◌+◌, ◌-◌, ◌≤◌, Bool, false, cond, ◌||◌, Option, Some, None, Result, Ok, Err, List, [], ◌∷◌, ◌++◌, length, refl, ap, sym, subst, ◌∙◌, append_assoc, arith, inl, inr}
use Rattle.std.specs.Prelude.{nat_lt, nat_le, ◌&&◌, ◌==◌, IfOk, IfErr}
use Rattle.std.specs.List.{list_all, list_any, AllByRecursion}
use Rattle.std.proofs.lemmas.Bool.{le-ltb, ne_eqb, leb-true, and_parts}
use Rattle.std.proofs.lemmas.List.{append-nil, length-append}
use Rattle.std.proofs.lemmas.Option.{same_Some}
use Rattle.bt_core.specs.declared.limits.TheConstants.{CPUS, FORMATS, EVENTS}
use Rattle.event_layout.specs.declared.format.Format.{Format}
use Rattle.event_layout.specs.declared.error.FormatError.{FormatError}
use Rattle.event_layout.specs.declared.layout.Layout.{Layout}
use Rattle.event_layout.specs.Layouts.{IsLayoutOf, layout_fault}
use Rattle.tracefs_format.proofs.ForOthers.{text_layout_or_fault, text_no_fault, text_one_layout}
use Rattle.recordings.specs.declared.limits.TheConstants.{SYSTEM_BYTES}
use Rattle.recordings.specs.declared.error.RecordingError.{RecordingError}
use Rattle.recordings.specs.declared.error.RecordingError.TheVariants as fault
use Rattle.recordings.specs.declared.error.CountOf.TheVariants as count
use Rattle.recordings.specs.declared.recording.Recording.{Recording}
use Rattle.recordings.specs.declared.recording.CpuTrack.{CpuTrack}
use Rattle.recordings.specs.declared.recording.Entry.{Entry}
use Rattle.recordings.specs.Parts.{HeaderPart, header_bytes, FormatPart, IsFormatPart, format_bytes, CpuPart, IsCpuPart, cpu_bytes}
use Rattle.rec_format.specs.Heads.{header_at, format_at, cpu_at}
use Rattle.recordings.specs.Stops.{IsCutShort, IsRefused}
use Rattle.recordings.specs.Checks.{version_of, has_marks, header_fault, is_system_byte, is_system, is_same_event, format_of, IsFormatFault, cpu_fault}
use Rattle.recordings.specs.Entries.{entries_bytes, HasEntries}
use Rattle.recordings.specs.EntryParts.{entries}
use Rattle.recordings.specs.Recordings.{header_of, part_of_format, head_of_track, formats_bytes, track_bytes, tracks_bytes, recording_bytes, total_entries, IsFormat, AreApart, AreFormats, IsTrack, AreNumbered, IsValidRecording}
use Rattle.rec_format.specs.Faults.{HeaderFails, HasHeader, FormatFails, HasFormats, least_after, HeadHasFault, TrackFails, CpuFails, HasTracks, IsRecordingFault}
use Rattle.rec_format.specs.Answers.{Answers, IsSpelled}
use Rattle.recordings.proofs.Fields.{IsBytes}
use Rattle.rec_format.proofs.Lists.{suffix_fits}
use Rattle.rec_format.proofs.Many.{then_read, whole_part, unless_fault, many, Chain, many_all, many_fails}
use Rattle.rec_format.proofs.HeadLaws.{header_reads, format_reads, cpu_reads, nothing_read}
use Rattle.rec_format.proofs.EntryLaws.{read_entry, entries_again, entries_fail}
use Rattle.rec_format.proofs.KindLaws.{readable}
use Rattle.rec_format.proofs.LoopLaws.{least_more, total_more, total_first}
use Rattle.rec_format.proofs.Versions.{magic_passes, magic_long, version_back}

-- ---- the header

read_header : List ℕ → Result (HeaderPart × List ℕ) RecordingError
read_header bytes = then_read (whole_part (length bytes) (header_at bytes)) (λ h. unless_fault (header_fault h.0) h)

header_again : (bytes : List ℕ) (h : HeaderPart) (rest : List ℕ) → HasHeader bytes h rest → read_header bytes ≡ Ok (h, rest)
unfolding read_header
header_again bytes h rest has =
    ap (λ o. then_read (whole_part (length bytes) o) (λ h. unless_fault (header_fault h.0) h)) (ap header_at has.spelled ∙ header_reads.again h rest has.is_whole)
    ∙ ap (λ o. unless_fault o (h, rest)) has.passes

header_fails : (bytes : List ℕ) (e : RecordingError) → IsBytes bytes → HeaderFails bytes e → read_header bytes ≡ Err e
unfolding read_header
header_fails bytes e fits (inl cut) =
    ap (λ o. then_read (whole_part (length bytes) o) (λ h. unless_fault (header_fault h.0) h)) (nothing_read header_reads (length bytes) bytes e fits cut) ∙ ap (λ (x : RecordingError). Err x) (sym cut.told)
header_fails bytes e fits (inr r) =
    ap (λ o. then_read (whole_part (length bytes) o) (λ h. unless_fault (header_fault h.0) h)) (ap header_at r.spelled ∙ header_reads.again r.part r.rest r.is_whole)
    ∙ ap (λ o. unless_fault o (r.part, r.rest)) r.has_fault

-- ---- a format

abbrev layout_read : (text : List ℕ) → ((layout : Layout) × IsLayoutOf text layout) ⊎ ((e : FormatError) × (layout_fault text ≡ Some e)) → Result Layout FormatError
layout_read text (inl l) = Ok l.0
layout_read text (inr e) = Err e.0

read_text : List ℕ → Result Layout FormatError
read_text text = layout_read text (text_layout_or_fault text)

text_again : (text : List ℕ) (layout : Layout) → IsLayoutOf text layout → read_text text ≡ Ok layout
unfolding read_text
text_again text layout is = (elim (text_layout_or_fault text) as (λ o. layout_read text o ≡ Ok layout) [
  | inl l ↦ ap (λ (x : Layout). Ok x) (text_one_layout text l.0 layout l.1 is)
  | inr e ↦ let clash : None ≡ Some e.0 = sym (text_no_fault text layout is) ∙ e.1 in absurd cc
])

text_fails : (text : List ℕ) (e : FormatError) → layout_fault text ≡ Some e → read_text text ≡ Err e
unfolding read_text
text_fails text e broken = (elim (text_layout_or_fault text) as (λ o. layout_read text o ≡ Err e) [
  | inl l ↦ let clash : None ≡ Some e = sym (text_no_fault text l.0 l.1) ∙ broken in absurd cc
  | inr f ↦ ap (λ (x : FormatError). Err x) (same_Some f.0 e (sym f.1 ∙ broken))
])

-- the format of a part whose text says this
abbrev with_layout : List Format → FormatPart → Result Layout FormatError → Result Format RecordingError
with_layout earlier part (Ok layout) = cond (list_any (is_same_event (format_of part layout)) earlier) (Err (fault.SameEvent (length earlier))) (Ok (format_of part layout))
with_layout earlier part (Err e) = Err (fault.Format (length earlier) e)

abbrev checked_format : List Format → FormatPart → Result Format RecordingError
checked_format earlier part = cond (is_system part.system) (with_layout earlier part (read_text part.text)) (Err (fault.BadSystem (length earlier)))

read_format : ℕ → List Format → List ℕ → Result (Format × List ℕ) RecordingError
read_format whole earlier bytes = then_read (whole_part whole (format_at bytes)) (λ p. then_read (checked_format earlier p.0) (λ f. Ok (f, p.1)))

record FormatFits (earlier : List Format) (f : Format) : Type 0 where
  is : IsFormat f
  apart : list_any (is_same_event f) earlier ≡ false

abbrev after_format : List Format → Result (FormatPart × List ℕ) RecordingError → Result (Format × List ℕ) RecordingError
after_format earlier r = then_read r (λ p. then_read (checked_format earlier p.0) (λ f. Ok (f, p.1)))

system_short : (f : Format) → IsFormat f → IsFormatPart (part_of_format f)
system_short f is =
    let tests = and_parts (nat_lt 0 (length f.system) && nat_le (length f.system) SYSTEM_BYTES) (list_all is_system_byte f.system) is.system in
    let lengths = and_parts (nat_lt 0 (length f.system)) (nat_le (length f.system) SYSTEM_BYTES) tests.0 in
    let short = leb-true (length f.system) SYSTEM_BYTES lengths.1 in
    record { system = omega arith; text = is.short }

format_step : (whole : ℕ) (earlier : List Format) (f : Format) (rest : List ℕ) → FormatFits earlier f → read_format whole earlier (format_bytes (part_of_format f) ++ rest) ≡ Ok (f, rest)
unfolding read_format
format_step whole earlier f rest fits =
    ap (λ o. after_format earlier (whole_part whole o)) (format_reads.again (part_of_format f) rest (system_short f fits.is))
    ∙ ap (λ b. then_read (cond b (with_layout earlier (part_of_format f) (read_text f.text)) (Err (fault.BadSystem (length earlier)))) (λ g. Ok (g, rest))) fits.is.system
    ∙ ap (λ l. then_read (with_layout earlier (part_of_format f) l) (λ g. Ok (g, rest))) (text_again f.text f.layout fits.is.layout)
    ∙ ap (λ b. then_read (cond b (Err (fault.SameEvent (length earlier))) (Ok f)) (λ g. Ok (g, rest))) fits.apart

format_stops : (whole : ℕ) (earlier : List Format) (bytes : List ℕ) (e : RecordingError) → IsBytes bytes
    → IsCutShort IsFormatPart format_bytes whole bytes e ⊎ IsRefused IsFormatPart format_bytes (IsFormatFault earlier) bytes e → read_format whole earlier bytes ≡ Err e
unfolding read_format
format_stops whole earlier bytes e fits (inl cut) =
    ap (λ o. after_format earlier (whole_part whole o)) (nothing_read format_reads whole bytes e fits cut) ∙ ap (λ (x : RecordingError). Err x) (sym cut.told)
format_stops whole earlier bytes e fits (inr r) =
    let part : FormatPart = r.part in
    let on_system : Bool → Result (Format × List ℕ) RecordingError = λ b. then_read (cond b (with_layout earlier part (read_text part.text)) (Err (fault.BadSystem (length earlier)))) (λ g. Ok (g, r.rest)) in
    let on_text : Result Layout FormatError → Result (Format × List ℕ) RecordingError = λ l. then_read (with_layout earlier part l) (λ g. Ok (g, r.rest)) in
    ap (λ o. after_format earlier (whole_part whole o)) (ap format_at r.spelled ∙ format_reads.again r.part r.rest r.is_whole)
    ∙ elim r.has_fault [
      | inl bad ↦ ap on_system bad.0 ∙ ap (λ (x : RecordingError). Err x) (sym bad.1)
      | inr ok ↦ ap on_system ok.0 ∙ elim ok.1 [
        | inl t ↦ ap on_text (text_fails part.text t.rule t.broken) ∙ ap (λ (x : RecordingError). Err x) (sym t.told)
        | inr s ↦ ap on_text (text_again part.text s.layout s.read)
            ∙ ap (λ b. then_read (cond b (Err (fault.SameEvent (length earlier))) (Ok (format_of part s.layout))) (λ g. Ok (g, r.rest))) s.same ∙ ap (λ (x : RecordingError). Err x) (sym s.told)
      ]
    ]

all_but : (x : Format) (a : Format) (acc xs : List Format) → AllByRecursion (λ g. is_same_event g a ≡ false) (acc ++ x ∷ xs) → is_same_event x a ≡ false
all_but x a [] xs all = all.0
all_but x a (b ∷ acc) xs all = all_but x a acc xs all.1

any_apart : (x : Format) (acc xs : List Format) → AreApart (acc ++ x ∷ xs) → list_any (is_same_event x) acc ≡ false
any_apart x [] xs apart = refl
any_apart x (a ∷ acc) xs apart = ap (λ b. b || list_any (is_same_event x) acc) (all_but x a acc xs apart.0) ∙ any_apart x acc xs apart.1

formats_chain : (fs acc : List Format) → AllByRecursion IsFormat fs → AreApart (acc ++ fs) → Chain FormatFits acc fs
formats_chain [] acc each apart = tt
formats_chain (f ∷ fs) acc each apart =
    (record { is = each.0; apart = any_apart f acc fs apart }, formats_chain fs (acc ++ f ∷ []) each.1 (subst AreApart (sym (append_assoc acc (f ∷ []) fs)) apart))

abbrev format_spelling : Format → List ℕ
format_spelling f = format_bytes (part_of_format f)

formats_again : (whole n : ℕ) (bytes rest : List ℕ) (fs : List Format) → HasFormats n bytes fs rest → many (read_format whole) n [] bytes ≡ Ok (fs, rest)
formats_again whole n bytes rest fs has = many_all (read_format whole) format_spelling FormatFits (format_step whole) fs n bytes rest (formats_chain fs [] has.pass.each has.pass.apart) has.counted has.spelled

formats_fail : (whole n : ℕ) (bytes : List ℕ) (e : RecordingError) → IsBytes bytes → FormatFails whole n bytes e → many (read_format whole) n [] bytes ≡ Err e
formats_fail whole n bytes e fits f =
    many_fails (read_format whole) format_spelling FormatFits (format_step whole) f.formats n bytes f.rest e (formats_chain f.formats [] f.pass.each f.pass.apart) f.due f.spelled
    (format_stops whole f.formats f.rest e (suffix_fits (formats_bytes f.formats) f.rest bytes f.spelled fits) f.fails)

-- ---- a CPU

abbrev track_of : CpuPart → List Entry × List ℕ → CpuTrack × List ℕ
track_of head es = (record { number = head.number; entries = es.0 }, es.1)

abbrev read_rest : (marks : Bool) → ℕ → List Format → ℕ → ℕ → List CpuTrack → CpuPart × List ℕ → Result (CpuTrack × List ℕ) RecordingError
read_rest marks whole formats start end acc h = then_read (many (read_entry (entries marks) (readable marks) whole formats start end (length acc)) h.0.entries [] h.1) (λ es. Ok (track_of h.0 es))

abbrev after_head : (marks : Bool) → ℕ → List Format → ℕ → ℕ → List CpuTrack → Result (CpuPart × List ℕ) RecordingError → Result (CpuTrack × List ℕ) RecordingError
after_head marks whole formats start end acc r = then_read r (λ h. then_read (unless_fault (cpu_fault (length acc) (least_after 0 acc) (total_entries acc) h.0) h) (read_rest marks whole formats start end acc))

read_track : (marks : Bool) → ℕ → List Format → ℕ → ℕ → List CpuTrack → List ℕ → Result (CpuTrack × List ℕ) RecordingError
read_track marks whole formats start end acc bytes = after_head marks whole formats start end acc (whole_part whole (cpu_at bytes))

record TrackFits (marks : Bool) (formats : List Format) (start end : ℕ) (acc : List CpuTrack) (c : CpuTrack) : Type 0 where
  is : IsTrack marks formats start end c
  low : least_after 0 acc ≤ c.number
  few : total_entries acc + length c.entries ≤ EVENTS

no_head_fault : (place least announced : ℕ) (head : CpuPart) → least ≤ head.number → announced + head.entries ≤ EVENTS → cpu_fault place least announced head ≡ None
no_head_fault place least announced head low few =
    let on_events : Bool → Option RecordingError = λ b. cond b (Some (fault.Count count.Events)) None in
    ap (λ b. cond b (Some (fault.CpuNumber place)) (on_events (nat_lt EVENTS (announced + head.entries)))) (le-ltb head.number least low)
    ∙ ap on_events (le-ltb EVENTS (announced + head.entries) few)

track_step : (marks : Bool) (whole : ℕ) (formats : List Format) (start end : ℕ) → AreFormats formats → (acc : List CpuTrack) (c : CpuTrack) (rest : List ℕ) → TrackFits marks formats start end acc c
    → read_track marks whole formats start end acc (track_bytes marks c ++ rest) ≡ Ok (c, rest)
unfolding read_track
track_step marks whole formats start end pass acc c rest fits =
    let head : CpuPart = head_of_track c in
    let behind : List ℕ = entries_bytes (entries marks) c.entries ++ rest in
    let is : IsCpuPart head = record { number = fits.is.number; entries = omega (arith, fits.few) } in
    let has : HasEntries (entries marks) formats start end (length c.entries) behind c.entries rest = record { spelled = refl; pass = fits.is.entries; counted = refl } in
    ap (λ o. after_head marks whole formats start end acc (whole_part whole o)) (ap cpu_at (append_assoc (cpu_bytes head) (entries_bytes (entries marks) c.entries) rest) ∙ cpu_reads.again head behind is)
    ∙ ap (λ o. then_read (unless_fault o (head, behind)) (read_rest marks whole formats start end acc)) (no_head_fault (length acc) (least_after 0 acc) (total_entries acc) head fits.low fits.few)
    ∙ ap (λ r. then_read r (λ es. Ok (track_of head es))) (entries_again (entries marks) (readable marks) whole formats start end (length acc) (length c.entries) behind rest c.entries pass has)

track_stops : (marks : Bool) (whole : ℕ) (formats : List Format) (start end : ℕ) (acc : List CpuTrack) (bytes : List ℕ) (e : RecordingError) → AreFormats formats → IsBytes bytes
    → IsCutShort IsCpuPart cpu_bytes whole bytes e
    ⊎ (IsRefused IsCpuPart cpu_bytes (HeadHasFault acc) bytes e
    ⊎ TrackFails marks whole formats start end acc bytes e) → read_track marks whole formats start end acc bytes ≡ Err e
unfolding read_track
track_stops marks whole formats start end acc bytes e pass fits (inl cut) =
    ap (λ o. after_head marks whole formats start end acc (whole_part whole o)) (nothing_read cpu_reads whole bytes e fits cut) ∙ ap (λ (x : RecordingError). Err x) (sym cut.told)
track_stops marks whole formats start end acc bytes e pass fits (inr (inl r)) =
    ap (λ o. after_head marks whole formats start end acc (whole_part whole o)) (ap cpu_at r.spelled ∙ cpu_reads.again r.part r.rest r.is_whole)
    ∙ ap (λ o. then_read (unless_fault o (r.part, r.rest)) (read_rest marks whole formats start end acc)) r.has_fault
track_stops marks whole formats start end acc bytes e pass fits (inr (inr t)) =
    ap (λ o. after_head marks whole formats start end acc (whole_part whole o)) (ap cpu_at t.spelled ∙ cpu_reads.again t.head t.rest t.is_whole)
    ∙ ap (λ o. then_read (unless_fault o (t.head, t.rest)) (read_rest marks whole formats start end acc)) t.passes
    ∙ ap (λ r. then_read r (λ es. Ok (track_of t.head es))) (entries_fail (entries marks) (readable marks) whole formats start end (length acc) t.head.entries t.rest e (suffix_fits (cpu_bytes t.head) t.rest bytes t.spelled fits) pass t.fails)

tracks_chain : (marks : Bool) (formats : List Format) (start end : ℕ) (cs acc : List CpuTrack) → AllByRecursion (IsTrack marks formats start end) cs → AreNumbered (least_after 0 acc) cs → total_entries acc + total_entries cs ≤ EVENTS
    → Chain (TrackFits marks formats start end) acc cs
tracks_chain marks formats start end [] acc each numbered few = tt
tracks_chain marks formats start end (c ∷ cs) acc each numbered few = (
  record { is = each.0; low = numbered.0; few = omega (arith, total_first c cs, few) },
  tracks_chain marks formats start end cs (acc ++ c ∷ []) each.1 (subst (λ (n : ℕ). AreNumbered n cs) (sym (least_more 0 acc c)) numbered.1) (omega (arith, total_more acc c, total_first c cs, few)),
)

tracks_again : (marks : Bool) (whole : ℕ) (formats : List Format) (start end n : ℕ) (bytes rest : List ℕ) (cs : List CpuTrack) → AreFormats formats → HasTracks marks formats start end n bytes cs rest
    → many (read_track marks whole formats start end) n [] bytes ≡ Ok (cs, rest)
tracks_again marks whole formats start end n bytes rest cs pass has =
    many_all (read_track marks whole formats start end) (track_bytes marks) (TrackFits marks formats start end) (track_step marks whole formats start end pass) cs n bytes rest
    (tracks_chain marks formats start end cs [] has.pass.each has.pass.numbered (omega (arith, has.pass.few))) has.counted has.spelled

tracks_fail : (marks : Bool) (whole : ℕ) (formats : List Format) (start end n : ℕ) (bytes : List ℕ) (e : RecordingError) → IsBytes bytes → AreFormats formats → CpuFails marks whole formats start end n bytes e
    → many (read_track marks whole formats start end) n [] bytes ≡ Err e
tracks_fail marks whole formats start end n bytes e fits pass f =
    many_fails (read_track marks whole formats start end) (track_bytes marks) (TrackFits marks formats start end) (track_step marks whole formats start end pass) f.cpus n bytes f.rest e
    (tracks_chain marks formats start end f.cpus [] f.pass.each f.pass.numbered (omega (arith, f.pass.few))) f.due f.spelled
    (track_stops marks whole formats start end f.cpus f.rest e pass (suffix_fits (tracks_bytes marks f.cpus) f.rest bytes f.spelled fits) f.fails)

-- ---- the whole

abbrev finish : ℕ → Recording → List ℕ → Result Recording RecordingError
finish whole r [] = Ok r
finish whole r (b ∷ rest) = Err (fault.TrailingBytes (whole - length (b ∷ rest)))

abbrev with_version : ℕ → ℕ → HeaderPart → List Format × List ℕ → Result Recording RecordingError
with_version whole version h fs =
    then_read (many (read_track (has_marks version) whole fs.0 h.start h.end) h.cpus [] fs.1)
    (λ cs. finish whole (record { version = version; start = h.start; end = h.end; formats = fs.0; cpus = cs.0 }) cs.1)

abbrev with_formats : ℕ → HeaderPart → List Format × List ℕ → Result Recording RecordingError
with_formats whole h fs = with_version whole (version_of h.magic) h fs

abbrev with_header : ℕ → HeaderPart × List ℕ → Result Recording RecordingError
with_header whole h = then_read (many (read_format whole) h.0.formats [] h.1) (with_formats whole h.0)

read_whole : List ℕ → Result Recording RecordingError
read_whole bytes = then_read (read_header bytes) (with_header (length bytes))

header_passes : (r : Recording) → IsValidRecording r → header_fault (header_of r) ≡ None
header_passes r v =
    let n : ℕ = length r.cpus in
    let on_span : Bool → Option RecordingError = λ b. cond b (Some (fault.Count count.Span)) None in
    let on_formats : Bool → Option RecordingError = λ b. cond b (Some (fault.Count count.Formats)) (on_span (nat_lt r.end r.start)) in
    let on_cpus : Bool → Option RecordingError = λ b. cond b (Some (fault.Count count.Cpus)) (on_formats (nat_lt FORMATS (length r.formats))) in
    let some : (n == 0) ≡ false = ne_eqb n 0 (λ e. omega (arith, v.some_cpus, e)) in
    ap (λ b. cond b (Some fault.BadMagic) (on_cpus (n == 0 || nat_lt CPUS n))) (magic_passes r.version v.version)
    ∙ ap (λ b. on_cpus (b || nat_lt CPUS n)) some
    ∙ ap on_cpus (le-ltb CPUS n v.few_cpus)
    ∙ ap on_formats (le-ltb FORMATS (length r.formats) v.few_formats)
    ∙ ap on_span (le-ltb r.end r.start v.span)

whole_again : (r : Recording) (bytes rest : List ℕ) → IsValidRecording r → bytes ≡ recording_bytes r ++ rest → read_whole bytes ≡ finish (length bytes) r rest
unfolding read_whole
whole_again r bytes rest v spelled =
    let h : HeaderPart = header_of r in
    let after_formats : List ℕ = tracks_bytes (has_marks r.version) r.cpus ++ rest in
    let after_header : List ℕ = formats_bytes r.formats ++ after_formats in
    let header : HasHeader bytes h after_header = record {
      spelled = spelled ∙ append_assoc (header_bytes h) (formats_bytes r.formats ++ tracks_bytes (has_marks r.version) r.cpus) rest ∙ ap (λ (l : List ℕ). header_bytes h ++ l) (append_assoc (formats_bytes r.formats) (tracks_bytes (has_marks r.version) r.cpus) rest);
      is_whole = record { magic = magic_long r.version; cpus = omega (arith, v.few_cpus); formats = omega (arith, v.few_formats); start = v.start; end = v.end };
      passes = header_passes r v;
    } in
    let formats : HasFormats (length r.formats) after_header r.formats after_formats = record { spelled = refl; pass = v.formats; counted = refl } in
    let cpus : HasTracks (has_marks r.version) r.formats r.start r.end (length r.cpus) after_formats r.cpus rest = record { spelled = refl; pass = v.cpus; counted = refl } in
    ap (λ x. then_read x (with_header (length bytes))) (header_again bytes h after_header header)
    ∙ ap (λ x. then_read x (with_formats (length bytes) h)) (formats_again (length bytes) (length r.formats) after_header after_formats r.formats formats)
    ∙ ap (λ (version : ℕ). with_version (length bytes) version h (r.formats, after_formats)) (version_back r.version v.version)
    ∙ ap (λ x. then_read x (λ cs. finish (length bytes) (record { version = r.version; start = r.start; end = r.end; formats = r.formats; cpus = cs.0 }) cs.1))
    (tracks_again (has_marks r.version) (length bytes) r.formats r.start r.end (length r.cpus) after_formats rest r.cpus v.formats cpus)

valid_read : (r : Recording) (bytes : List ℕ) → IsValidRecording r → bytes ≡ recording_bytes r → read_whole bytes ≡ Ok r
valid_read r bytes v spelled = whole_again r bytes [] v (spelled ∙ sym (append-nil (recording_bytes r)))

left_over : (whole : ℕ) (r : Recording) (rest : List ℕ) → rest ≢ [] → finish whole r rest ≡ Err (fault.TrailingBytes (whole - length rest))
left_over whole r [] some = absurd (some refl)
left_over whole r (b ∷ rest) some = refl

fault_read : (bytes : List ℕ) (e : RecordingError) → IsBytes bytes → IsRecordingFault bytes e → read_whole bytes ≡ Err e
unfolding read_whole
fault_read bytes e fits (inl h) = ap (λ x. then_read x (with_header (length bytes))) (header_fails bytes e fits h)
fault_read bytes e fits (inr (inl f)) =
    ap (λ x. then_read x (with_header (length bytes))) (header_again bytes f.header f.rest f.has_header)
    ∙ ap (λ x. then_read x (with_formats (length bytes) f.header)) (formats_fail (length bytes) f.header.formats f.rest e (suffix_fits (header_bytes f.header) f.rest bytes f.has_header.spelled fits) f.fails)
fault_read bytes e fits (inr (inr (inl c))) =
    let header_fits = suffix_fits (header_bytes c.header) c.after_header bytes c.has_header.spelled fits in
    ap (λ x. then_read x (with_header (length bytes))) (header_again bytes c.header c.after_header c.has_header)
    ∙ ap (λ x. then_read x (with_formats (length bytes) c.header)) (formats_again (length bytes) c.header.formats c.after_header c.rest c.formats c.has_formats)
    ∙ ap (λ x. then_read x (λ cs. finish (length bytes) (record { version = version_of c.header.magic; start = c.header.start; end = c.header.end; formats = c.formats; cpus = cs.0 }) cs.1))
    (tracks_fail (has_marks (version_of c.header.magic)) (length bytes) c.formats c.header.start c.header.end c.header.cpus c.rest e (suffix_fits (formats_bytes c.formats) c.rest c.after_header c.has_formats.spelled header_fits) c.has_formats.pass c.fails)
fault_read bytes e fits (inr (inr (inr l))) =
    let offset : length bytes - length l.rest ≡ length (recording_bytes l.recording) = omega (arith, ap length l.spelled, length-append (recording_bytes l.recording) l.rest) in
    whole_again l.recording bytes l.rest l.valid l.spelled ∙ left_over (length bytes) l.recording l.rest l.left ∙ ap (λ (n : ℕ). Err (fault.TrailingBytes n)) offset ∙ ap (λ (x : RecordingError). Err x) (sym l.told)

-- ---- what follows

same_Ok : (a b : Recording) → ◌≡◌ {A = Result Recording RecordingError} (Ok a) (Ok b) → a ≡ b
same_Ok a b e = cc

same_Err : (a b : RecordingError) → ◌≡◌ {A = Result Recording RecordingError} (Err a) (Err b) → a ≡ b
same_Err a b e = cc

pub one_recording : (a b : Recording) → IsValidRecording a → IsValidRecording b → recording_bytes a ≡ recording_bytes b → a ≡ b
one_recording a b va vb e = same_Ok a b (sym (valid_read a (recording_bytes a) va refl) ∙ valid_read b (recording_bytes a) vb e)

pub no_fault_beside : (r : Recording) (bytes : List ℕ) (e : RecordingError) → IsBytes bytes → IsValidRecording r → bytes ≡ recording_bytes r → IsRecordingFault bytes e → ⊥
no_fault_beside r bytes e fits v spelled wrong =
    let clash : ◌≡◌ {A = Result Recording RecordingError} (Ok r) (Err e) = sym (valid_read r bytes v spelled) ∙ fault_read bytes e fits wrong in cc

pub one_fault : (bytes : List ℕ) (a b : RecordingError) → IsBytes bytes → IsRecordingFault bytes a → IsRecordingFault bytes b → a ≡ b
one_fault bytes a b fits first second = same_Err a b (sym (fault_read bytes a fits first) ∙ fault_read bytes b fits second)

is_memory : (e : RecordingError) → (e ≡ fault.Memory) ⊎ (e ≢ fault.Memory)
is_memory (fault.Truncated n) = inr (λ h. cc)
is_memory fault.BadMagic = inr (λ h. cc)
is_memory (fault.Count what) = inr (λ h. cc)
is_memory (fault.Format place f) = inr (λ h. cc)
is_memory (fault.SameEvent place) = inr (λ h. cc)
is_memory (fault.CpuNumber cpu) = inr (λ h. cc)
is_memory (fault.TimeOrder cpu event) = inr (λ h. cc)
is_memory (fault.UnknownId cpu event) = inr (λ h. cc)
is_memory (fault.ShortPayload cpu event) = inr (λ h. cc)
is_memory (fault.TrailingBytes n) = inr (λ h. cc)
is_memory (fault.BadSystem place) = inr (λ h. cc)
is_memory (fault.BadEntry cpu event) = inr (λ h. cc)
is_memory (fault.EmptyMark cpu event) = inr (λ h. cc)
is_memory fault.Memory = inl refl

abbrev Answer : Type 0
Answer = Result Recording RecordingError

pub answer_valid : (bytes : List ℕ) (answer : Answer) → Answers answer (IsSpelled bytes) (IsRecordingFault bytes) → IfOk answer IsValidRecording
answer_valid bytes (Ok x) is = is.valid
answer_valid bytes (Err e) is = tt

pub answer_spelled : (bytes : List ℕ) (answer : Answer) → Answers answer (IsSpelled bytes) (IsRecordingFault bytes) → IfOk answer (λ r. bytes ≡ recording_bytes r)
answer_spelled bytes (Ok x) is = is.spelled
answer_spelled bytes (Err e) is = tt

pub answer_fault : (bytes : List ℕ) (answer : Answer) → Answers answer (IsSpelled bytes) (IsRecordingFault bytes) → IfErr answer (λ e. e ≢ fault.Memory → IsRecordingFault bytes e)
answer_fault bytes (Ok x) is = tt
answer_fault bytes (Err e) is = is

pub answer_only : (bytes : List ℕ) (answer : Answer) → IsBytes bytes → Answers answer (IsSpelled bytes) (IsRecordingFault bytes) → (r : Recording) → IsValidRecording r → bytes ≡ recording_bytes r
    → (answer ≡ Ok r) ⊎ (answer ≡ Err fault.Memory)
answer_only bytes (Ok x) fits is r v spelled = inl (ap (λ (y : Recording). Ok y) (one_recording x r is.valid v (sym is.spelled ∙ spelled)))
answer_only bytes (Err e) fits is r v spelled = elim (is_memory e) [
  | inl m ↦ inr (ap (λ (y : RecordingError). Err y) m)
  | inr other ↦ absurd (no_fault_beside r bytes e fits v spelled (is other))
]

pub answer_refused : (bytes : List ℕ) (answer : Answer) → IsBytes bytes → Answers answer (IsSpelled bytes) (IsRecordingFault bytes) → (e : RecordingError) → IsRecordingFault bytes e
    → (answer ≡ Err e) ⊎ (answer ≡ Err fault.Memory)
answer_refused bytes (Ok x) fits is e wrong = absurd (no_fault_beside x bytes e fits is.valid is.spelled wrong)
answer_refused bytes (Err f) fits is e wrong = elim (is_memory f) [
  | inl m ↦ inr (ap (λ (y : RecordingError). Err y) m)
  | inr other ↦ inl (ap (λ (y : RecordingError). Err y) (one_fault bytes f e fits (is other) wrong))
]
