-- A recording whose parts were read one by one.
use Rattle.std.proofs.Common.{◌≡◌, ℕ, Bool, zero, suc, ◌+◌, ◌-◌, ◌<◌, ◌≤◌, Option, Some, None, Result, Ok, Err, Vec, Global, List, [], ◌∷◌, ◌++◌, length, map, get_or, refl, ap, sym, subst, ◌∙◌, append_assoc, arith}
use Rattle.std.specs.Prelude.{IfOk, IfSome}
use Rattle.std.specs.Arc.{arc_value}
use Rattle.std.specs.declared.sync.Arc.{Arc}
use Rattle.std.specs.List.{AllByRecursion}
use Rattle.std.proofs.lemmas.List.{append-nil, length-map}
use Rattle.bt_core.specs.declared.limits.TheConstants.{EVENTS}
use Rattle.bt_io.specs.Parts.{joined}
use Rattle.recordings.specs.declared.recording.CpuTrack.{CpuTrack}
use Rattle.recordings.specs.declared.recording.Entry.{Entry}
use Rattle.recordings.specs.declared.recording.Recording.{Recording}
use Rattle.event_layout.specs.declared.format.Format.{Format}
use Rattle.recordings.specs.Checks.{has_marks, version_of}
use Rattle.recordings.specs.Entries.{entries_bytes, HasEntries}
use Rattle.recordings.specs.EntryParts.{entries}
use Rattle.recordings.specs.Parts.{CpuPart, cpu_bytes, HeaderPart, header_bytes}
use Rattle.recordings.specs.Places.{AreBytes}
use Rattle.recordings.specs.Recordings.{formats_bytes, track_bytes, tracks_bytes, recording_bytes, total_entries, AreNumbered, IsTrack}
use Rattle.recordings.proofs.Fields.{IsBytes}
use Rattle.rec_format.specs.declared.parted.Front.{Front}
use Rattle.rec_format.specs.Answers.{IsSpelled}
use Rattle.rec_format.specs.Faults.{HasFormats, HasHeader, HasTracks, least_after}
use Rattle.rec_format.specs.Heads.{cpu_at}
use Rattle.rec_format.specs.Parted.{AreGathered, HasPartedTracks, IsFront, IsParted, IsTrackPart, shared_bytes}
use Rattle.rec_format.proofs.HeadLaws.{cpu_reads}
use Rattle.rec_format.proofs.InFileLaws.{map_more}
use Rattle.rec_format.proofs.LoopLaws.{least_more, numbered_more, total_more}
use Rattle.rec_format.proofs.WholeLaws.{whole_recording}

byte_before : (x : ℕ) (bytes : List ℕ) → x < 256 → AreBytes bytes → (i : ℕ) → get_or (x ∷ bytes) i 0 < 256
byte_before x bytes here rest zero = here
byte_before x bytes here rest (suc i) = rest i

-- bytes and bytes behind them are bytes
pub both_bytes : (xs ys : List ℕ) → AreBytes xs → AreBytes ys → AreBytes (xs ++ ys)
both_bytes [] ys first second = second
both_bytes (x ∷ xs) ys first second = byte_before x (xs ++ ys) (first 0) (both_bytes xs ys (λ i. first (suc i)) second)

-- a head and as many entries as it announces, and nothing behind them, are the bytes of a CPU
pub track_part : (marks : Bool) (formats : List Format) (start end : ℕ) (bytes after rest : List ℕ) (head : CpuPart) (es : List Entry) → IsBytes bytes → cpu_at bytes ≡ Some (head, after)
    → HasEntries (entries marks) formats start end head.entries after es rest → rest ≡ []
    → (bytes ≡ track_bytes marks (record { number = head.number; entries = es })) × IsTrack marks formats start end (record { number = head.number; entries = es })
track_part marks formats start end bytes after rest head es fits some stand none =
    let taken = cpu_reads.takes bytes head after fits some in
    let all : List ℕ = entries_bytes (entries marks) es in
    let behind : after ≡ all = stand.spelled ∙ ap (λ (l : List ℕ). all ++ l) none ∙ append-nil all in (
      taken.0.parts ∙ ap (λ (l : List ℕ). cpu_bytes head ++ l) behind
          ∙ ap (λ (n : ℕ). cpu_bytes (record { number = head.number; entries = n }) ++ all) (sym stand.counted),
      record { number = taken.1.number; entries = stand.pass },
    )

no_byte : (i : ℕ) → get_or {A = ℕ} [] i 0 < 256
no_byte zero = omega arith
no_byte (suc i) = omega arith

-- each part is a CPU, so all parts are the CPUs
pub tracks_told : (front : Front) (parts : List (List ℕ)) (cpus : List CpuTrack) → length cpus ≡ length parts
    → ((i : ℕ) (d : Option CpuTrack) → i < length parts → IfSome (get_or (map (λ (c : CpuTrack). Some c) cpus) i d) (IsTrackPart front (get_or parts i [])))
    → (joined parts ≡ tracks_bytes (has_marks front.version) cpus) × AllByRecursion (IsTrack (has_marks front.version) front.formats front.start front.end) cpus × AreBytes (joined parts)
tracks_told front [] [] same told = (refl, tt, λ i. no_byte i)
tracks_told front [] (c ∷ cs) same told = absurd (omega (arith, same))
tracks_told front (p ∷ ps) [] same told = absurd (omega (arith, same))
tracks_told front (p ∷ ps) (c ∷ cs) same told =
    let first : IsTrackPart front p c = told 0 None (omega arith) in
    let rest = tracks_told front ps cs (omega (arith, same)) (λ i d lt. told (suc i) d (omega (arith, lt))) in (
      ap (λ (l : List ℕ). l ++ joined ps) first.spelled ∙ ap (λ (l : List ℕ). track_bytes (has_marks front.version) c ++ l) rest.0,
      (first.is, rest.1),
      both_bytes p (joined ps) first.held rest.2,
    )

-- each part was read as a CPU that passes
abbrev pub AreRead : Front → List (List ℕ) → List (Option CpuTrack) → Type 0
AreRead front parts read = (i : ℕ) (d : Option CpuTrack) → i < length parts → IfSome (get_or read i d) (IsTrackPart front (get_or parts i []))

pub gathered : (front : Front) (parts : List (List ℕ)) (read : List (Option CpuTrack)) (cpus : List CpuTrack) → length read ≡ length parts → AreRead front parts read → AreGathered read cpus
    → HasPartedTracks front (length parts) (joined parts) cpus
gathered front parts read cpus many each are =
    let counted : length cpus ≡ length parts = sym (length-map cpus (λ (c : CpuTrack). Some c)) ∙ ap length (sym are.each) ∙ many in
    let told = tracks_told front parts cpus counted (subst (AreRead front parts) are.each each) in
    record {
      has = record {
        spelled = told.0 ∙ sym (append-nil (tracks_bytes (has_marks front.version) cpus));
        pass = record { each = told.1; numbered = are.numbered; few = are.few };
        counted = counted;
      };
      held = told.2;
    }

-- the first part and the CPUs behind it are a recording
pub parted_spelled : (first others : List ℕ) (front : Front) (cpus : List CpuTrack) → IsFront first front → HasTracks (has_marks front.version) front.formats front.start front.end front.cpus others cpus []
    → IsSpelled (first ++ others) (record { version = front.version; start = front.start; end = front.end; formats = front.formats; cpus = cpus })
parted_spelled first others front cpus is has =
    let h : HeaderPart = is.header in
    let header : HasHeader (first ++ others) h (is.rest ++ others) = record {
      spelled = ap (λ (l : List ℕ). l ++ others) is.has_header.spelled ∙ append_assoc (header_bytes h) is.rest others;
      is_whole = is.has_header.is_whole;
      passes = is.has_header.passes;
    } in
    let formats : HasFormats h.formats (is.rest ++ others) front.formats others = record {
      spelled = ap (λ (l : List ℕ). l ++ others) (is.has_formats.spelled ∙ append-nil (formats_bytes front.formats));
      pass = is.has_formats.pass;
      counted = is.has_formats.counted;
    } in
    let tracks : HasTracks (has_marks (version_of h.magic)) front.formats h.start h.end h.cpus others cpus [] =
    subst (λ (v : ℕ). HasTracks (has_marks v) front.formats h.start h.end h.cpus others cpus []) is.version
    (subst (λ (n : ℕ). HasTracks (has_marks front.version) front.formats n h.end h.cpus others cpus []) is.start
    (subst (λ (n : ℕ). HasTracks (has_marks front.version) front.formats front.start n h.cpus others cpus []) is.end
    (subst (λ (n : ℕ). HasTracks (has_marks front.version) front.formats front.start front.end n others cpus []) is.cpus has))) in
    let whole = whole_recording (first ++ others) (is.rest ++ others) others [] h front.formats cpus header formats tracks in
    let made : ℕ → ℕ → ℕ → Recording = λ v start end. record { version = v; start = start; end = end; formats = front.formats; cpus = cpus } in
    let spelled : IsSpelled (first ++ others) (made (version_of h.magic) h.start h.end) = record {
      valid = whole.valid;
      spelled = whole.spelled ∙ append-nil (recording_bytes (made (version_of h.magic) h.start h.end));
    } in
    subst (λ (v : ℕ). IsSpelled (first ++ others) (made v front.start front.end)) (sym is.version)
    (subst (λ (n : ℕ). IsSpelled (first ++ others) (made (version_of h.magic) n front.end)) (sym is.start)
    (subst (λ (n : ℕ). IsSpelled (first ++ others) (made (version_of h.magic) h.start n)) (sym is.end) spelled))

-- the CPUs so far, the least number that the next may have, and how many entries are left to them
pub record Gathering (read : List (Option CpuTrack)) (cpus : List CpuTrack) (least left : ℕ) : Type 0 where
  pub each : read ≡ map (λ (c : CpuTrack). Some c) cpus
  pub numbered : AreNumbered 0 cpus
  pub least_is : least ≡ least_after 0 cpus
  pub few : total_entries cpus + left ≡ EVENTS

pub gathering_more : (read : List (Option CpuTrack)) (cpus later : List CpuTrack) (item : Option CpuTrack) (c : CpuTrack) (least left : ℕ) → Gathering read cpus least left → item ≡ Some c
    → least ≤ c.number → length c.entries ≤ left → later ≡ cpus ++ c ∷ []
    → Gathering (read ++ item ∷ []) later (c.number + 1) (left - length c.entries)
gathering_more read cpus later item c least left are is low few added =
    let more : Gathering (read ++ item ∷ []) (cpus ++ c ∷ []) (c.number + 1) (left - length c.entries) = record {
      each = ap (λ (l : List (Option CpuTrack)). l ++ item ∷ []) are.each ∙ ap (λ (o : Option CpuTrack). map (λ (c : CpuTrack). Some c) cpus ++ o ∷ []) is ∙ sym (map_more (λ (c : CpuTrack). Some c) cpus c);
      numbered = numbered_more 0 cpus c are.numbered (subst (λ (n : ℕ). n ≤ c.number) are.least_is low);
      least_is = sym (least_more 0 cpus c);
      few = omega (arith, total_more cpus c, are.few, few);
    } in
    subst (λ (l : List CpuTrack). Gathering (read ++ item ∷ []) l (c.number + 1) (left - length c.entries)) (sym added) more

-- what the CPUs that were gathered are, or nothing where they were not
pub gathered_all : {E : Type 0} (front : Front) (parts : List (Arc (Vec ℕ Global) Global)) (read : List (Option CpuTrack)) (all : Result (Option (List CpuTrack)) E) → length read ≡ length parts
    → ((i : ℕ) (d : Option CpuTrack) → i < length parts → IfSome (get_or read i d) (IsTrackPart front (get_or (shared_bytes parts) i [])))
    → IfOk all (λ some. IfSome some (AreGathered read))
    → IfOk all (λ some. IfSome some (HasPartedTracks front (length parts) (joined (shared_bytes parts))))
gathered_all front parts read (Err e) many each are = tt
gathered_all front parts read (Ok None) many each are = tt
gathered_all front parts read (Ok (Some cpus)) many each are =
    let same : length (shared_bytes parts) ≡ length parts = length-map parts (λ (part : Arc (Vec ℕ Global) Global). (arc_value part).items) in
    let all = gathered front (shared_bytes parts) read cpus (many ∙ sym same) (λ i d lt. each i d (subst (λ (n : ℕ). i < n) same lt)) are in
    subst (λ (n : ℕ). HasPartedTracks front n (joined (shared_bytes parts)) cpus) same all

pub parted_all : (parts others : List (Arc (Vec ℕ Global) Global)) (first : Arc (Vec ℕ Global) Global) (bytes : List ℕ) (front : Front) (cpus : List CpuTrack) (made : List Format) → parts ≡ first ∷ others
    → bytes ≡ (arc_value first).items → IsFront bytes front → front.cpus ≡ length others → HasPartedTracks front (length others) (joined (shared_bytes others)) cpus → made ≡ front.formats
    → IsParted (joined (shared_bytes parts)) (record { version = front.version; start = front.start; end = front.end; formats = made; cpus = cpus })
parted_all parts others first bytes front cpus made cut same is count tracks formats =
    let behind : List ℕ = joined (shared_bytes others) in
    let has : HasTracks (has_marks front.version) front.formats front.start front.end front.cpus behind cpus [] =
    subst (λ (n : ℕ). HasTracks (has_marks front.version) front.formats front.start front.end n behind cpus []) (sym count) tracks.has in
    let whole : bytes ++ behind ≡ joined (shared_bytes parts) =
    ap (λ (l : List ℕ). l ++ behind) same ∙ ap (λ (l : List (Arc (Vec ℕ Global) Global)). joined (shared_bytes l)) (sym cut) in
    let spelled = parted_spelled bytes behind front cpus is has in
    let at_formats = subst (λ (fs : List Format). IsSpelled (bytes ++ behind) (record { version = front.version; start = front.start; end = front.end; formats = fs; cpus = cpus })) (sym formats) spelled in
    record {
      spelled = subst (λ (l : List ℕ). IsSpelled l (record { version = front.version; start = front.start; end = front.end; formats = made; cpus = cpus })) whole at_formats;
      held = subst AreBytes whole (both_bytes bytes behind is.held tracks.held);
    }
