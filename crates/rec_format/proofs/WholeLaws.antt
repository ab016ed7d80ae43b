-- The parts that were read make a recording.
use Rattle.std.proofs.Common.{◌≡◌, ℕ, ◌≤◌, Bool, true, false, cond, not, ◌||◌, Option, Some, None, List, ◌++◌, length, refl, ap, sym, ◌∙◌, append_assoc, arith}
use Rattle.std.specs.Prelude.{nat_lt, codes, ◌==◌}
use Rattle.std.specs.Str.{bytes_eq}
use Rattle.std.proofs.lemmas.Bool.{ltb-false, eqb-false, or_parts}
use Rattle.bt_core.specs.declared.limits.TheConstants.{CPUS, FORMATS}
use Rattle.event_layout.specs.declared.format.Format.{Format}
use Rattle.recordings.specs.declared.error.RecordingError.{RecordingError}
use Rattle.recordings.specs.declared.error.RecordingError.TheVariants as fault
use Rattle.recordings.specs.declared.error.CountOf.TheVariants as count
use Rattle.recordings.specs.declared.recording.Recording.{Recording}
use Rattle.recordings.specs.declared.recording.CpuTrack.{CpuTrack}
use Rattle.recordings.specs.Parts.{HeaderPart, header_bytes}
use Rattle.recordings.specs.Checks.{magic_of, version_of, has_marks, header_fault}
use Rattle.recordings.specs.Recordings.{header_of, formats_bytes, tracks_bytes, recording_bytes, IsValidRecording}
use Rattle.rec_format.specs.Faults.{HasHeader, HasFormats, HasTracks}
use Rattle.rec_format.proofs.Versions.{known_magic}
use Rattle.recordings.proofs.PlaceLaws.{IsVersion}

record Bounds (h : HeaderPart) : Type 0 where
  magic : h.magic ≡ magic_of (version_of h.magic)
  version : IsVersion (version_of h.magic)
  some_cpus : (h.cpus == 0) ≡ false
  few_cpus : h.cpus ≤ CPUS
  few_formats : h.formats ≤ FORMATS
  span : h.start ≤ h.end

-- a header without a fault is within its bounds
header_bounds : (h : HeaderPart) → header_fault h ≡ None → Bounds h
header_bounds h none =
    let m : Bool = not (bytes_eq h.magic (codes "BTRACE01") || bytes_eq h.magic (codes "BTRACE02")) in
    let c : Bool = h.cpus == 0 || nat_lt CPUS h.cpus in
    let f : Bool = nat_lt FORMATS h.formats in
    let s : Bool = nat_lt h.end h.start in
    let on_span : Bool → Option RecordingError = λ b. cond b (Some (fault.Count count.Span)) None in
    let on_formats : Bool → Option RecordingError = λ b. cond b (Some (fault.Count count.Formats)) (on_span s) in
    let on_cpus : Bool → Option RecordingError = λ b. cond b (Some (fault.Count count.Cpus)) (on_formats f) in
    let on_magic : Bool → Option RecordingError = λ b. cond b (Some fault.BadMagic) (on_cpus c) in
    (elim m as (λ b. m ≡ b → on_magic b ≡ None → Bounds h) [
      | true ↦ λ e g. absurd cc
      | false ↦ λ e1 g1. (elim c as (λ b. c ≡ b → on_cpus b ≡ None → Bounds h) [
        | true ↦ λ e g. absurd cc
        | false ↦ λ e2 g2. (elim f as (λ b. f ≡ b → on_formats b ≡ None → Bounds h) [
          | true ↦ λ e g. absurd cc
          | false ↦ λ e3 g3. (elim s as (λ b. s ≡ b → on_span b ≡ None → Bounds h) [
            | true ↦ λ e g. absurd cc
            | false ↦ λ e4 g4.
                let cpus = or_parts (h.cpus == 0) (nat_lt CPUS h.cpus) e2 in
                let known = known_magic h.magic e1 in
                record { magic = known.0; version = known.1; some_cpus = cpus.0; few_cpus = ltb-false CPUS h.cpus cpus.1; few_formats = ltb-false FORMATS h.formats e3; span = ltb-false h.end h.start e4 }
          ]) refl g3
        ]) refl g2
      ]) refl g1
    ]) refl none

abbrev made_of : HeaderPart → List Format → List CpuTrack → Recording
made_of h formats cpus = record { version = version_of h.magic; start = h.start; end = h.end; formats = formats; cpus = cpus }

-- a header, its formats and its CPUs are a valid recording, and its spelling stands before the rest
pub record Whole (bytes : List ℕ) (r : Recording) (rest : List ℕ) : Type 0 where
  pub valid : IsValidRecording r
  pub spelled : bytes ≡ recording_bytes r ++ rest

same_header : (h : HeaderPart) (formats : List Format) (cpus : List CpuTrack) → h.magic ≡ magic_of (version_of h.magic) → length formats ≡ h.formats → length cpus ≡ h.cpus → h ≡ header_of (made_of h formats cpus)
same_header h formats cpus m f c =
    ap (λ (x : List ℕ). record h { magic = x }) m
    ∙ ap (λ (x : ℕ). record h { magic = magic_of (version_of h.magic); formats = x }) (sym f)
    ∙ ap (λ (x : ℕ). record h { magic = magic_of (version_of h.magic); formats = length formats; cpus = x }) (sym c)

regroup : (a b c d : List ℕ) → a ++ (b ++ (c ++ d)) ≡ (a ++ (b ++ c)) ++ d
regroup a b c d = simp append_assoc

pub whole_recording : (bytes after_header after_formats rest : List ℕ) (h : HeaderPart) (formats : List Format) (cpus : List CpuTrack) → HasHeader bytes h after_header → HasFormats h.formats after_header formats after_formats
    → HasTracks (has_marks (version_of h.magic)) formats h.start h.end h.cpus after_formats cpus rest → Whole bytes (record { version = version_of h.magic; start = h.start; end = h.end; formats = formats; cpus = cpus }) rest
whole_recording bytes after_header after_formats rest h formats cpus header fs cs =
    let b = header_bounds h header.passes in
    let r : Recording = made_of h formats cpus in
    let marks : Bool = has_marks (version_of h.magic) in
    let some : 1 ≤ length cpus = let e = eqb-false h.cpus 0 b.some_cpus in omega (arith, cs.counted, e) in
    record {
      valid = record {
        version = b.version;
        start = header.is_whole.start;
        end = header.is_whole.end;
        span = b.span;
        some_cpus = some;
        few_cpus = omega (arith, cs.counted, b.few_cpus);
        few_formats = omega (arith, fs.counted, b.few_formats);
        formats = fs.pass;
        cpus = cs.pass;
      };
      spelled = header.spelled
          ∙ ap (λ (l : List ℕ). header_bytes h ++ l) (fs.spelled ∙ ap (λ (l : List ℕ). formats_bytes formats ++ l) cs.spelled)
          ∙ ap (λ (g : HeaderPart). header_bytes g ++ (formats_bytes formats ++ (tracks_bytes marks cpus ++ rest))) (same_header h formats cpus b.magic fs.counted cs.counted)
          ∙ regroup (header_bytes (header_of r)) (formats_bytes formats) (tracks_bytes marks cpus) rest;
    }
