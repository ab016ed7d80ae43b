use Rattle.std.proofs.Common.{◌≡◌, Bool, List, ℕ, ◌++◌, ◌-◌, sym, ap, subst, ◌∙◌, length, arith, inl, inr}
use Rattle.std.proofs.lemmas.Result.{err_from_is_err_and}
use Rattle.std.proofs.lemmas.List.{append-nil, length-append}
use Rattle.recordings.specs.declared.error.RecordingError.TheVariants as fault
use Rattle.recordings.specs.Checks.{version_of, has_marks}
use Rattle.rec_format.specs.Heads.{header_part}
use Rattle.event_layout.specs.declared.format.Format.{Format}
use Rattle.recordings.specs.declared.recording.Recording.{Recording}
use Rattle.recordings.specs.Recordings.{recording_bytes}
use Rattle.rec_format.specs.Faults.{CpuFails, HasTracks}
use Rattle.rec_format.specs.Answers.{IsSpelled}
use Rattle.rec_format.proofs.InFileLaws.{whole_rest, rest_more}
use Rattle.rec_format.proofs.WholeLaws.{whole_recording}
use Rattle.recordings.proofs.Left.{nothing_left, something_left}
use Rattle.rec_format.proofs.reading.read.Goals as goal

pub read_tracks-requires : goal.read_tracks-requires
read_tracks-requires c =
    let file : List ℕ = c.args.bytes.now in
    let behind = rest_more file file _ c.in_ok-header.rest.now (whole_rest file) c.in_ok-header.ensures.spelled in
    record {
      whole = c.requires;
      suffix = rest_more file c.in_ok-header.rest.now _ c.in_ok-table.rest.now behind c.in_ok-table.ensures.spelled;
    }

pub returns-in_err-header-clause-answer : goal.returns-in_err-header-clause-answer
returns-in_err-header-clause-answer c =
    let p = err_from_is_err_and c.from_residual.result c.from_residual.ensures.1 in
    rw (p.1, p.2) (λ other. inl (c.in_err-header.ensures other))

pub returns-in_err-table-clause-answer : goal.returns-in_err-table-clause-answer
returns-in_err-table-clause-answer c =
    let p = err_from_is_err_and c.from_residual-in_err-table.result c.from_residual-in_err-table.ensures.1 in
    rw (p.1, p.2) (λ other. inr (inl (record {
      header = header_part c.in_ok-header.header;
      rest = c.in_ok-header.rest.now;
      has_header = c.in_ok-header.ensures;
      fails = c.in_err-table.ensures other;
    })))

pub returns-in_err-cpus-clause-answer : goal.returns-in_err-cpus-clause-answer
returns-in_err-cpus-clause-answer c =
    let h = c.in_ok-header.header in
    let marks : c.has_marks.result ≡ has_marks (version_of h.magic.now) = c.has_marks.ensures ∙ ap has_marks c.version_of-version.ensures in
    let p = err_from_is_err_and c.from_residual-in_err-cpus.result c.from_residual-in_err-cpus.ensures.1 in
    rw (p.1, p.2) (λ other. inr (inr (inl (record {
      header = header_part h;
      formats = c.in_ok-table.table;
      after_header = c.in_ok-header.rest.now;
      rest = c.in_ok-table.rest.now;
      has_header = c.in_ok-header.ensures;
      has_formats = c.in_ok-table.ensures;
      fails = subst (λ (m : Bool). CpuFails m (length c.args.bytes.now) c.in_ok-table.table h.start h.end h.cpus c.in_ok-table.rest.now c.in_err-cpus.field-0.0) marks (c.in_err-cpus.ensures other);
    }))))

pub returns-then-not-is_empty-clause-answer : goal.returns-then-not-is_empty-clause-answer
returns-then-not-is_empty-clause-answer c =
    let h = c.in_ok-header.header in
    let marks : c.has_marks.result ≡ has_marks (version_of h.magic.now) = c.has_marks.ensures ∙ ap has_marks c.version_of-version.ensures in
    let tracks = subst (λ (m : Bool). HasTracks m c.in_ok-table.table h.start h.end h.cpus c.in_ok-table.rest.now c.in_ok-cpus.cpus c.in_ok-cpus.rest.now) marks c.in_ok-cpus.ensures in
    let whole = whole_recording c.args.bytes.now c.in_ok-header.rest.now c.in_ok-table.rest.now c.in_ok-cpus.rest.now (header_part h) c.in_ok-table.table c.in_ok-cpus.cpus c.in_ok-header.ensures c.in_ok-table.ensures tracks in
    let r : Recording = record { version = version_of h.magic.now; start = h.start; end = h.end; formats = c.in_ok-table.table; cpus = c.in_ok-cpus.cpus } in
    let offset : length c.args.bytes.now - length c.in_ok-cpus.rest.now ≡ length (recording_bytes r) = omega (arith, ap length whole.spelled, length-append (recording_bytes r) c.in_ok-cpus.rest.now) in
    λ _. inr (inr (inr (record {
      recording = r;
      rest = c.in_ok-cpus.rest.now;
      spelled = whole.spelled;
      valid = whole.valid;
      left = something_left c.in_ok-cpus.rest.now c.if-not-is_empty.ensures;
      told = ap (λ (n : ℕ). fault.TrailingBytes n) offset;
    })))

pub returns-clause-answer : goal.returns-clause-answer
returns-clause-answer c =
    let h = c.in_ok-header.header in
    let marks : c.has_marks.result ≡ has_marks (version_of h.magic.now) = c.has_marks.ensures ∙ ap has_marks c.version_of-version.ensures in
    let tracks = subst (λ (m : Bool). HasTracks m c.in_ok-table.table h.start h.end h.cpus c.in_ok-table.rest.now c.in_ok-cpus.cpus c.in_ok-cpus.rest.now) marks c.in_ok-cpus.ensures in
    let whole = whole_recording c.args.bytes.now c.in_ok-header.rest.now c.in_ok-table.rest.now c.in_ok-cpus.rest.now (header_part h) c.in_ok-table.table c.in_ok-cpus.cpus c.in_ok-header.ensures c.in_ok-table.ensures tracks in
    let r : Recording = record { version = version_of h.magic.now; start = h.start; end = h.end; formats = c.in_ok-table.table; cpus = c.in_ok-cpus.cpus } in
    let spelled : IsSpelled c.args.bytes.now r = record {
      valid = whole.valid;
      spelled = whole.spelled ∙ ap (λ (l : List ℕ). recording_bytes r ++ l) (nothing_left c.in_ok-cpus.rest.now c.if-not-is_empty.ensures) ∙ append-nil (recording_bytes r);
    } in
    subst (λ (fs : List Format). IsSpelled c.args.bytes.now (record r { version = c.version_of-version.result; formats = fs })) (sym c.into_formats.ensures)
    (subst (λ (n : ℕ). IsSpelled c.args.bytes.now (record r { version = n })) (sym c.version_of-version.ensures) spelled)
