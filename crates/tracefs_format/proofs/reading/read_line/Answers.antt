use Rattle.std.proofs.Common.{◌≡◌, ◌++◌, ◌∷◌, [], List, Option, Some, None, arith, length, nat_lt, subst, sym, true}
use Rattle.std.proofs.lemmas.Bool.Decides.{nat_tests}
use Rattle.event_layout.specs.declared.error.FormatError.{FormatError}
use Rattle.event_layout.specs.FieldLines.{Description}
use Rattle.event_layout.specs.Layouts.{described, field_fault}
use Rattle.tracefs_format.specs.Described.{described_by}
use Rattle.tracefs_format.specs.Tables.{Answers}
use Rattle.tracefs_format.proofs.LoopLemmas.{described_one, line_empty, line_read}
use Rattle.tracefs_format.proofs.reading.read_line.Goals as goal

pub returns-then-is_empty : goal.returns-then-is_empty
returns-then-is_empty c = line_empty c.args.number c.args.table c.args.line.now (grind arith)

pub returns-in-None : goal.returns-in-None
returns-in-None c =
    let some : nat_lt 0 (length c.args.line.now) ≡ true = grind (arith, nat_tests) in
    line_read c.args.number c.args.table c.args.line.now None some c.in-None.ensures.field

pub returns-in-Some : goal.returns-in-Some
returns-in-Some c =
    let line = c.args.line.now in
    let some : nat_lt 0 (length line) ≡ true = grind (arith, nat_tests) in
    let d : Description = described_by c.in-Some.field in
    subst (λ (fault : Option FormatError). Answers c.with.result fault (λ t. t ≡ c.args.table ++ described (line ∷ [])))
    (sym (line_read c.args.number c.args.table line (Some d) some c.in-Some.ensures.field))
    (subst (λ (ds : List Description). Answers c.with.result (field_fault c.args.number c.args.table (Some d)) (λ t. t ≡ c.args.table ++ ds))
    (sym (described_one line d c.in-Some.ensures.field)) c.with.ensures)
