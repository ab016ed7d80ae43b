use Rattle.std.proofs.Common.{List, ℕ, refl, ap, arith, map}
use Rattle.event_layout.specs.FieldLines.{Description, description}
use Rattle.tracefs_format.specs.Described.{described_by}
use Rattle.tracefs_format.proofs.TableLemmas.{table-added, added-fault, added-fields}
use Rattle.tracefs_format.proofs.table.Tables.add.Goals as goal

pub returns-clause-answer : goal.returns-clause-answer
returns-clause-answer c =
    let named : List ℕ → Description = λ n. record { name = n; offset = c.args.line.offset; size = c.args.line.size; signed = c.args.line.signed; kind = c.args.line.kind } in (
      added-fault c.args.self.now.fields c.args.self.now.names c.args.self.now.size c.args.number (map description c.args.self.now.fields) (described_by c.args.line) c.in_ok-note_name.field-0 c.requires.fits refl (grind arith) c.in_ok-note_name.ensures.new (grind arith),
      added-fields c.args.self.now.fields c.push.new.self _ (map description c.args.self.now.fields) (described_by c.args.line) refl c.in_ok-push.ensures.ok (ap named c.in_ok-from_slice.ensures),
    )

pub returns-clause-table : goal.returns-clause-table
returns-clause-table c = table-added c.args.self.now.fields c.push.new.self c.args.self.now.names c.note_name.new.names c.args.self.now.size c.max-self.result _ c.args.line.name.now
    c.requires.fits c.in_ok-push.ensures.ok c.in_ok-from_slice.ensures c.in_ok-note_name.ensures.others (grind arith)
