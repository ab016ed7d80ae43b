use Rattle.tracefs_format.specs.Tables.{has_name}
use Rattle.tracefs_format.proofs.NameSets.{inserted}
use Rattle.tracefs_format.proofs.table.note_name.Goals as goal

pub returns-clause-others : goal.returns-clause-others
returns-clause-others c = λ other some. inserted c.args.name.now c.in_ok-from_slice.field-0 other (has_name c.args.names.now other) (has_name c.insert.new.self other) c.in_ok-from_slice.ensures (c.in_ok-insert.ensures.updates.0 other)
