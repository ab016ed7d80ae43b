use Rattle.run_objects.proofs.ClosedLemmas.{closed_stands}
use Rattle.run_objects.proofs.objects.Objects.close.Goals as goal

pub returns : goal.returns
returns c = λ w steps stand. closed_stands w steps c.args.self (record { parts = c.in_ok-parts.parts; tables = c.in_ok-tables.tables }) c.in_ok-parts.ensures c.in_ok-tables.ensures stand
