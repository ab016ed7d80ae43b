use Rattle.agg_core.proofs.CountLaws.{buckets-fit}
use Rattle.agg_core.proofs.laws.aggregates_are_well_formed.Goals as goal

pub returns : goal.returns
returns c kind ns fine = record { kind = fine; counts = buckets-fit kind ns }
