use Rattle.map_rows.proofs.MergedRowsLaws.{described, alone}
use Rattle.map_rows.proofs.laws.merged_rows_are.Goals as goal

pub returns-clause-these : goal.returns-clause-these
returns-clause-these c = described

pub returns-clause-alone : goal.returns-clause-alone
returns-clause-alone c = alone
