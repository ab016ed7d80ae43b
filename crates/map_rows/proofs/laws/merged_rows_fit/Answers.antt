use Rattle.map_rows.proofs.MergedFitting.{merged_fit, reply_has_rows}
use Rattle.map_rows.proofs.laws.merged_rows_fit.Goals as goal

pub returns-clause-replies : goal.returns-clause-replies
returns-clause-replies c = reply_has_rows

pub returns-clause-rows : goal.returns-clause-rows
returns-clause-rows c = merged_fit
