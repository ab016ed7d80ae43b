use Rattle.agg_core.proofs.MergeLaws.{merged-both}
use Rattle.agg_core.proofs.laws.merged_is_of_both_lists.Goals as goal

pub returns : goal.returns
returns c = merged-both
