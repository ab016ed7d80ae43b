use Rattle.walk_meaning.proofs.OwnItems.{own-items}
use Rattle.walk_meaning.proofs.laws.only_own_items_are_emitted.Goals as goal

pub returns : goal.returns
returns c = λ setting formats body context payload actor actors can placed. own-items setting formats body context payload actor actors can placed c.merged_rows_fit.ensures.rows
