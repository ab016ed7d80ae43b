use Rattle.walk_meaning.proofs.AskingStmts.{walk-admits}
use Rattle.walk_meaning.proofs.laws.only_what_is_served_is_asked.Goals as goal

pub returns : goal.returns
returns c setting body context payload actor actors can = walk-admits setting body context payload actor actors can
