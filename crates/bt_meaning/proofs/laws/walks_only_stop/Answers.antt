use Rattle.bt_meaning.proofs.WalkStops.{walk_stops}
use Rattle.bt_meaning.proofs.laws.walks_only_stop.Goals as goal

pub returns : goal.returns
returns c = λ body context payload actor actors. walk_stops body context payload actor actors
