use Rattle.total_laws.proofs.WalkCalls.{walk_calls}
use Rattle.total_laws.proofs.walk_laws.walks_make_such_calls.Goals as goal

pub returns : goal.returns
returns c = λ body context payload actor actors. walk_calls body context payload actor actors
