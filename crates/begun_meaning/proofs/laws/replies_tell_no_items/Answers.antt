use Rattle.begun_meaning.proofs.BlindReplies.{replies_alike}
use Rattle.begun_meaning.proofs.laws.replies_tell_no_items.Goals as goal

pub returns : goal.returns
returns c = λ maps cpus object before others op other same now. replies_alike maps cpus object before others op other same now
