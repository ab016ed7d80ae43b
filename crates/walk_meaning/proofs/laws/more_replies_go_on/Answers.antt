use Rattle.bt_core.proofs.InteractionLaws.{calls-prefix, calls-append, value_under-append}
use Rattle.walk_meaning.specs.Walk.{walk}
use Rattle.walk_meaning.proofs.laws.more_replies_go_on.Goals as goal

pub returns-clause-begins : goal.returns-clause-begins
returns-clause-begins c body context payload actor actors replies more = calls-prefix (walk body context payload actor actors) replies more

pub returns-clause-same : goal.returns-clause-same
returns-clause-same c body context payload actor actors replies more ending h = calls-append (walk body context payload actor actors) replies more ending h

pub returns-clause-ended : goal.returns-clause-ended
returns-clause-ended c body context payload actor actors replies more ending h = value_under-append (walk body context payload actor actors) replies more ending h
