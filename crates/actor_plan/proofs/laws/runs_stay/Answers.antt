use Rattle.bt_core.proofs.InteractionLaws.{calls-append, value_under-append}
use Rattle.actor_plan.proofs.laws.runs_stay.Goals as goal

pub returns-clause-calls : goal.returns-clause-calls
returns-clause-calls c = λ run replies more count given. calls-append run replies more count given

pub returns-clause-count : goal.returns-clause-count
returns-clause-count c = λ run replies more count given. value_under-append run replies more count given
