use Rattle.std.proofs.Common.{refl}
use Rattle.bt_meaning.specs.Walks.{replay_of}
use Rattle.bt_meaning.proofs.TicksAfter.{ticks_after}
use Rattle.bt_meaning.proofs.Walked.{walks_stop}
use Rattle.bt_meaning.proofs.laws.ticks_come_after.Goals as goal

pub returns-clause-any : goal.returns-clause-any
returns-clause-any c = λ p steps valid turn own stops it. ticks_after p valid turn own stops steps it

pub returns-clause-script : goal.returns-clause-script
returns-clause-script c = λ script attached r steps job it.
    ticks_after (replay_of script attached r) job.valid job.in_turn (λ actor. refl) (walks_stop script attached r) steps it
