use Rattle.std.proofs.Common.{refl}
use Rattle.bt_meaning.specs.Walks.{replay_of}
use Rattle.bt_meaning.proofs.SerialLaws.{serial_interleaves}
use Rattle.bt_meaning.proofs.laws.serial_list_is_an_interleaving.Goals as goal

pub returns-clause-any : goal.returns-clause-any
returns-clause-any c = λ p valid turn own. serial_interleaves p valid turn own

pub returns-clause-script : goal.returns-clause-script
returns-clause-script c = λ script attached r job. serial_interleaves (replay_of script attached r) job.valid job.in_turn (λ actor. refl)
