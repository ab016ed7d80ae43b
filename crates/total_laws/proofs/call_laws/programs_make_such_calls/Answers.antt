use Rattle.total_laws.proofs.ProgramCalls.{programs_call}
use Rattle.total_laws.proofs.call_laws.programs_make_such_calls.Goals as goal

pub returns : goal.returns
returns c = λ script attached r job actor. programs_call script attached r job actor
