use Rattle.total_laws.proofs.StepCalls.{steps_call}
use Rattle.total_laws.proofs.call_laws.steps_make_such_calls.Goals as goal

pub returns : goal.returns
returns c = λ script attached r steps job is. steps_call script attached r job steps is (c.steps_are_own.ensures script attached r steps job is)
