use Rattle.bt_meaning.proofs.OwnCalls.{script_steps}
use Rattle.bt_meaning.proofs.laws.steps_are_own.Goals as goal

pub returns : goal.returns
returns c = λ script attached r steps job i. script_steps script attached r job c.merged_rows_fit.ensures.rows steps i
