use Rattle.code_runs.proofs.laws.codes_take_few.Goals as goal
use Rattle.code_runs.proofs.Few.{codes_take_few}

pub returns : goal.returns
returns c script codes actors actor few = codes_take_few script codes actors actor few
