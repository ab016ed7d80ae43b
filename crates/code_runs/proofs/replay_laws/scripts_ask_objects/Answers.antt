use Rattle.code_runs.proofs.replay_laws.scripts_ask_objects.Goals as goal
use Rattle.code_runs.proofs.ScriptAsks.{script_asks}

pub returns : goal.returns
returns c script attached r job = script_asks script attached r job
