use Rattle.code_runs.proofs.replay_laws.agreeing_runs_mean_the_script.Goals as goal
use Rattle.code_runs.proofs.Agreeing.{script_interleaving, script_replayed, script_serial}
use Rattle.code_runs.specs.HeldReplies.{IsHeldReply}

pub returns-clause-interleavings : goal.returns-clause-interleavings
returns-clause-interleavings c script attached r q steps job agree held i = script_interleaving IsHeldReply script attached r job q agree steps held i

pub returns-clause-replayed : goal.returns-clause-replayed
returns-clause-replayed c script attached r q steps job agree held i = script_replayed IsHeldReply script attached r job q agree steps held i

pub returns-clause-serial : goal.returns-clause-serial
returns-clause-serial c script attached r q job agree held = script_serial IsHeldReply script attached r job q agree held
