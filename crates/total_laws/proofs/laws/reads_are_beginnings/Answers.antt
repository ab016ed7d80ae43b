use Rattle.total_laws.proofs.TickReads.{reads_see}
use Rattle.total_laws.proofs.laws.reads_are_beginnings.Goals as goal

pub returns : goal.returns
returns c = λ script attached r steps run. reads_see script attached r steps run (c.steps_are_own.ensures script attached r steps run.job run.interleaving)
