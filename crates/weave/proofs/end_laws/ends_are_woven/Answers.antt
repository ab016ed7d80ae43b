use Rattle.weave.proofs.EndedTraces.{parts}
use Rattle.weave.proofs.end_laws.ends_are_woven.Goals as goal

pub returns : goal.returns
returns c = λ answer begun finished cpus main history steps ended given moved order. parts begun finished cpus main ended answer history steps given moved order
