use Rattle.bt_grammar.proofs.FewProbes.{few_probes}
use Rattle.bt_grammar.proofs.laws.few_probes.Goals as goal

pub returns : goal.returns
returns c = few_probes
