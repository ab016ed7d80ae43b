use Rattle.bpf_insn.proofs.Rules.{same_form}
use Rattle.bpf_insn.proofs.laws.one_form.Goals as goal

pub returns : goal.returns
returns c = same_form
