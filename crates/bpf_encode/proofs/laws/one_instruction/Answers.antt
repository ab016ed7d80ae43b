use Rattle.bpf_encode.proofs.CodeLemmas.{IsWellFormed-one, IsWellFormed-wide}
use Rattle.bpf_encode.proofs.laws.one_instruction.Goals as goal

pub returns-clause-alone : goal.returns-clause-alone
returns-clause-alone c = IsWellFormed-one

pub returns-clause-wide : goal.returns-clause-wide
returns-clause-wide c = IsWellFormed-wide
