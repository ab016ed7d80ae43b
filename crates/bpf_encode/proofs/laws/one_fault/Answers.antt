use Rattle.bpf_encode.proofs.Reaching.{one_fault_lem, none_beside_lem}
use Rattle.bpf_encode.proofs.laws.one_fault.Goals as goal

pub returns-clause-one : goal.returns-clause-one
returns-clause-one c = one_fault_lem

pub returns-clause-none_beside : goal.returns-clause-none_beside
returns-clause-none_beside c = none_beside_lem
