use Rattle.rec_format.proofs.UniqueLaws.{one_fault, no_fault_beside}
use Rattle.rec_format.proofs.laws.one_fault.Goals as goal

pub returns : goal.returns
returns c = record { one = one_fault; none_beside = λ bytes r e. no_fault_beside r bytes e }
