use Rattle.bpf_encode.proofs.CodeLemmas.{IsWellFormed-append, IsCode-append, code_bytes-append, length-code_bytes}
use Rattle.bpf_encode.proofs.laws.code_behind_code.Goals as goal

pub returns-clause-well_formed : goal.returns-clause-well_formed
returns-clause-well_formed c = IsWellFormed-append

pub returns-clause-code : goal.returns-clause-code
returns-clause-code c = IsCode-append

pub returns-clause-bytes : goal.returns-clause-bytes
returns-clause-bytes c = code_bytes-append

pub returns-clause-long : goal.returns-clause-long
returns-clause-long c = length-code_bytes
