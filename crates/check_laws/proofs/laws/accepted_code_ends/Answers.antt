use Rattle.check_laws.proofs.Accepted.{accepted_ends}
use Rattle.check_laws.proofs.laws.accepted_code_ends.Goals as goal

pub returns : goal.returns
returns c = accepted_ends
