use Rattle.tracefs_format.proofs.NameLaws.{full_name-IsNamed, IsNamed-full_name}
use Rattle.tracefs_format.proofs.laws.one_tracepoint_of_a_name.Goals as goal

pub returns : goal.returns
returns c = λ f g h k. (full_name-IsNamed f g h k, IsNamed-full_name f g)
