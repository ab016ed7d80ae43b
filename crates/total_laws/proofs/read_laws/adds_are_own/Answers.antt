use Rattle.total_laws.proofs.OwnAdds.{adds_are}
use Rattle.total_laws.proofs.read_laws.adds_are_own.Goals as goal

pub returns : goal.returns
returns c = λ script attached r steps job is. adds_are steps (c.steps_make_such_calls.ensures script attached r steps job is)
