use Rattle.begun_meaning.proofs.Determined.{only_one}
use Rattle.begun_meaning.proofs.laws.entries_tell_one_list.Goals as goal

pub returns : goal.returns
returns c = λ p one other begun other_begun same. only_one p one other begun other_begun same
