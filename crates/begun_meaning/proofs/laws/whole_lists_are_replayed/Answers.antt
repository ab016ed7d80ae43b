use Rattle.begun_meaning.proofs.WholeLists.{all_whole, begun_of_replayed, replayed}
use Rattle.begun_meaning.proofs.laws.whole_lists_are_replayed.Goals as goal

pub returns-clause-whole : goal.returns-clause-whole
returns-clause-whole c = λ p steps own begun whole. replayed p own steps begun whole

pub returns-clause-begun : goal.returns-clause-begun
returns-clause-begun c = λ p steps own made. begun_of_replayed p own steps made

pub returns-clause-all_whole : goal.returns-clause-all_whole
returns-clause-all_whole c = λ p steps own made. all_whole p own steps made
