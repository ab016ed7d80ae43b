use Rattle.begun_meaning.proofs.WholeLists.{clocks}
use Rattle.begun_meaning.proofs.laws.clocks_need_no_length.Goals as goal

pub returns : goal.returns
returns c = λ main begun steps between before s after cut. clocks main begun steps between before s after cut
