use Rattle.std.proofs.Common.{refl}
use Rattle.map_rows.specs.Merged.{merged}
use Rattle.printer_tests.proofs.worked.the_first_value_stays.Goals as goal

pub returns : goal.returns
unfolding merged
returns c = refl
