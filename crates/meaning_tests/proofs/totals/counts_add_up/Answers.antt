use Rattle.std.proofs.Common.{refl}
use Rattle.std.specs.Int.{int_wrap}
use Rattle.map_rows.specs.Merged.{merged}
use Rattle.bt_meaning.specs.Totals.{totals}
use Rattle.meaning_tests.proofs.totals.counts_add_up.Goals as goal

pub returns-clause-who : goal.returns-clause-who
unfolding totals merged int_wrap
returns-clause-who c = refl

pub returns-clause-total : goal.returns-clause-total
unfolding totals merged int_wrap
returns-clause-total c = refl

pub returns-clause-other : goal.returns-clause-other
unfolding totals merged int_wrap
returns-clause-other c = refl
