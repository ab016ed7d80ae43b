use Rattle.std.proofs.Common.{refl}
use Rattle.std.specs.Int.{int_wrap}
use Rattle.map_rows.specs.Merged.{merged}
use Rattle.bt_meaning.specs.Totals.{totals}
use Rattle.meaning_tests.proofs.totals.ticks_count_for_who_runs_them.Goals as goal

pub returns-clause-last : goal.returns-clause-last
unfolding totals merged int_wrap
returns-clause-last c = refl

pub returns-clause-first : goal.returns-clause-first
unfolding totals merged int_wrap
returns-clause-first c = refl

pub returns-clause-each : goal.returns-clause-each
unfolding totals merged int_wrap
returns-clause-each c = refl
