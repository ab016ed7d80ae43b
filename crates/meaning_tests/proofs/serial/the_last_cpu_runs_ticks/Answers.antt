use Rattle.std.proofs.Common.{refl, [], ◌∷◌, ◌∙◌}
use Rattle.std.specs.Int.{int_wrap}
use Rattle.std.specs.Fmt.{digits}
use Rattle.map_rows.specs.Merged.{merged}
use Rattle.bt_meaning.specs.Schedules.{serial_order}
use Rattle.bt_meaning.specs.Serial.{serial_steps}
use Rattle.meaning_tests.specs.Serial.{by_cpu_decl, by_second}
use Rattle.meaning_tests.proofs.Texts.{with_maps}
use Rattle.meaning_tests.proofs.serial.the_last_cpu_runs_ticks.Goals as goal

pub returns-clause-steps : goal.returns-clause-steps
unfolding serial_steps serial_order int_wrap
returns-clause-steps c = refl

pub returns-clause-text : goal.returns-clause-text
unfolding merged int_wrap digits
returns-clause-text c = λ script maps. with_maps script (by_cpu_decl ∷ []) 2 by_second maps ∙ refl
