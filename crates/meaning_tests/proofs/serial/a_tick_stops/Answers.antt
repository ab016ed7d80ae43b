use Rattle.std.proofs.Common.{refl, [], ◌∷◌, ◌∙◌}
use Rattle.std.specs.Int.{int_wrap}
use Rattle.std.specs.Fmt.{digits}
use Rattle.map_rows.specs.Merged.{merged}
use Rattle.bt_meaning.specs.Schedules.{serial_order}
use Rattle.bt_meaning.specs.Serial.{serial_steps}
use Rattle.meaning_tests.specs.Serial.{until_tick}
use Rattle.meaning_tests.specs.Written.{counts_decl}
use Rattle.meaning_tests.proofs.Texts.{with_maps}
use Rattle.meaning_tests.proofs.serial.a_tick_stops.Goals as goal

pub returns-clause-steps : goal.returns-clause-steps
unfolding serial_steps serial_order int_wrap
returns-clause-steps c = refl

pub returns-clause-text : goal.returns-clause-text
unfolding merged int_wrap digits
returns-clause-text c = λ script maps. with_maps script (counts_decl ∷ []) 1 until_tick maps ∙ refl
