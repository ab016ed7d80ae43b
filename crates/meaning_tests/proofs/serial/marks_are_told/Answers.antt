use Rattle.std.proofs.Common.{refl, [], ◌∷◌, ◌∙◌}
use Rattle.std.specs.Int.{int_wrap}
use Rattle.std.specs.Fmt.{digits}
use Rattle.map_rows.specs.Merged.{merged}
use Rattle.bt_meaning.specs.Schedules.{serial_order}
use Rattle.bt_meaning.specs.Serial.{serial_steps}
use Rattle.meaning_tests.specs.Marks.{told_between, told_by_time, untold}
use Rattle.meaning_tests.specs.Written.{counts_decl}
use Rattle.meaning_tests.proofs.Stamped.{stamps_rise}
use Rattle.meaning_tests.proofs.Texts.{with_maps}
use Rattle.meaning_tests.proofs.serial.marks_are_told.Goals as goal

pub returns-clause-between : goal.returns-clause-between
unfolding serial_steps serial_order int_wrap
returns-clause-between c = refl

pub returns-clause-stamps : goal.returns-clause-stamps
returns-clause-stamps c = λ steps woven e. stamps_rise steps e woven.stamps

pub returns-clause-exit : goal.returns-clause-exit
unfolding serial_steps serial_order int_wrap
returns-clause-exit c = refl

pub returns-clause-two : goal.returns-clause-two
unfolding serial_steps serial_order int_wrap
returns-clause-two c = refl

pub returns-clause-between_text : goal.returns-clause-between_text
unfolding merged int_wrap digits
returns-clause-between_text c = λ script maps. with_maps script (counts_decl ∷ []) 1 told_between maps ∙ refl

pub returns-clause-exit_text : goal.returns-clause-exit_text
unfolding merged int_wrap digits
returns-clause-exit_text c = λ script maps. with_maps script [] 1 untold maps ∙ refl

pub returns-clause-two_text : goal.returns-clause-two_text
unfolding merged int_wrap digits
returns-clause-two_text c = λ script maps. with_maps script [] 2 told_by_time maps ∙ refl
