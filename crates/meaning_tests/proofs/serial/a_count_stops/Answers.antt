use Rattle.std.proofs.Common.{refl, [], ◌∷◌, ◌∙◌}
use Rattle.std.specs.Int.{int_wrap}
use Rattle.std.specs.Fmt.{digits}
use Rattle.std.specs.Prelude.{codes}
use Rattle.fmt_text.specs.declared.piece.Piece.TheVariants.{Literal}
use Rattle.map_rows.specs.Merged.{merged}
use Rattle.bt_meaning.specs.Schedules.{serial_order}
use Rattle.bt_meaning.specs.Serial.{serial_steps}
use Rattle.meaning_tests.specs.Serial.{n_and_i, until_count}
use Rattle.meaning_tests.proofs.Texts.{with_formats}
use Rattle.meaning_tests.proofs.serial.a_count_stops.Goals as goal

pub returns-clause-steps : goal.returns-clause-steps
unfolding serial_steps serial_order int_wrap
returns-clause-steps c = refl

pub returns-clause-text : goal.returns-clause-text
unfolding merged int_wrap digits
returns-clause-text c = λ script maps formats. with_formats script ((Literal (codes "bye\n") ∷ []) ∷ []) n_and_i 1 until_count formats maps ∙ refl
