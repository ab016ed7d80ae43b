use Rattle.std.proofs.Common.{refl, [], ◌∷◌, ◌∙◌}
use Rattle.std.specs.Fmt.{digits}
use Rattle.std.specs.Int.{int_wrap}
use Rattle.map_rows.specs.Merged.{merged}
use Rattle.meaning_tests.specs.Intervals.{three_and_one, two_and_two}
use Rattle.meaning_tests.specs.Written.{counts_decl}
use Rattle.meaning_tests.proofs.IntervalLists.{clears_three_and_one, clears_two_and_two, clears_two_and_two_serial}
use Rattle.meaning_tests.proofs.Texts.{with_maps}
use Rattle.meaning_tests.proofs.intervals.clears_keep_counts_apart.Goals as goal

pub returns-clause-two_and_two : goal.returns-clause-two_and_two
returns-clause-two_and_two c = clears_two_and_two (0 ∷ 0 ∷ []) 5 30

pub returns-clause-serial : goal.returns-clause-serial
returns-clause-serial c = clears_two_and_two_serial (0 ∷ 0 ∷ []) 5 30

pub returns-clause-two_and_two_text : goal.returns-clause-two_and_two_text
unfolding merged int_wrap digits
returns-clause-two_and_two_text c = λ script maps. with_maps script (counts_decl ∷ []) 2 two_and_two maps ∙ refl

pub returns-clause-three_and_one : goal.returns-clause-three_and_one
returns-clause-three_and_one c = clears_three_and_one (0 ∷ 0 ∷ []) 5 30

pub returns-clause-three_and_one_text : goal.returns-clause-three_and_one_text
unfolding merged int_wrap digits
returns-clause-three_and_one_text c = λ script maps. with_maps script (counts_decl ∷ []) 2 three_and_one maps ∙ refl
