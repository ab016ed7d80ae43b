use Rattle.std.proofs.Common.{refl, [], ◌∷◌, ◌∙◌}
use Rattle.std.specs.Fmt.{digits}
use Rattle.std.specs.Int.{int_wrap}
use Rattle.map_rows.specs.Merged.{merged}
use Rattle.meaning_tests.specs.Intervals.{first_two}
use Rattle.meaning_tests.specs.Written.{counts_decl}
use Rattle.meaning_tests.proofs.IntervalLists.{prints_two, prints_two_serial}
use Rattle.meaning_tests.proofs.Texts.{with_maps}
use Rattle.meaning_tests.proofs.intervals.the_first_print_may_show_two.Goals as goal

pub returns-clause-list : goal.returns-clause-list
returns-clause-list c = prints_two (0 ∷ 0 ∷ []) 5 20

pub returns-clause-serial : goal.returns-clause-serial
returns-clause-serial c = prints_two_serial (0 ∷ 0 ∷ []) 5 20

pub returns-clause-text : goal.returns-clause-text
unfolding merged int_wrap digits
returns-clause-text c = λ script maps. with_maps script (counts_decl ∷ []) 2 first_two maps ∙ refl
