use Rattle.std.proofs.Common.{refl, [], ◌∷◌, ◌∙◌}
use Rattle.std.specs.Fmt.{digits}
use Rattle.std.specs.Int.{int_wrap}
use Rattle.map_rows.specs.Merged.{merged}
use Rattle.meaning_tests.specs.Intervals.{two_and_one}
use Rattle.meaning_tests.specs.Written.{counts_decl}
use Rattle.meaning_tests.proofs.IntervalLists.{clears_two_and_one}
use Rattle.meaning_tests.proofs.Texts.{with_maps}
use Rattle.meaning_tests.proofs.intervals.a_clear_may_lose_a_count.Goals as goal

pub returns-clause-list : goal.returns-clause-list
returns-clause-list c = clears_two_and_one (0 ∷ 0 ∷ []) 5 30

pub returns-clause-text : goal.returns-clause-text
unfolding merged int_wrap digits
returns-clause-text c = λ script maps. with_maps script (counts_decl ∷ []) 2 two_and_one maps ∙ refl
