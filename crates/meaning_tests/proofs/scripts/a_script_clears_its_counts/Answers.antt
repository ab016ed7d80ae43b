use Rattle.std.proofs.Common.{sym, subst, ap, ◌∙◌}
use Rattle.bt_meaning.specs.Interleavings.{IsInterleaving}
use Rattle.bt_meaning.specs.Replays.{Replay}
use Rattle.bt_meaning.specs.Serial.{serial_steps}
use Rattle.meaning_tests.specs.Intervals.{three_and_one, two_and_one, two_and_two}
use Rattle.meaning_tests.proofs.IntervalLists.{clears_three_and_one, clears_two_and_one, clears_two_and_two, clears_two_and_two_serial}
use Rattle.meaning_tests.proofs.ScriptReplays.{clearing_script, sizes_of}
use Rattle.meaning_tests.proofs.scripts.a_script_clears_its_counts.Goals as goal

pub returns-clause-two_and_two : goal.returns-clause-two_and_two
returns-clause-two_and_two c = λ script has. subst (λ (p : Replay). IsInterleaving p two_and_two) (sym (clearing_script script has)) (clears_two_and_two (sizes_of script) 0 0)

pub returns-clause-three_and_one : goal.returns-clause-three_and_one
returns-clause-three_and_one c = λ script has. subst (λ (p : Replay). IsInterleaving p three_and_one) (sym (clearing_script script has)) (clears_three_and_one (sizes_of script) 0 0)

pub returns-clause-two_and_one : goal.returns-clause-two_and_one
returns-clause-two_and_one c = λ script has. subst (λ (p : Replay). IsInterleaving p two_and_one) (sym (clearing_script script has)) (clears_two_and_one (sizes_of script) 0 0)

pub returns-clause-serial : goal.returns-clause-serial
returns-clause-serial c = λ script has. ap serial_steps (clearing_script script has) ∙ clears_two_and_two_serial (sizes_of script) 0 0
