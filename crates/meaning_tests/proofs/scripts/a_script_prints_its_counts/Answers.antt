use Rattle.std.proofs.Common.{sym, subst, ap, ◌∙◌}
use Rattle.bt_meaning.specs.Interleavings.{IsInterleaving}
use Rattle.bt_meaning.specs.Replays.{Replay}
use Rattle.bt_meaning.specs.Serial.{serial_steps}
use Rattle.meaning_tests.specs.Intervals.{first_three, first_two}
use Rattle.meaning_tests.proofs.IntervalLists.{prints_three, prints_two, prints_two_serial}
use Rattle.meaning_tests.proofs.ScriptReplays.{printing_script, sizes_of}
use Rattle.meaning_tests.proofs.scripts.a_script_prints_its_counts.Goals as goal

pub returns-clause-two : goal.returns-clause-two
returns-clause-two c = λ script has. subst (λ (p : Replay). IsInterleaving p first_two) (sym (printing_script script has)) (prints_two (sizes_of script) 0 0)

pub returns-clause-three : goal.returns-clause-three
returns-clause-three c = λ script has. subst (λ (p : Replay). IsInterleaving p first_three) (sym (printing_script script has)) (prints_three (sizes_of script) 0 0)

pub returns-clause-serial : goal.returns-clause-serial
returns-clause-serial c = λ script has. ap serial_steps (printing_script script has) ∙ prints_two_serial (sizes_of script) 0 0
