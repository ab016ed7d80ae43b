use Rattle.std.proofs.Common.{refl}
use Rattle.std.specs.Int.{int_wrap}
use Rattle.actor_plan.specs.Agendas.{agenda_of}
use Rattle.actor_plan.specs.Programs.{actor_program}
use Rattle.map_rows.specs.Merged.{merged}
use Rattle.bt_meaning.specs.Instructions.{instructions_of}
use Rattle.meaning_tests.proofs.intervals.sums_of_instructions_stay.Goals as goal

pub returns-clause-two : goal.returns-clause-two
unfolding instructions_of actor_program agenda_of merged int_wrap
returns-clause-two c = refl

pub returns-clause-three : goal.returns-clause-three
unfolding instructions_of actor_program agenda_of merged int_wrap
returns-clause-three c = refl
