-- Steps of one CPU, number 0, and of the main actor, number 1, which makes one step as BEGIN and one as END.
use Rattle.std.specs.Prelude.{[], ◌∷◌, List, pos}
use Rattle.bt_core.specs.declared.item.Item.TheVariants.{Cut}
use Rattle.bt_core.specs.declared.map.MapId.{MapId}
use Rattle.bt_core.specs.declared.step.ObjectId.TheVariants.{Cpu, Out}
use Rattle.bt_core.specs.declared.step.Op.TheVariants.{Add, Emit}
use Rattle.bt_core.specs.declared.step.Reply.TheVariants.{Done}
use Rattle.bt_core.specs.declared.step.Step.{Step}
use Rattle.stamped.specs.Traces.{step_by}

abbrev pub begin_step : Step
begin_step = step_by 1 Out 1 (Emit (Cut 1)) Done

-- behind BEGIN, at a table of its own
abbrev pub cpu_step : Step
cpu_step = step_by 0 (Cpu 0) 2 (Add (record { 0 = 0 }) [] (pos 1)) Done

-- behind all clocks
abbrev pub late_end : Step
late_end = step_by 1 Out 3 (Emit (Cut 1)) Done

-- behind the clock of the main actor and that of the output, both 1, and not behind the CPU's
abbrev pub early_end : Step
early_end = step_by 1 Out 2 (Emit (Cut 1)) Done

abbrev pub steps_with : Step → List Step
steps_with end = begin_step ∷ cpu_step ∷ end ∷ []
