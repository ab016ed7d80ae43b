-- How many instructions a list of steps took.
use Rattle.std.specs.Prelude.{ℕ, ◌+◌, List, sum, map, Option, None, Some}
use Rattle.std.specs.List.{range_with_len}
use Rattle.bt_core.specs.declared.step.Reply.{Reply}
use Rattle.bt_core.specs.declared.step.Step.{Step}
use Rattle.bt_core.specs.Interaction.{value_under}
use Rattle.bt_core.specs.Steps.{of_actor}
use Rattle.actor_plan.specs.declared.outcome.Outcome.{Outcome}
use Rattle.actor_plan.specs.Programs.{actor_program}
use Rattle.bt_meaning.specs.Replays.{Replay, cpus_of}

-- those of a program that ended
abbrev pub outcome_count : Option Outcome → ℕ
outcome_count None = 0
outcome_count (Some outcome) = outcome.instructions

abbrev pub reply_of : Step → Reply
reply_of s = s.reply

-- what an actor's program took under the replies that the actor's steps have
abbrev pub actor_instructions : Replay → List Step → ℕ → ℕ
actor_instructions p steps actor =
    outcome_count (value_under (actor_program (p.plan actor) p.exits p.recording p.attached) (map reply_of (of_actor actor steps)))

-- those of all bodies that were run, by the CPUs and the main actor
unfoldable pub instructions_of : Replay → List Step → ℕ
instructions_of p steps = sum (map (actor_instructions p steps) (range_with_len 0 (cpus_of p + 1)))
