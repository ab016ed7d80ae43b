-- The script's own meaning: its bodies are walked.
use Rattle.std.specs.Prelude.{ℕ, ◌+◌, List, length, map, Option, Some, None, slice_get}
use Rattle.bt_ast.specs.declared.attached.Attached.{Attached}
use Rattle.bt_core.specs.declared.context.Context.{Context}
use Rattle.bt_core.specs.Interaction.{Interaction, Ended, and_then}
use Rattle.recordings.specs.declared.recording.Recording.{Recording}
use Rattle.typed_tree.specs.declared.body.TypedBody.{TypedBody}
use Rattle.typed_tree.specs.declared.script.Typed.{Typed}
use Rattle.actor_plan.specs.Plans.{Plan}
use Rattle.walk_meaning.specs.Walk.{walk}
use Rattle.walk_meaning.specs.Served.{least_length}
use Rattle.bt_meaning.specs.Replays.{Replay}

-- the walk of a body, if it is there, by an actor below so many; a walk executes no instructions
abbrev pub walked : Option TypedBody → Context → List ℕ → ℕ → ℕ → Interaction ℕ
walked None context payload actor actors = Ended 0
walked (Some body) context payload actor actors = and_then (walk body context payload actor actors) (λ ending. Ended 0)

-- the walks of a script's bodies by an actor below so many
abbrev pub walking : Typed → ℕ → ℕ → Plan
walking script actors actor = record {
  actor = actor;
  actors = actors;
  maps = script.maps;
  sizes = map (λ (body : TypedBody). least_length body.layout) script.bodies;
  run = λ body context payload. walked (slice_get script.bodies body) context payload actor actors;
}

-- a script over a recording
abbrev pub replay_of : Typed → Attached → Recording → Replay
replay_of script attached r = record {
  recording = r;
  attached = attached;
  exits = script.uses_exit;
  maps = script.maps;
  plan = walking script (length r.cpus + 1);
}
