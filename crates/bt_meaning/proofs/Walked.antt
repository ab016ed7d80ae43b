-- Runs of bodies that are walks.
use Rattle.std.proofs.Common.{ℕ, List}
use Rattle.std.specs.Prelude.{Option, Some, None, slice_get}
use Rattle.bt_ast.specs.declared.attached.Attached.{Attached}
use Rattle.bt_core.specs.declared.context.Context.{Context}
use Rattle.bt_core.specs.Interaction.{Ended}
use Rattle.recordings.specs.declared.recording.Recording.{Recording}
use Rattle.typed_tree.specs.declared.body.TypedBody.{TypedBody}
use Rattle.typed_tree.specs.declared.script.Typed.{Typed}
use Rattle.walk_meaning.specs.Walk.{walk}
use Rattle.bt_meaning.specs.Ticks.{BodiesOnlyStop, OnlyStops}
use Rattle.bt_meaning.specs.Walks.{replay_of, walked}
use Rattle.bt_meaning.proofs.WalkStops.{stops-then, walk_stops}

walked_stops : (body : Option TypedBody) (context : Context) (payload : List ℕ) (actor actors : ℕ) → OnlyStops (walked body context payload actor actors)
walked_stops None context payload actor actors = tt
walked_stops (Some body) context payload actor actors =
    stops-then (walk body context payload actor actors) (λ ending. Ended 0) (walk_stops body context payload actor actors) (λ ending. tt)

pub walks_stop : (script : Typed) (attached : Attached) (r : Recording) → BodiesOnlyStop (replay_of script attached r)
walks_stop script attached r actor body context payload = walked_stops (slice_get script.bodies body) context payload actor _
