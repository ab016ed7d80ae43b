-- Where a body may be run, it may be walked.
use Rattle.std.proofs.Common.{◌≡◌, ℕ, ◌<◌, ◌≤◌, List, length, get_or, refl, ◌∙◌, subst}
use Rattle.std.specs.Prelude.{All, Some, slice_get}
use Rattle.std.proofs.lemmas.Option.{slice_get_within, get_or_from_slice_get}
use Rattle.bt_core.specs.declared.context.Context.{Context}
use Rattle.bt_core.specs.declared.ending.Ending.{Ending}
use Rattle.bt_core.specs.declared.map.MapDecl.{MapDecl}
use Rattle.bt_core.specs.declared.map.MapId.{MapId}
use Rattle.bt_core.specs.declared.step.Step.{Step}
use Rattle.bt_core.specs.Interaction.{Interaction, Ended, and_then, Whole, Part}
use Rattle.bt_core.specs.Ports.{Setting}
use Rattle.bt_core.proofs.InteractionLaws.{Whole-and_then, Whole-Ended, Part-and_then}
use Rattle.typed_tree.specs.declared.body.TypedBody.{TypedBody}
use Rattle.typed_tree.specs.declared.script.Typed.{Typed}
use Rattle.actor_plan.specs.Plans.{CanRun, ServesPlan}
use Rattle.walk_meaning.specs.Served.{CanWalk}
use Rattle.bt_meaning.specs.Walks.{walking}
use Rattle.bt_meaning.proofs.OwnCalls.{size_at}
use Rattle.bt_meaning.proofs.Placed.{maps_placed}

pub can_walk : (script : Typed) (body : ℕ) (b : TypedBody) (context : Context) (payload : List ℕ) (setting : Setting) (actor actors : ℕ) → actor < actors → slice_get script.bodies body ≡ Some b
    → CanRun (walking script actors actor) body context payload → ServesPlan (walking script actors actor) setting → CanWalk setting b context payload actor actors
can_walk script body b context payload setting actor actors low e can served =
    let placed : All (λ (m : MapId × MapDecl). slice_get script.maps m.0.0 ≡ Some m.1) b.maps =
    subst (λ (x : TypedBody). All (λ (m : MapId × MapDecl). slice_get script.maps m.0.0 ≡ Some m.1) x.maps) (get_or_from_slice_get script.bodies body b b e) (maps_placed script body b (slice_get_within script.bodies body b e)) in
    record {
      payload_is_long = subst (λ n. n ≤ length payload) (size_at script.bodies body b e) can.long;
      length_is_named = can.counted;
      maps_are_served = λ k d below. let p = placed k d below in served.maps (get_or b.maps k d).0.0 (slice_get_within script.maps (get_or b.maps k d).0.0 (get_or b.maps k d).1 p) ∙ p;
      actor_is_the_ports = served.actor;
      actor_is_below = low;
      actors_are_the_ports = served.actors;
    }

-- the walk was performed, and then its count is none
pub walk_done : (t : Interaction Ending) (old new : List Step) (e : Ending) → Whole t old new e → Whole {A = ℕ} (and_then t (λ ending. Ended 0)) old new 0
walk_done t old new e w = let zero : ℕ = 0 in Whole-and_then t (λ ending. Ended zero) old new new e zero w (Whole-Ended zero zero new refl)

pub walk_stopped : (t : Interaction Ending) (old new : List Step) → Part t old new → Part {A = ℕ} (and_then t (λ ending. Ended 0)) old new
walk_stopped t old new w = let zero : ℕ = 0 in Part-and_then t (λ ending. Ended zero) old new w
