-- A script over a recording asks only what its objects take.
use Rattle.std.proofs.Common.{◌≡◌, ℕ, ◌+◌, ◌<◌, ◌≤◌, List, All, Option, Some, None, length, slice_get, subst, refl, arith}
use Rattle.std.proofs.lemmas.List.{length-map}
use Rattle.std.proofs.lemmas.List.Elements.{All-from_recursion}
use Rattle.std.proofs.lemmas.Option.{get_or_from_slice_get}
use Rattle.bt_ast.specs.declared.attached.Attached.{Attached}
use Rattle.bt_core.specs.declared.ending.Ending.{Ending}
use Rattle.bt_core.specs.declared.map.MapDecl.{MapDecl}
use Rattle.bt_core.specs.declared.map.MapId.{MapId}
use Rattle.bt_core.specs.declared.step.ObjectId.{ObjectId}
use Rattle.bt_core.specs.declared.step.ObjectId.TheVariants.{Shared, Cpu, Clock, Out}
use Rattle.bt_core.specs.declared.step.Op.{Op}
use Rattle.bt_core.specs.Interaction.{Interaction, Ended, Asks, and_then}
use Rattle.bt_core.specs.Kinds.{IsFineDecl}
use Rattle.bt_core.specs.Ports.{CanStep}
use Rattle.recordings.specs.declared.recording.Recording.{Recording}
use Rattle.typed_tree.specs.declared.body.TypedBody.{TypedBody}
use Rattle.typed_tree.specs.declared.script.Typed.{Typed}
use Rattle.actor_plan.specs.Plans.{AsksOf, BodiesAsk}
use Rattle.actor_plan.proofs.AskLaws.{begin_asks, end_asks, cpu_asks}
use Rattle.walk_meaning.specs.Admits.{AdmitsOf}
use Rattle.walk_meaning.specs.Walk.{walk}
use Rattle.walk_meaning.specs.Served.{least_length}
use Rattle.walk_meaning.proofs.AskingStmts.{walk-admits}
use Rattle.bt_meaning.specs.Jobs.{IsJob}
use Rattle.bt_meaning.specs.OwnSteps.{setting_of}
use Rattle.bt_meaning.specs.Walks.{walked, walking, replay_of}
use Rattle.bt_meaning.proofs.OwnCalls.{size_at, all_fine}
use Rattle.bt_meaning.proofs.Placed.{maps_placed}
use Rattle.code_runs.specs.Asking.{objects_of, AsksObjects}

walked_asks : (calls others : ObjectId → Op → Type 0) (maps : List MapDecl) (t : Interaction Ending) → ((object : ObjectId) (op : Op) → calls object op → others object op)
    → AdmitsOf calls maps (λ ending. Unit {0}) t → AsksOf {A = ℕ} others maps (and_then t (λ ending. Ended 0))
walked_asks calls others maps (Ended e) so h = tt
walked_asks calls others maps (Asks c f) so h = (so c.object c.op h.0, λ reply kind. walked_asks calls others maps (f reply) so (h.1 reply kind))

module _ (script : Typed) (attached : Attached) (r : Recording) where
  abbrev actors : ℕ
  actors = length r.cpus + 1

  abbrev at_objects : ObjectId → Op → Type 0
  at_objects = CanStep (objects_of (replay_of script attached r))

  any_actor : (actor : ℕ) (object : ObjectId) (op : Op) → CanStep (setting_of script attached r actor) object op → at_objects object op
  any_actor actor (Shared m n) op can = can
  any_actor actor (Cpu a) op can = can
  any_actor actor Clock op can = can
  any_actor actor Out op can = can

  pub runs_ask : (actor : ℕ) → actor < actors → BodiesAsk at_objects script.maps (walking script actors actor)
  runs_ask actor low body context payload can = found (slice_get script.bodies body) refl
    where
      within : body < length script.bodies
      within = let long = length-map script.bodies (λ (b : TypedBody). least_length b.layout) in let known = can.known in omega (arith, long, known)

      found : (o : Option TypedBody) → slice_get script.bodies body ≡ o → AsksOf at_objects script.maps (walked o context payload actor actors)
      found None e = tt
      found (Some b) e =
          let same = get_or_from_slice_get script.bodies body b b e in
          walked_asks (CanStep (setting_of script attached r actor)) at_objects script.maps (walk b context payload actor actors) (any_actor actor)
          (walk-admits (setting_of script attached r actor) b context payload actor actors
          (record {
            payload_is_long = subst (λ n. n ≤ length payload) (size_at script.bodies body b e) can.long;
            length_is_named = can.counted;
            maps_are_served = subst (λ (x : TypedBody). All (λ (m : MapId × MapDecl). slice_get script.maps m.0.0 ≡ Some m.1) x.maps) same (maps_placed script body b within);
            actor_is_the_ports = refl;
            actor_is_below = low;
            actors_are_the_ports = refl;
          }))

  pub script_asks : IsJob script attached r → AsksObjects (replay_of script attached r)
  script_asks job = record {
    fine = All-from_recursion IsFineDecl script.maps (all_fine script.maps script.fine);
    begin = begin_asks at_objects script.maps (walking script actors (length r.cpus)) r attached job.valid (job.bodies (length r.cpus)) tt (λ tick low. low) (λ number count. tt) (runs_ask (length r.cpus) (omega arith));
    cpus = λ cpu low. cpu_asks at_objects script.maps (walking script actors cpu) r attached job.valid (job.bodies cpu) tt (λ tick less. less) (λ number count. tt) (runs_ask cpu (omega (arith, low))) script.uses_exit;
    end = end_asks at_objects script.maps (walking script actors (length r.cpus)) r attached job.valid (job.bodies (length r.cpus)) tt (λ tick low. low) (λ number count. tt) (runs_ask (length r.cpus) (omega arith));
  }
