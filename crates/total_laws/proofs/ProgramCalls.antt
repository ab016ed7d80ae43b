-- The programs of a script's actors make no other calls.
use Rattle.std.proofs.Common.{◌+◌, ℕ, List, length}
use Rattle.std.specs.Prelude.{slice_get, Option, Some, None}
use Rattle.bt_ast.specs.declared.attached.Attached.{Attached}
use Rattle.bt_core.specs.declared.context.Context.{Context}
use Rattle.bt_core.specs.declared.map.MapDecl.{MapDecl}
use Rattle.bt_core.specs.declared.step.ObjectId.{ObjectId}
use Rattle.bt_core.specs.declared.step.ObjectId.TheVariants.{Shared, Cpu, Clock, Out}
use Rattle.bt_core.specs.declared.step.Op.{Op}
use Rattle.bt_core.specs.declared.step.Op.TheVariants.{Cross, Check}
use Rattle.bt_core.specs.Interaction.{Interaction, Ended, Asks}
use Rattle.recordings.specs.declared.recording.Recording.{Recording}
use Rattle.typed_tree.specs.declared.body.TypedBody.{TypedBody}
use Rattle.typed_tree.specs.declared.script.Typed.{Typed}
use Rattle.walk_meaning.specs.Walk.{walk}
use Rattle.actor_plan.specs.Plans.{Plan, AsksOf, BodiesAsk}
use Rattle.actor_plan.specs.Programs.{begin_program, cpu_program, end_program}
use Rattle.actor_plan.proofs.AskLaws.{program_asks, begin_asks, cpu_asks, end_asks}
use Rattle.bt_meaning.specs.Jobs.{IsJob}
use Rattle.bt_meaning.specs.Walks.{walked, walking, replay_of}
use Rattle.begun_meaning.specs.Begun.{program_of}
use Rattle.total_laws.specs.WalkCalls.{IsWalkCall, OnlyCalls}
use Rattle.total_laws.proofs.WalkCalls.{only-then, walk_calls}
use Rattle.total_laws.specs.Calls.{IsProgramCall}

-- a call of a walk is one of a program
of_walk : (actor : ℕ) (object : ObjectId) (op : Op) → IsWalkCall actor object op → IsProgramCall actor object op
of_walk actor Clock (Cross tick) h = tt
of_walk actor Clock Check h = tt
of_walk actor (Shared m p) op h = h
of_walk actor (Cpu a) op h = h
of_walk actor Out op h = h
of_walk actor Clock op h = h

asks : {A : Type 0} (actor : ℕ) (maps : List MapDecl) (t : Interaction A) → OnlyCalls (IsWalkCall actor) t → AsksOf (IsProgramCall actor) maps t
asks actor maps (Ended a) h = tt
asks actor maps (Asks c f) h = (of_walk actor c.object c.op h.0, λ r kind. asks actor maps (f r) (h.1 r))

walked_calls : (o : Option TypedBody) (context : Context) (payload : List ℕ) (actor actors : ℕ) → OnlyCalls (IsWalkCall actor) (walked o context payload actor actors)
walked_calls None context payload actor actors = tt
walked_calls (Some body) context payload actor actors =
    only-then (IsWalkCall actor) (walk body context payload actor actors) (λ ending. Ended 0) (walk_calls body context payload actor actors) (λ ending. tt)

module _ (script : Typed) (attached : Attached) (r : Recording) (job : IsJob script attached r) (actor : ℕ) where
  abbrev plan : Plan
  plan = walking script (length r.cpus + 1) actor

  bodies_call : BodiesAsk (IsProgramCall actor) script.maps plan
  bodies_call body context payload can = asks actor script.maps (walked (slice_get script.bodies body) context payload actor (length r.cpus + 1))
      (walked_calls (slice_get script.bodies body) context payload actor (length r.cpus + 1))

  -- whatever is replied in its kind
  pub programs_call : AsksOf (IsProgramCall actor) script.maps (program_of (replay_of script attached r) actor)
  programs_call = program_asks (IsProgramCall actor) script.maps plan r attached job.valid (job.bodies actor) tt (λ tick lt. tt) (λ number count. tt) bodies_call script.uses_exit

  pub begin_call : AsksOf (IsProgramCall actor) script.maps (begin_program plan r attached)
  begin_call = begin_asks (IsProgramCall actor) script.maps plan r attached job.valid (job.bodies actor) tt (λ tick lt. tt) (λ number count. tt) bodies_call

  pub cpu_call : AsksOf (IsProgramCall actor) script.maps (cpu_program plan script.uses_exit r attached)
  cpu_call = cpu_asks (IsProgramCall actor) script.maps plan r attached job.valid (job.bodies actor) tt (λ tick lt. tt) (λ number count. tt) bodies_call script.uses_exit

  pub end_call : AsksOf (IsProgramCall actor) script.maps (end_program plan r attached)
  end_call = end_asks (IsProgramCall actor) script.maps plan r attached job.valid (job.bodies actor) tt (λ tick lt. tt) (λ number count. tt) bodies_call
