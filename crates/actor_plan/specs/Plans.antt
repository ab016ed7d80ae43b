-- What is told of the bodies of a script, and when one of them may be run.
use Rattle.std.specs.Prelude.{◌≡◌, ℕ, ◌<◌, ◌≤◌, List, [], length, slice_get, slice_index, slice_index_or, All, Some}
use Rattle.bt_ast.specs.declared.attached.Attached.{Attached}
use Rattle.bt_ast.specs.declared.attached.Tick.{Tick}
use Rattle.bt_core.specs.declared.context.Context.{Context}
use Rattle.bt_core.specs.declared.map.MapDecl.{MapDecl}
use Rattle.bt_core.specs.declared.step.ObjectId.{ObjectId}
use Rattle.bt_core.specs.declared.step.Op.{Op}
use Rattle.bt_core.specs.declared.step.Reply.{Reply}
use Rattle.bt_core.specs.Interaction.{Interaction, Asks, Ended, value_under}
use Rattle.bt_core.specs.Ports.{Setting, CanStep, IsReplyOf}
use Rattle.event_layout.specs.declared.format.Format.{Format}
use Rattle.actor_plan.specs.declared.limits.TheConstants.{RUN_INSTRUCTIONS}

-- The actor that runs the bodies, the number of actors, the script's maps by their numbers, the layout size of each body by its
-- number, and what the run of a body asks at a context and a payload, which ends with the count of its instructions.
pub record Plan : Type 0 where
  pub actor : ℕ
  pub actors : ℕ
  pub maps : List MapDecl
  pub sizes : List ℕ
  pub run : ℕ → Context → List ℕ → Interaction ℕ

-- each of these maps is served at its number
abbrev pub AreServed : List MapDecl → List MapDecl → Type 0
AreServed maps served = (number : ℕ) → number < length maps → slice_get served number ≡ slice_get maps number

-- a port makes the steps of the plan's actor, among as many actors, and serves the script's maps
pub record ServesPlan (plan : Plan) (setting : Setting) : Type 0 where
  pub actor : setting.actor ≡ plan.actor
  pub actors : setting.actors ≡ plan.actors
  pub maps : AreServed plan.maps setting.maps

-- a body may be run: there is one of this number, the payload has its layout's size or more, and the context names its length
pub record CanRun (plan : Plan) (body : ℕ) (context : Context) (payload : List ℕ) : Type 0 where
  pub known : body < length plan.sizes
  pub long : slice_index plan.sizes body ≤ length payload
  pub counted : context.payload_len ≡ length payload

-- a body of the plan that may be run with a payload of this size
abbrev pub IsBodyFor : Plan → ℕ → ℕ → Type 0
IsBodyFor plan size body = (body < length plan.sizes) × (slice_index plan.sizes body ≤ size)

-- All that is attached are bodies of the plan. Those of a format may be run at its events, and the others without a payload.
pub record HasBodies (plan : Plan) (formats : List Format) (attached : Attached) : Type 0 where
  pub by_format : (place : ℕ) (f : Format) → slice_get formats place ≡ Some f
      → All (IsBodyFor plan f.layout.size) (slice_index_or attached.by_format place [])
  pub ticks : All (λ (t : Tick). IsBodyFor plan 0 t.body) attached.ticks
  pub begin : All (IsBodyFor plan 0) attached.begin
  pub finish : All (IsBodyFor plan 0) attached.end

-- whatever is replied, no run of a body takes more instructions than the limit
abbrev pub TakesFew : Plan → Type 0
TakesFew plan = (body : ℕ) (context : Context) (payload : List ℕ) (replies : List Reply) (count : ℕ)
    → value_under (plan.run body context payload) replies ≡ Some count → count ≤ RUN_INSTRUCTIONS

-- under replies of the kinds that the operations have on these maps, each call is one of those
abbrev pub AsksOf : {A : Type 0} → (ObjectId → Op → Type 0) → List MapDecl → Interaction A → Type 0
AsksOf calls maps (Ended a) = Unit {0}
AsksOf calls maps (Asks c f) = calls c.object c.op × ((r : Reply) → IsReplyOf maps c.object c.op r → AsksOf calls maps (f r))

-- under replies of the kinds that the operations have, each operation that is asked is one that a port of this setting can make
abbrev pub OnlyAsks : {A : Type 0} → Setting → Interaction A → Type 0
OnlyAsks setting t = AsksOf (CanStep setting) setting.maps t

-- so each run of a body that may be run asks
abbrev pub BodiesAsk : (ObjectId → Op → Type 0) → List MapDecl → Plan → Type 0
BodiesAsk calls maps plan = (body : ℕ) (context : Context) (payload : List ℕ) → CanRun plan body context payload → AsksOf calls maps (plan.run body context payload)
