-- When the program of an actor can be run, and those of all actors.
use Rattle.std.specs.Prelude.{◌≡◌, ℕ, ◌+◌, ◌≤◌, List, length, All}
use Rattle.bt_ast.specs.declared.attached.Attached.{Attached}
use Rattle.bt_core.specs.declared.limits.TheConstants.{BODIES, TICKS}
use Rattle.bt_core.specs.declared.map.MapDecl.{MapDecl}
use Rattle.bt_core.specs.Ports.{Setting}
use Rattle.recordings.specs.declared.recording.Recording.{Recording}
use Rattle.recordings.specs.Recordings.{IsValidRecording}
use Rattle.actor_plan.specs.Agendas.{AreInTurn}
use Rattle.actor_plan.specs.Plans.{Plan, AreServed, HasBodies, ServesPlan, TakesFew}

-- The recording is valid, what is attached are bodies of the plan, the port is one for them and has as many ticks as are attached,
-- no run takes more instructions than the limit, and at no point more bodies are attached than a script has.
pub record IsReady (plan : Plan) (r : Recording) (attached : Attached) (setting : Setting) : Type 0 where
  pub valid : IsValidRecording r
  pub bodies : HasBodies plan r.formats attached
  pub served : ServesPlan plan setting
  pub ticks : setting.ticks ≡ length attached.ticks
  pub takes_few : TakesFew plan
  pub few_at_events : All (λ (which : List ℕ). length which ≤ BODIES) attached.by_format
  pub few_begin : length attached.begin ≤ BODIES
  pub few_end : length attached.end ≤ BODIES

-- The recording is valid, the attached ticks stand in their order, and there are no more ticks, and nowhere more bodies, than a
-- script may have.
pub record CanReplay (r : Recording) (attached : Attached) : Type 0 where
  pub valid : IsValidRecording r
  pub in_turn : AreInTurn attached.ticks
  pub few_ticks : length attached.ticks ≤ TICKS
  pub few_at_events : All (λ (which : List ℕ). length which ≤ BODIES) attached.by_format
  pub few_begin : length attached.begin ≤ BODIES
  pub few_end : length attached.end ≤ BODIES

-- Bodies with this plan are made for this actor, one of the CPUs or the main actor: they tell as many actors and these maps of the
-- script, all that is attached is among them, and no run takes more instructions than the limit.
pub record IsPlanFor (r : Recording) (attached : Attached) (maps : List MapDecl) (actor : ℕ) (plan : Plan) : Type 0 where
  pub actor_is : plan.actor ≡ actor
  pub actors : plan.actors ≡ length r.cpus + 1
  pub served : AreServed plan.maps maps
  pub bodies : HasBodies plan r.formats attached
  pub takes_few : TakesFew plan
