-- The bodies of all actors, by their plans.
use Rattle.std.specs.Prelude.{◌≡◌, ℕ, Bool, ◌+◌, ◌<◌, List, length, slice_index_or}
use Rattle.std.specs.List.{AllByRecursion}
use Rattle.bt_ast.specs.declared.attached.Attached.{Attached}
use Rattle.bt_core.specs.declared.map.MapDecl.{MapDecl}
use Rattle.bt_core.specs.declared.step.Step.{Step}
use Rattle.bt_core.specs.Ports.{IsReplyOf}
use Rattle.recordings.specs.declared.recording.Recording.{Recording}
use Rattle.actor_plan.specs.Plans.{Plan}
use Rattle.bt_meaning.specs.Replays.{Replay}
use Rattle.actor_plan.specs.Ready.{CanReplay, IsPlanFor}

-- there are bodies of each CPU and of the main actor, and each has its actor's plan
pub record HavePlans {B : Type 0} (plan_of : B → Plan) (plans : ℕ → Plan) (cpus : ℕ) (bodies : List B) : Type 0 where
  pub count : length bodies ≡ cpus + 1
  pub each : (actor : ℕ) (d : B) → actor < length bodies → plan_of (slice_index_or bodies actor d) ≡ plans actor

-- the recording can be replayed, and each plan is one for its actor
pub record CanFollow (r : Recording) (attached : Attached) (maps : List MapDecl) (plans : ℕ → Plan) : Type 0 where
  pub replay : CanReplay r attached
  pub plans_are : (actor : ℕ) → IsPlanFor r attached maps actor (plans actor)

-- each reply is of the kind that its operation has
abbrev pub HaveOwnReplies : List MapDecl → List Step → Type 0
HaveOwnReplies maps list = AllByRecursion (λ (s : Step). IsReplyOf maps s.object s.op s.reply) list

-- these plans over a recording
abbrev pub replay_by : Recording → Attached → Bool → List MapDecl → (ℕ → Plan) → Replay
replay_by r attached exits maps plans = record { recording = r; attached = attached; exits = exits; maps = maps; plan = plans }
