-- Replays whose bodies ask the same.
use Rattle.std.specs.Prelude.{◌≡◌, ℕ, List, [], Some, slice_get}
use Rattle.std.specs.List.{AllByRecursion}
use Rattle.bt_ast.specs.declared.attached.Attached.{Attached}
use Rattle.bt_ast.specs.declared.attached.Tick.{Tick}
use Rattle.bt_core.specs.declared.context.Context.{Context}
use Rattle.bt_core.specs.declared.map.MapDecl.{MapDecl}
use Rattle.bt_core.specs.declared.step.Reply.{Reply}
use Rattle.bt_core.specs.declared.step.Step.{Step}
use Rattle.bt_core.specs.Interaction.{Call, Interaction}
use Rattle.recordings.specs.declared.recording.CpuTrack.{CpuTrack}
use Rattle.recordings.specs.declared.recording.Entry.TheVariants as entry
use Rattle.recordings.specs.declared.recording.Event.{Event}
use Rattle.recordings.specs.declared.recording.Recording.{Recording}
use Rattle.actor_plan.specs.Contexts.{event_context, tick_context, begin_context, end_context}
use Rattle.actor_plan.specs.Plans.{Plan}
use Rattle.actor_plan.specs.Programs.{bodies_at}
use Rattle.walk_meaning.specs.SameUnder.{IsReplyTo}
use Rattle.bt_core.specs.Same.{SameTo}
use Rattle.bt_meaning.specs.Replays.{Replay, PlansAreOwn, cpus_of}

-- What holds of every reply that comes is told by the one who asks, as that its numbers have 64 bits.

-- a reply of the kind that its call has, of which this holds too
abbrev pub Comes : (Reply → Type 0) → List MapDecl → Call → Reply → Type 0
Comes holds maps call reply = IsReplyTo maps call reply × holds reply

-- it holds of the replies of these steps
abbrev pub AllReplies : (Reply → Type 0) → List Step → Type 0
AllReplies holds steps = AllByRecursion (λ (s : Step). holds s.reply) steps

-- the same calls, as long as each reply is one that comes; the values at the end may be any
abbrev pub AskSame : {A B : Type 0} → (Reply → Type 0) → List MapDecl → Interaction A → Interaction B → Type 0
AskSame holds maps one other = SameTo (Comes holds maps) (λ a b. Unit {0}) one other

module _ (holds : Reply → Type 0) (maps : List MapDecl) (one other : Plan) where
  -- the runs of these bodies at a context and a payload ask the same by both plans
  abbrev pub BodiesAskSame : List ℕ → Context → List ℕ → Type 0
  BodiesAskSame which context payload =
      AllByRecursion (λ body. AskSame holds maps (one.run body context payload) (other.run body context payload)) which

  -- so do the runs that a CPU's agenda can come to: of what is attached to its events, and of the ticks' bodies
  pub record AskSameOn (r : Recording) (attached : Attached) (track : CpuTrack) : Type 0 where
    pub events : (place : ℕ) (e : Event) → slice_get track.entries place ≡ Some (entry.Event e)
        → BodiesAskSame (bodies_at one r attached e) (event_context r track e) e.payload
    pub ticks : (place : ℕ) (t : Tick) → slice_get attached.ticks place ≡ Some t
        → AskSame holds maps (one.run t.body (tick_context r track t) []) (other.run t.body (tick_context r track t) [])

-- Of the same recording, to which the same is attached, with the same maps, and with checks in both or in neither. Each plan is its
-- actor's, and each run that an actor's program can come to asks the same by both, under
-- replies that come. What the runs count may differ.
pub record ReplaysAgree (holds : Reply → Type 0) (p q : Replay) : Type 0 where
  pub recording : q.recording ≡ p.recording
  pub attached : q.attached ≡ p.attached
  pub exits : q.exits ≡ p.exits
  pub maps : q.maps ≡ p.maps
  pub own : PlansAreOwn p
  pub other_own : PlansAreOwn q
  pub begin : BodiesAskSame holds p.maps (p.plan (cpus_of p)) (q.plan (cpus_of p)) p.attached.begin (begin_context p.recording) []
  pub cpus : (cpu : ℕ) (track : CpuTrack) → slice_get p.recording.cpus cpu ≡ Some track
      → AskSameOn holds p.maps (p.plan cpu) (q.plan cpu) p.recording p.attached track
  pub end : BodiesAskSame holds p.maps (p.plan (cpus_of p)) (q.plan (cpus_of p)) p.attached.end (end_context p.recording) []
