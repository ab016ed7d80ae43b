-- When a tick's body is run: after all that every CPU does before that tick.
use Rattle.std.specs.Prelude.{◌≡◌, ℕ, ◌<◌, ◌&&◌, ⊤, Bool, true, List, [], ◌∷◌, ◌++◌, slice_get, Some}
use Rattle.std.specs.List.{Contains}
use Rattle.bt_ast.specs.declared.attached.Tick.{Tick}
use Rattle.bt_core.specs.declared.context.Context.{Context}
use Rattle.bt_core.specs.declared.step.ObjectId.TheVariants.{Clock}
use Rattle.bt_core.specs.declared.step.Op.TheVariants.{Cross, Stop}
use Rattle.bt_core.specs.declared.step.Reply.{Reply}
use Rattle.bt_core.specs.declared.step.Reply.TheVariants.{Last}
use Rattle.bt_core.specs.declared.step.Step.{Step}
use Rattle.bt_core.specs.Interaction.{Interaction, Ended, Asks, Runs}
use Rattle.bt_core.specs.Steps.{is_on, of_actor}
use Rattle.agg_core.specs.Answers.{is_cross}
use Rattle.recordings.specs.declared.recording.CpuTrack.{CpuTrack}
use Rattle.recordings.specs.declared.recording.Entry.{Entry}
use Rattle.recordings.specs.Places.{entry_time}
use Rattle.actor_plan.specs.declared.agenda.AgendaItem.{AgendaItem}
use Rattle.actor_plan.specs.declared.agenda.AgendaItem.TheVariants as item
use Rattle.actor_plan.specs.declared.outcome.Outcome.{Outcome}
use Rattle.actor_plan.specs.Agendas.{agenda_of, entries_of, item_at}
use Rattle.actor_plan.specs.Contexts.{tick_context}
use Rattle.actor_plan.specs.Programs.{item_work, items_program}
use Rattle.bt_meaning.specs.Replays.{Replay, cpus_of}

-- whatever is replied, it makes no operation at the clock but a stop
abbrev pub OnlyStops : {A : Type 0} → Interaction A → Type 0
OnlyStops (Ended a) = ⊤
OnlyStops (Asks c f) = (c.object ≡ Clock → c.op ≡ Stop) × ((reply : Reply) → OnlyStops (f reply))

-- so does each run of a body
abbrev pub BodiesOnlyStop : Replay → Type 0
BodiesOnlyStop p = (actor body : ℕ) (context : Context) (payload : List ℕ) → OnlyStops ((p.plan actor).run body context payload)

-- the step crosses a tick
abbrev pub is_crossing : ℕ → Step → Bool
is_crossing tick s = is_on Clock s && is_cross tick s.op

-- the actor of the step is the last to cross a tick, and so the one that runs its body
pub record IsLastCrossing (tick : ℕ) (s : Step) : Type 0 where
  pub object : s.object ≡ Clock
  pub op : s.op ≡ Cross tick
  pub reply : s.reply ≡ Last true

-- these steps begin with the whole of what a CPU does for some items, after which it goes on
pub record HaveDone (p : Replay) (cpu : ℕ) (items : List AgendaItem) (steps : List Step) : Type 0 where
  pub track : CpuTrack
  pub there : slice_get p.recording.cpus cpu ≡ Some track
  pub made : List Step
  pub more : List Step
  pub begins : steps ≡ made ++ more
  pub outcome : Outcome
  pub goes_on : outcome.to_end ≡ true
  pub whole : Runs (items_program p.exits (item_work (p.plan cpu) p.recording p.attached track) items) made outcome

-- among these steps a CPU has done all items that stand before a tick in its agenda, and so all its entries with a smaller time
pub record HasDoneBefore (p : Replay) (tick cpu : ℕ) (steps : List Step) : Type 0 where
  pub earlier : List AgendaItem
  pub later : List AgendaItem
  pub stands : agenda_of p.recording p.attached cpu ≡ earlier ++ item.Tick tick ∷ later
  pub done : HaveDone p cpu earlier (of_actor cpu steps)
  pub entries : (place : ℕ) (e : Entry) (t : Tick) → slice_get (entries_of p.recording cpu) place ≡ Some e → slice_get p.attached.ticks tick ≡ Some t
      → entry_time e < t.time → Contains earlier (item_at place e)

-- these steps begin with the whole run of a tick's body on a CPU
pub record RunsTick (p : Replay) (tick cpu : ℕ) (steps : List Step) : Type 0 where
  pub track : CpuTrack
  pub there : slice_get p.recording.cpus cpu ≡ Some track
  pub at : Tick
  pub attached : slice_get p.attached.ticks tick ≡ Some at
  pub made : List Step
  pub more : List Step
  pub begins : steps ≡ made ++ more
  pub count : ℕ
  pub whole : Runs ((p.plan cpu).run at.body (tick_context p.recording track at) []) made count

-- Where a CPU is the last to cross a tick, every CPU has done before all that stands before the tick in its agenda; and next that
-- CPU runs the tick's body.
pub record TicksComeAfter (p : Replay) (steps : List Step) : Type 0 where
  pub all_before : (before : List Step) (s : Step) (after : List Step) (tick : ℕ) → steps ≡ before ++ s ∷ after → IsLastCrossing tick s
      → (cpu : ℕ) → cpu < cpus_of p → HasDoneBefore p tick cpu before
  pub then_runs : (before : List Step) (s : Step) (after : List Step) (tick : ℕ) → steps ≡ before ++ s ∷ after → IsLastCrossing tick s
      → RunsTick p tick s.actor (of_actor s.actor after)
