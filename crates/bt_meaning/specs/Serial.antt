-- The list of the serial run: the items of all agendas, one after the other, each operation answered by what came before.
use Rattle.std.specs.Prelude.{ℕ, Bool, true, false, if◌then◌else◌, List, [], ◌∷◌, ◌++◌, replicate, slice_index_or, slice_set, slice_get, Option, None, Some}
use Rattle.bt_core.specs.declared.step.Step.{Step}
use Rattle.bt_core.specs.Interaction.{Interaction, Ended, Asks, Call}
use Rattle.bt_core.specs.Steps.{on_object, operations}
use Rattle.recordings.specs.declared.recording.CpuTrack.{CpuTrack}
use Rattle.actor_plan.specs.declared.agenda.AgendaItem.{AgendaItem}
use Rattle.actor_plan.specs.declared.outcome.Outcome.{Outcome}
use Rattle.actor_plan.specs.Programs.{items_program, item_work}
use Rattle.bt_meaning.specs.declared.schedule.Scheduled.{Scheduled}
use Rattle.bt_meaning.specs.Replays.{Replay, cpus_of, begin_of, end_of, answers_of}
use Rattle.bt_meaning.specs.Schedules.{serial_order, cpu_of_due, item_of_due}

-- a step as the serial list has it, which leaves stamps out
abbrev pub unstamped : Step → Step
unstamped s = record { actor = s.actor; object = s.object; stamp = 0; op = s.op; reply = s.reply }

-- an item of a CPU's agenda, as the program of this item alone
abbrev pub alone_on : Replay → ℕ → AgendaItem → Option CpuTrack → Interaction Outcome
alone_on p cpu i None = Ended (record { to_end = true; instructions = 0 })
alone_on p cpu i (Some track) = items_program p.exits (item_work (p.plan cpu) p.recording p.attached track) (i ∷ [])

abbrev pub alone : Replay → ℕ → AgendaItem → Interaction Outcome
alone p cpu i = alone_on p cpu i (slice_get p.recording.cpus cpu)

module _ (p : Replay) where
  -- the step that an actor's call makes after these steps
  abbrev pub next_step : List Step → ℕ → Call → Step
  next_step before actor c = record {
    actor = actor;
    object = c.object;
    stamp = 0;
    op = c.op;
    reply = answers_of p c.object (operations (on_object c.object before)) c.op;
  }

  -- these steps, and then all steps of what the actor does
  abbrev pub then_steps : {A : Type 0} → ℕ → Interaction A → List Step → List Step
  then_steps actor (Ended a) before = before
  then_steps actor (Asks c f) before = then_steps actor (f (next_step before actor c).reply) (before ++ next_step before actor c ∷ [])

  -- the value at its end
  abbrev pub then_value : {A : Type 0} → ℕ → Interaction A → List Step → A
  then_value actor (Ended a) before = a
  then_value actor (Asks c f) before = then_value actor (f (next_step before actor c).reply) (before ++ next_step before actor c ∷ [])

  -- Item after item, each by its CPU. Which CPUs go on is told by their places; the items of a CPU whose program has ended are
  -- passed over.
  abbrev pub taken : List Scheduled → List Bool → List Step → List Step
  taken [] going before = before
  taken (s ∷ ss) going before =
      if slice_index_or going (cpu_of_due s.due) false
      then taken ss
      (slice_set going (cpu_of_due s.due) (then_value (cpu_of_due s.due) (alone p (cpu_of_due s.due) (item_of_due s.due)) before).to_end)
      (then_steps (cpu_of_due s.due) (alone p (cpu_of_due s.due) (item_of_due s.due)) before)
      else taken ss going before

  -- BEGIN
  abbrev pub begun_steps : List Step
  begun_steps = then_steps (cpus_of p) (begin_of p) []

  -- BEGIN, and then all items in the serial order
  abbrev pub taken_steps : List Step
  taken_steps = taken (serial_order p.recording p.attached) (replicate (cpus_of p) true) begun_steps

  -- BEGIN, all items in the serial order, and END
  unfoldable pub serial_steps : List Step
  serial_steps = then_steps (cpus_of p) (end_of p) taken_steps
