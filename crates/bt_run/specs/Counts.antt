-- How many instructions the serial run takes, item by item. No public contract speaks of it.
use Rattle.std.specs.Prelude.{◌≡◌, ℕ, ◌+◌, Bool, true, false, if◌then◌else◌, List, [], ◌∷◌, replicate, slice_index_or, slice_set}
use Rattle.bt_core.specs.declared.step.Step.{Step}
use Rattle.bt_meaning.specs.declared.schedule.Scheduled.{Scheduled}
use Rattle.bt_meaning.specs.Replays.{Replay, cpus_of, begin_of, end_of}
use Rattle.bt_meaning.specs.Schedules.{serial_order, cpu_of_due, item_of_due}
use Rattle.bt_meaning.specs.Serial.{alone, then_steps, then_value, taken, begun_steps, taken_steps}

module _ (p : Replay) where
  -- those of the items
  abbrev pub taken_count : List Scheduled → List Bool → List Step → ℕ
  taken_count [] going before = 0
  taken_count (s ∷ ss) going before =
      if slice_index_or going (cpu_of_due s.due) false
      then (then_value p (cpu_of_due s.due) (alone p (cpu_of_due s.due) (item_of_due s.due)) before).instructions
      + taken_count ss
      (slice_set going (cpu_of_due s.due) (then_value p (cpu_of_due s.due) (alone p (cpu_of_due s.due) (item_of_due s.due)) before).to_end)
      (then_steps p (cpu_of_due s.due) (alone p (cpu_of_due s.due) (item_of_due s.due)) before)
      else taken_count ss going before

  -- those of BEGIN, of all items, and of END
  abbrev pub serial_count : ℕ
  serial_count =
      then_value p (cpus_of p) (begin_of p) []
      + taken_count (serial_order p.recording p.attached) (replicate (cpus_of p) true) (begun_steps p)
      + then_value p (cpus_of p) (end_of p) (taken_steps p)

  -- with the first of these items taken, so many instructions were executed, and these CPUs go on after these steps
  pub record TakesNext (s : Scheduled) (count : ℕ) (going : List Bool) (before : List Step) (next : List Bool) (after : List Step) : Type 0 where
    pub steps : (rest : List Scheduled) → taken p (s ∷ rest) going before ≡ taken p rest next after
    pub counted : (rest : List Scheduled) → taken_count (s ∷ rest) going before ≡ count + taken_count rest next after
