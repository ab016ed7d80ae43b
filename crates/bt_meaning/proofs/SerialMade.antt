-- A run on one thread, item by item: what it has made is, but for stamps, what the list of the serial run has so far.
use Rattle.std.proofs.Common.{◌≡◌, ℕ, Bool, true, false, List, [], ◌∷◌, ◌++◌, map, replicate, slice_index_or, slice_set, ap, ◌∙◌}
use Rattle.bt_core.specs.declared.step.Step.{Step}
use Rattle.bt_core.specs.Interaction.{Runs}
use Rattle.bt_core.specs.Steps.{RepliesFollow}
use Rattle.actor_plan.specs.declared.outcome.Outcome.{Outcome}
use Rattle.bt_meaning.specs.declared.schedule.Scheduled.{Scheduled}
use Rattle.bt_meaning.specs.Replays.{Replay, answers_of, begin_of, cpus_of, end_of}
use Rattle.bt_meaning.specs.Schedules.{cpu_of_due, serial_order}
use Rattle.bt_meaning.specs.Serial.{alone, begun_steps, serial_steps, taken, taken_steps, then_steps, unstamped}
use Rattle.bt_meaning.proofs.ItemByItem.{is_passed, is_taken, item_of}
use Rattle.bt_meaning.proofs.Stepping.{AreBy, takes_made}

module _ (p : Replay) where
  -- BEGIN
  pub made_begin : (made : List Step) (count : ℕ) → Runs (begin_of p) made count → AreBy (cpus_of p) made → RepliesFollow (answers_of p) made
      → begun_steps p ≡ map unstamped made
  made_begin made count runs by follow = (takes_made p (cpus_of p) (begin_of p) [] made count runs by follow).0

  -- an item of a CPU that goes on, and one of a CPU that has ended
  pub made_item : (s : Scheduled) (ss : List Scheduled) (going : List Bool) (before made : List Step) (outcome : Outcome) → slice_index_or going (cpu_of_due s.due) false ≡ true
      → Runs (alone p (cpu_of_due s.due) (item_of s)) made outcome → AreBy (cpu_of_due s.due) made → RepliesFollow (answers_of p) (before ++ made)
      → taken p (s ∷ ss) going (map unstamped before) ≡ taken p ss (slice_set going (cpu_of_due s.due) outcome.to_end) (map unstamped (before ++ made))
  made_item s ss going before made outcome on runs by follow =
      let cpu = cpu_of_due s.due in
      let t = takes_made p cpu (alone p cpu (item_of s)) before made outcome runs by follow in
      is_taken p s ss going (map unstamped before) on ∙ (λ i. taken p ss (slice_set going cpu (t.1 i).to_end) (t.0 i))

  pub passed_item : (s : Scheduled) (ss : List Scheduled) (going : List Bool) (before : List Step) → slice_index_or going (cpu_of_due s.due) false ≡ false
      → taken p (s ∷ ss) going (map unstamped before) ≡ taken p ss going (map unstamped before)
  passed_item s ss going before off = is_passed p s ss going (map unstamped before) off

  -- all items, after BEGIN
  pub made_items : (begun before : List Step) → begun_steps p ≡ map unstamped begun
      → taken p (serial_order p.recording p.attached) (replicate (cpus_of p) true) (map unstamped begun) ≡ map unstamped before → taken_steps p ≡ map unstamped before
  made_items begun before e f = ap (taken p (serial_order p.recording p.attached) (replicate (cpus_of p) true)) e ∙ f

  -- END
  pub made_end : (before made : List Step) (count : ℕ) → taken_steps p ≡ map unstamped before → Runs (end_of p) made count → AreBy (cpus_of p) made
      → RepliesFollow (answers_of p) (before ++ made) → serial_steps p ≡ map unstamped (before ++ made)
  unfolding serial_steps
  made_end before made count so runs by follow =
      ap (then_steps p (cpus_of p) (end_of p)) so ∙ (takes_made p (cpus_of p) (end_of p) before made count runs by follow).0
