-- The list of the serial run is an interleaving.
use Rattle.std.proofs.Common.{◌≡◌, ℕ, ◌<◌, Bool, true, false, List, [], ◌++◌, get_or, sym, refl, ap, ◌∙◌, subst, arith, append_assoc}
use Rattle.std.specs.Prelude.{Some, replicate, slice_get}
use Rattle.std.specs.List.{AllByRecursion}
use Rattle.std.proofs.lemmas.List.{length-replicate, get_or-replicate}
use Rattle.std.proofs.lemmas.List.Elements.{All-from_recursion, filter-append}
use Rattle.std.proofs.lemmas.Option.{slice_get-get_or}
use Rattle.bt_core.specs.declared.step.Step.{Step}
use Rattle.bt_core.specs.Interaction.{Interaction, Runs}
use Rattle.bt_core.specs.Steps.{is_of, of_actor}
use Rattle.bt_core.proofs.StepLists.{AtEach-none}
use Rattle.recordings.specs.declared.recording.CpuTrack.{CpuTrack}
use Rattle.recordings.specs.Recordings.{IsValidRecording}
use Rattle.actor_plan.specs.Agendas.{AreInTurn, agenda_of}
use Rattle.actor_plan.specs.Programs.{item_work, items_program, track_program}
use Rattle.bt_meaning.specs.Interleavings.{IsInterleaving, IsWhole}
use Rattle.bt_meaning.specs.Replays.{PlansAreOwn, Replay, begin_of, cpu_of, cpus_of, end_of}
use Rattle.bt_meaning.specs.Schedules.{serial_order}
use Rattle.bt_meaning.specs.Serial.{begun_steps, serial_steps, taken, taken_steps}
use Rattle.bt_meaning.proofs.ItemByItem.{all_items, items_for, takes_all, replies_all}
use Rattle.bt_meaning.proofs.OwnAgenda.{own_agenda}
use Rattle.bt_meaning.proofs.Stepping.{other_part, replies_taken, takes_whole}

module _ (p : Replay) (valid : IsValidRecording p.recording) (turn : AreInTurn p.attached.ticks) (own : PlansAreOwn p) where
  abbrev pub cpus : ℕ
  cpus = cpus_of p

  abbrev going : List Bool
  going = replicate cpus true

  begun_whole : begun_steps p ≡ (takes_whole p cpus (begin_of p) []).made
  begun_whole = (takes_whole p cpus (begin_of p) []).grew

  none_of_cpu : (cpu : ℕ) → cpu < cpus → of_actor cpu (begun_steps p) ≡ []
  none_of_cpu cpu lt = ap (of_actor cpu) begun_whole
      ∙ other_part cpu cpus (takes_whole p cpus (begin_of p) []).made (λ e. omega arith) (takes_whole p cpus (begin_of p) []).by

  pub cpu_is : (cpu : ℕ) (track : CpuTrack) → slice_get p.recording.cpus cpu ≡ Some track
      → cpu_of p cpu ≡ items_program p.exits (item_work (p.plan cpu) p.recording p.attached track) (agenda_of p.recording p.attached cpu)
  cpu_is cpu track there =
      ap (λ (n : ℕ). track_program (p.plan cpu) p.exits p.recording p.attached (slice_get p.recording.cpus n)) (own cpu)
      ∙ ap (track_program (p.plan cpu) p.exits p.recording p.attached) there
      ∙ ap (λ (n : ℕ). items_program p.exits (item_work (p.plan cpu) p.recording p.attached track) (agenda_of p.recording p.attached n)) (own cpu)

  each_whole : (cpu : ℕ) → cpu < cpus → IsWhole (cpu_of p cpu) (of_actor cpu (takes_all p (serial_order p.recording p.attached) going (begun_steps p)).made)
  each_whole cpu lt =
      let d : CpuTrack = record { number = 0; entries = [] } in
      let track = get_or p.recording.cpus cpu d in
      let there = slice_get-get_or p.recording.cpus cpu d lt in
      let order = serial_order p.recording p.attached in
      let all = takes_all p order going (begun_steps p) in
      let done = all_items p cpu track there order [] going (begun_steps p) (let n = length-replicate cpus true in omega arith) (record {
        outcome = record { to_end = true; instructions = 0 };
        goes = sym (get_or-replicate cpus cpu true false lt);
        runs = subst (λ (l : List Step). Runs (items_program p.exits (item_work (p.plan cpu) p.recording p.attached track) []) l (record { to_end = true; instructions = 0 })) (sym (none_of_cpu cpu lt)) refl;
      }) in
      let items = own_agenda p.recording p.attached cpu track valid turn lt there in
      let steps : of_actor cpu (taken p order going (begun_steps p)) ≡ of_actor cpu all.made =
      ap (of_actor cpu) all.grew ∙ filter-append (is_of cpu) (begun_steps p) all.made ∙ ap (λ l. l ++ of_actor cpu all.made) (none_of_cpu cpu lt) in
      let program : items_program p.exits (item_work (p.plan cpu) p.recording p.attached track) (items_for cpu order) ≡ cpu_of p cpu =
      ap (items_program p.exits (item_work (p.plan cpu) p.recording p.attached track)) items ∙ sym (cpu_is cpu track there) in
      record { value = done.outcome; runs = subst (λ (z : Interaction _ × List Step). Runs z.0 z.1 done.outcome) (λ i. (program i, steps i)) done.runs }

  pub serial_interleaves : IsInterleaving p (serial_steps p)
  unfolding serial_steps
  serial_interleaves =
      let order = serial_order p.recording p.attached in
      let first = takes_whole p cpus (begin_of p) [] in
      let middle = takes_all p order going (begun_steps p) in
      let last = takes_whole p cpus (end_of p) (taken_steps p) in
      let long = length-replicate cpus true in
      record {
        first = first.made;
        middle = middle.made;
        last = last.made;
        parts = last.grew ∙ ap (λ l. l ++ last.made) (middle.grew ∙ ap (λ l. l ++ middle.made) begun_whole) ∙ append_assoc first.made middle.made last.made;
        begin_is_main = All-from_recursion (λ (s : Step). s.actor ≡ cpus) first.made first.by;
        begin = record { value = _; runs = first.runs };
        middle_is_cpus = All-from_recursion (λ (s : Step). s.actor < cpus) middle.made (subst (λ n. AllByRecursion (λ (s : Step). s.actor < n) middle.made) long middle.by);
        each_cpu = each_whole;
        end_is_main = All-from_recursion (λ (s : Step). s.actor ≡ cpus) last.made last.by;
        end = record { value = _; runs = last.runs };
        replies = replies_taken p cpus (end_of p) (taken_steps p)
            (replies_all p order going (begun_steps p) (replies_taken p cpus (begin_of p) [] (AtEach-none _)));
      }
