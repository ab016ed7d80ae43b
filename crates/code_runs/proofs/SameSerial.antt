-- The list of the serial run is the same.
use Rattle.std.proofs.Common.{◌≡◌, ℕ, Bool, true, false, List, [], ◌∷◌, ◌++◌, refl, sym, ap, ◌∙◌, subst}
use Rattle.std.specs.Prelude.{slice_index_or, slice_set, replicate}
use Rattle.std.specs.List.{AllByRecursion}
use Rattle.bt_core.specs.declared.step.Step.{Step}
use Rattle.bt_core.specs.declared.step.Reply.{Reply}
use Rattle.bt_core.specs.Interaction.{Call, Interaction, Ended, Asks}
use Rattle.actor_plan.specs.declared.agenda.AgendaItem.{AgendaItem}
use Rattle.actor_plan.specs.Plans.{Plan}
use Rattle.bt_core.specs.Same.{SameTo}
use Rattle.bt_meaning.specs.declared.schedule.Scheduled.{Scheduled}
use Rattle.bt_meaning.specs.Replays.{Replay, cpus_of, begin_of, end_of}
use Rattle.bt_meaning.specs.Schedules.{serial_order, cpu_of_due, item_of_due}
use Rattle.bt_meaning.specs.Serial.{alone, next_step, then_steps, then_value, taken, begun_steps, taken_steps, serial_steps}
use Rattle.bt_meaning.proofs.Eachs.{each_front, each_back}
use Rattle.bt_meaning.proofs.ItemByItem.{is_passed, is_taken, takes_all}
use Rattle.bt_meaning.proofs.Stepping.{takes_whole}
use Rattle.code_runs.specs.Agree.{Comes}
use Rattle.code_runs.proofs.SameRuns.{HasKind}
use Rattle.code_runs.proofs.SamePrograms.{EndAlike}
use Rattle.code_runs.proofs.Carried.{with_plans, SamePrograms}

module _ (holds : Reply → Type 0) (p : Replay) (one other : ℕ → Plan) where
  abbrev left : Replay
  left = with_plans p one

  abbrev right : Replay
  right = with_plans p other

  -- both make the same steps, and their values are alike
  record Alike {A B : Type 0} (R : A → B → Type 0) (actor : ℕ) (t : Interaction A) (u : Interaction B) (before : List Step) : Type 0 where
    steps : then_steps left actor t before ≡ then_steps right actor u before
    values : R (then_value left actor t before) (then_value right actor u before)

  steps_alike : {A B : Type 0} (R : A → B → Type 0) (actor : ℕ) (t : Interaction A) (u : Interaction B) (before : List Step) → SameTo (Comes holds p.maps) R t u
      → AllByRecursion (HasKind holds p.maps) (then_steps left actor t before) → Alike R actor t u before
  steps_alike R actor (Ended a) (Ended b) before same kinds = record { steps = refl; values = same }
  steps_alike R actor (Ended a) (Asks d g) before same kinds = absurd same
  steps_alike R actor (Asks c f) (Ended b) before same kinds = absurd same
  steps_alike R actor (Asks c f) (Asks d g) before same kinds =
      let s = next_step left before actor c in
      let grew = (takes_whole left actor (f s.reply) (before ++ s ∷ [])).grew in
      let made = (takes_whole left actor (f s.reply) (before ++ s ∷ [])).made in
      let early = each_front (HasKind holds p.maps) (before ++ s ∷ []) made (subst (AllByRecursion (HasKind holds p.maps)) grew kinds) in
      let kind = (each_back (HasKind holds p.maps) before (s ∷ []) early).0 in
      let rest = steps_alike R actor (f s.reply) (g s.reply) (before ++ s ∷ []) (same.1 s.reply kind) kinds in
      record {
        steps = rest.steps
            ∙ (λ i. then_steps right actor (g (next_step right before actor (same.0 i)).reply) (before ++ next_step right before actor (same.0 i) ∷ []));
        values = subst (λ (x : Call). R (then_value left actor (f s.reply) (before ++ s ∷ []))
            (then_value right actor (g (next_step right before actor x).reply) (before ++ next_step right before actor x ∷ []))) same.0 rest.values;
      }

  module _ (items : (cpu : ℕ) (i : AgendaItem) → SameTo (Comes holds p.maps) EndAlike (alone left cpu i) (alone right cpu i)) where
    by_bool : {A : Type 0} (b : Bool) → (b ≡ true → A) → (b ≡ false → A) → A
    by_bool true f g = f refl
    by_bool false f g = g refl

    taken_same : (ss : List Scheduled) (going : List Bool) (before : List Step) → AllByRecursion (HasKind holds p.maps) (taken left ss going before)
        → taken left ss going before ≡ taken right ss going before
    taken_same [] going before kinds = refl
    taken_same (s ∷ ss) going before kinds = by_bool (slice_index_or going (cpu_of_due s.due) false)
        (λ on.
        let cpu = cpu_of_due s.due in let i = item_of_due s.due in
        let middle = then_steps left cpu (alone left cpu i) before in
        let next = slice_set going cpu (then_value left cpu (alone left cpu i) before).to_end in
        let here = is_taken left s ss going before on in
        let there = is_taken right s ss going before on in
        let now = subst (AllByRecursion (HasKind holds p.maps)) here kinds in
        let all = takes_all left ss next middle in
        let early = each_front (HasKind holds p.maps) middle all.made (subst (AllByRecursion (HasKind holds p.maps)) all.grew now) in
        let alike = steps_alike EndAlike cpu (alone left cpu i) (alone right cpu i) before (items cpu i) early in
        here ∙ taken_same ss next middle now ∙ (λ k. taken right ss (slice_set going cpu (alike.values k)) (alike.steps k)) ∙ sym there)
        (λ off.
        let here = is_passed left s ss going before off in
        let there = is_passed right s ss going before off in
        here ∙ taken_same ss going before (subst (AllByRecursion (HasKind holds p.maps)) here kinds) ∙ sym there)

    module _ (same : SamePrograms holds p one other) (kinds : AllByRecursion (HasKind holds p.maps) (serial_steps left)) where
      pub serial_same : serial_steps left ≡ serial_steps right
      unfolding serial_steps
      serial_same =
          let cpus = cpus_of p in
          let order = serial_order p.recording p.attached in
          let going = replicate cpus true in
          let last = takes_whole left cpus (end_of left) (taken_steps left) in
          let taken_kinds = each_front (HasKind holds p.maps) (taken_steps left) last.made (subst (AllByRecursion (HasKind holds p.maps)) last.grew kinds) in
          let middle = takes_all left order going (begun_steps left) in
          let begun_kinds = each_front (HasKind holds p.maps) (begun_steps left) middle.made (subst (AllByRecursion (HasKind holds p.maps)) middle.grew taken_kinds) in
          let begun = (steps_alike (λ a b. Unit {0}) cpus (begin_of left) (begin_of right) [] same.begin begun_kinds).steps in
          let took : taken_steps left ≡ taken_steps right = taken_same order going (begun_steps left) taken_kinds ∙ ap (taken right order going) begun in
          (steps_alike (λ a b. Unit {0}) cpus (end_of left) (end_of right) (taken_steps left) same.end kinds).steps
          ∙ ap (then_steps right cpus (end_of right)) took
