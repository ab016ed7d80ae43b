-- Where a CPU is the last to cross a tick, every CPU has done what stands before that tick.
use Rattle.std.proofs.Common.{◌≡◌, ◌≢◌, ◌⊎◌, ℕ, zero, suc, ◌+◌, ◌<◌, ◌≤◌, ◌==◌, ◌&&◌, if◌then◌else◌, Bool, true, false, cond, List, [], ◌∷◌, ◌++◌, length, get_or, sym, refl, ap, ◌∙◌, subst, inl, inr, arith, eq-eqb, eqb-true}
use Rattle.std.specs.Prelude.{slice_get, Some, All}
use Rattle.std.specs.List.{AllByRecursion, Contains, count_by, filter_map, range_with_len}
use Rattle.std.proofs.lemmas.List.{append-nil, append_assoc, append_cancel_left}
use Rattle.std.proofs.lemmas.List.Elements.{filter-append, recursion_from_All}
use Rattle.std.proofs.lemmas.Option.{slice_get-get_or}
use mathlib.Core.Logic.{dite}
use native.Mathlib.Decide.{ℕ_discrete}
use Rattle.bt_ast.specs.declared.attached.Tick.{Tick}
use Rattle.bt_core.specs.declared.step.ObjectId.{ObjectId}
use Rattle.bt_core.specs.declared.step.ObjectId.TheVariants.{Clock}
use Rattle.bt_core.specs.declared.step.Op.TheVariants.{Cross}
use Rattle.bt_core.specs.declared.step.Reply.TheVariants.{Last}
use Rattle.bt_core.specs.declared.step.Step.{Step}
use Rattle.bt_core.specs.Interaction.{Interaction, Ended, and_then, Runs}
use Rattle.bt_core.specs.Steps.{is_of, of_actor, is_on, on_object, operations}
use Rattle.recordings.specs.declared.recording.CpuTrack.{CpuTrack}
use Rattle.recordings.specs.declared.recording.Entry.{Entry}
use Rattle.recordings.specs.declared.recording.Entry.TheVariants as entry
use Rattle.recordings.specs.Places.{entry_time}
use Rattle.recordings.specs.Recordings.{IsValidRecording}
use Rattle.agg_core.specs.Answers.{is_cross}
use Rattle.weave.proofs.Less.{less_or_not}
use Rattle.weave.proofs.Among.{Has, contains_from, has_either, has_filter, has_front, has_middle}
use Rattle.actor_plan.specs.declared.agenda.AgendaItem.{AgendaItem}
use Rattle.actor_plan.specs.declared.agenda.AgendaItem.TheVariants as item
use Rattle.actor_plan.specs.declared.outcome.Outcome.{Outcome}
use Rattle.actor_plan.specs.Agendas.{AreInTurn, IsNotBefore, IsOfEntry, agenda_of, entry_place, entries_of, item_at}
use Rattle.actor_plan.specs.Contexts.{tick_context}
use Rattle.actor_plan.specs.Programs.{after_count, item_work, items_program, tells_last, then_program}
use Rattle.actor_plan.proofs.AgendaFacts.{agenda_holds}
use Rattle.actor_plan.proofs.ProgramLaws.{join}
use Rattle.bt_meaning.specs.Interleavings.{IsInterleaving}
use Rattle.bt_meaning.specs.Replays.{PlansAreOwn, Replay, answers_of, cpus_of}
use Rattle.bt_meaning.specs.Ticks.{BodiesOnlyStop, HasDoneBefore, HaveDone, IsLastCrossing, RunsTick, TicksComeAfter, is_crossing}
use Rattle.bt_meaning.proofs.CrossingRuns.{begin_most, crosses_first, end_most, occurs, occurs_beyond, occurs_once, program_most, runs_split, tick_cut, times, times_append}
use Rattle.bt_meaning.proofs.Crossings.{mark, marks, marks_append, marks_at, marks_has, total_all, two_less}
use Rattle.bt_meaning.proofs.Eachs.{each_from, each_has}
use Rattle.bt_meaning.proofs.SerialLaws.{cpu_is}
use Rattle.bt_meaning.proofs.Stepping.{other_part}

-- of two cuts of a list, one is the earlier
two_cuts : {A : Type 0} (p r m n : List A) → p ++ r ≡ m ++ n → ((more : List A) × (p ≡ m ++ more)) ⊎ ((x : A) × (more : List A) × (m ≡ p ++ x ∷ more) × (r ≡ (x ∷ more) ++ n))
two_cuts [] r [] n e = inl ([], refl)
two_cuts [] r (x ∷ m) n e = inr (x, m, refl, e)
two_cuts (x ∷ p) r [] n e = inl (x ∷ p, refl)
two_cuts (x ∷ p) r (y ∷ m) n e = let h : x ≡ y = cc in let t : p ++ r ≡ m ++ n = cc in
    elim (two_cuts p r m n t) [
      | inl q ↦ inl (q.0, (λ i. h i ∷ q.1 i))
      | inr q ↦ inr (q.0, q.1, (λ i. sym h i ∷ q.2 i), q.3)
    ]

ended_none : {A : Type 0} (a b : A) (ss : List Step) → Runs (Ended a) ss b → ss ≡ []
ended_none a b [] r = refl
ended_none a b (s ∷ ss) r = absurd r

-- a program that has ended makes no more steps
goes_on_by : (b : Bool) (o v : Outcome) (rest : Interaction Outcome) (steps : List Step)
    → Runs (if b then and_then rest (λ q. Ended (after_count o.instructions q)) else Ended o) steps v → ¬ (steps ≡ []) → b ≡ true
goes_on_by true o v rest steps r some = refl
goes_on_by false o v rest steps r some = absurd (some (ended_none o v steps r))

-- what is left of a program that goes on
rest_runs : (o v : Outcome) (rest : Interaction Outcome) (steps : List Step) → o.to_end ≡ true → Runs (then_program rest o) steps v
    → (w : Outcome) × Runs rest steps w
rest_runs o v rest steps on r =
    let run : Runs (and_then rest (λ q. Ended (after_count o.instructions q))) steps v =
    subst (λ (b : Bool). Runs (if b then and_then rest (λ q. Ended (after_count o.instructions q)) else Ended o) steps v) on r in
    let c = runs_split rest (λ q. Ended (after_count o.instructions q)) steps v run in (
      c.value,
      subst (λ (l : List Step). Runs rest l c.value)
          (sym (c.whole ∙ ap (λ l. c.front ++ l) (ended_none (after_count o.instructions c.value) v c.back c.second) ∙ append-nil c.front)) c.first,
    )

-- where an entry's place is among those of the list, its item is
entry_cut : (entries : List Entry) (x : Entry) (items : List AgendaItem) (place : ℕ) → slice_get entries place ≡ Some x → AllByRecursion (IsOfEntry entries) items
    → Has (filter_map entry_place items) place → Has items (item_at place x)
entry_cut entries x [] place at kinds h = absurd h
entry_cut entries x (item.Tick q ∷ is) place at kinds h = inr (entry_cut entries x is place at kinds.1 h)
entry_cut entries x (item.Event q ∷ is) place at kinds (inl e) = inl (sym (kinds.0 x (ap (slice_get entries) e ∙ at)) ∙ ap (λ (n : ℕ). item_at n x) e)
entry_cut entries x (item.Event q ∷ is) place at kinds (inr h) = inr (entry_cut entries x is place at kinds.1 h)
entry_cut entries x (item.Lost q ∷ is) place at kinds (inl e) = inl (sym (kinds.0 x (ap (slice_get entries) e ∙ at)) ∙ ap (λ (n : ℕ). item_at n x) e)
entry_cut entries x (item.Lost q ∷ is) place at kinds (inr h) = inr (entry_cut entries x is place at kinds.1 h)

not_tick : (k place : ℕ) (x : Entry) → item.Tick k ≡ item_at place x → ⊥
not_tick k place (entry.Event e) q = cc
not_tick k place (entry.Lost time count) q = cc

late_at : (entries : List Entry) (time place : ℕ) (x : Entry) → slice_get entries place ≡ Some x → IsNotBefore entries time (item_at place x) → time ≤ entry_time x
late_at entries time place (entry.Event e) at late = late (entry.Event e) at
late_at entries time place (entry.Lost moment count) at late = late (entry.Lost moment count) at

in_range : (p n k : ℕ) → p ≤ k → k < p + n → Has (range_with_len p n) k
in_range p zero k le lt = absurd (omega arith)
in_range p (suc n) k le lt = dite (ℕ_discrete p k) (λ e. inl e) (λ ne. inr (in_range (p + 1) n k (omega arith) (omega arith)))

below_length : {X : Type 0} (xs : List X) (i : ℕ) (x : X) → slice_get xs i ≡ Some x → i < length xs
below_length [] i x e = absurd cc
below_length (y ∷ ys) zero x e = omega arith
below_length (y ∷ ys) (suc i) x e = let r = below_length ys i x e in omega arith

module _ (p : Replay) (valid : IsValidRecording p.recording) (turn : AreInTurn p.attached.ticks) (own : PlansAreOwn p) (stops : BodiesOnlyStop p)
    (steps : List Step) (it : IsInterleaving p steps) (k : ℕ) where
  abbrev n : ℕ
  n = cpus_of p

  abbrev no_track : CpuTrack
  no_track = record { number = 0; entries = [] }

  abbrev track_of : ℕ → CpuTrack
  track_of a = get_or p.recording.cpus a no_track

  there_is : (a : ℕ) → a < n → slice_get p.recording.cpus a ≡ Some (track_of a)
  there_is a lt = slice_get-get_or p.recording.cpus a no_track lt

  abbrev agenda : ℕ → List AgendaItem
  agenda a = agenda_of p.recording p.attached a

  abbrev program : ℕ → List AgendaItem → Interaction Outcome
  program a = items_program p.exits (item_work (p.plan a) p.recording p.attached (track_of a))

  -- ---- how often each actor crosses the tick

  first_none : marks k it.first ≡ 0
  first_none = let m = begin_most k p stops n it.first it.begin.value it.begin.runs in omega arith

  last_none : marks k it.last ≡ 0
  last_none = let m = end_most k p stops n it.last it.end.value it.end.runs in omega arith

  main_only : (part : List Step) → All (λ (s : Step). s.actor ≡ n) part → (a : ℕ) → a < n → of_actor a part ≡ []
  main_only part by a lt = other_part a n part (λ e. omega arith) (recursion_from_All (λ (s : Step). s.actor ≡ n) part by)

  own_steps : (a : ℕ) → a < n → of_actor a steps ≡ of_actor a it.middle
  own_steps a lt =
      ap (of_actor a) it.parts ∙ filter-append (is_of a) it.first (it.middle ++ it.last)
      ∙ (λ i. main_only it.first it.begin_is_main a lt i ++ filter-append (is_of a) it.middle it.last i)
      ∙ ap (λ l. of_actor a it.middle ++ l) (main_only it.last it.end_is_main a lt) ∙ append-nil (of_actor a it.middle)

  record CpuRun (a : ℕ) : Type 0 where
    outcome : Outcome
    runs : Runs (program a (agenda a)) (of_actor a steps) outcome

  cpu_run : (a : ℕ) → a < n → CpuRun a
  cpu_run a lt = let w = it.each_cpu a lt in record {
    outcome = w.value;
    runs = subst (λ (z : Interaction Outcome × List Step). Runs z.0 z.1 w.value)
        (λ i. (cpu_is p valid turn own a (track_of a) (there_is a lt) i, sym (own_steps a lt) i)) w.runs;
  }

  once : (a : ℕ) → a < n → times k (agenda a) ≤ 1
  once a lt =
      let e : times k (agenda a) ≡ occurs k (range_with_len 0 (length p.attached.ticks)) = ap (occurs k) (agenda_holds p.recording p.attached a valid turn lt).ticks_are in
      let o = occurs_once k 0 (length p.attached.ticks) in omega arith

  as_often : (a : ℕ) → a < n → marks k (of_actor a steps) ≤ times k (agenda a)
  as_often a lt = let r = cpu_run a lt in program_most k p stops a (track_of a) (agenda a) (of_actor a steps) r.outcome r.runs

  cpu_once : (a : ℕ) → a < n → marks k (of_actor a steps) ≤ 1
  cpu_once a lt = let m = as_often a lt in let o = once a lt in omega arith

  by_cpus : (s : Step) → Has steps s → is_crossing k s ≡ true → s.actor < n
  by_cpus s h c = elim (has_either it.first (it.middle ++ it.last) s (subst (λ (l : List Step). Has l s) it.parts h)) [
    | inl m ↦ absurd (let o = marks_has k it.first s m c in let z = first_none in omega arith)
    | inr m ↦ elim (has_either it.middle it.last s m) [
      | inl q ↦ each_has (λ (t : Step). t.actor < n) it.middle s (recursion_from_All (λ (t : Step). t.actor < n) it.middle it.middle_is_cpus) q
      | inr q ↦ absurd (let o = marks_has k it.last s q c in let z = last_none in omega arith)
    ]
  ]

  module _ (before : List Step) (s : Step) (after : List Step) (e : steps ≡ before ++ s ∷ after) (last : IsLastCrossing k s) where
    crosses : is_crossing k s ≡ true
    crosses = (λ i. is_on_at (last.object i) && is_cross k (last.op i)) ∙ eq-eqb k k refl
      where
        is_on_at : ObjectId → Bool
        is_on_at o = is_on Clock (record { actor = s.actor; object = o; stamp = s.stamp; op = s.op; reply = s.reply })

    in_steps : Has steps s
    in_steps = subst (λ (l : List Step). Has l s) (sym e) (has_middle before after s)

    counted : marks k before + 1 ≡ n
    counted =
        let r : answers_of p Clock (operations (on_object Clock before)) (Cross k) ≡ Last true =
        sym (it.replies before s after e ∙ (λ i. answers_of p (last.object i) (operations (on_object (last.object i) before)) (last.op i))) ∙ last.reply in
        let b : (suc (count_by (is_cross k) (operations (on_object Clock before))) == n) ≡ true = ap tells_last r in
        let c = eqb-true (suc (count_by (is_cross k) (operations (on_object Clock before)))) n b in
        let m = marks_at k before in omega arith

    parted : (a : ℕ) → of_actor a steps ≡ of_actor a before ++ of_actor a (s ∷ after)
    parted a = ap (of_actor a) e ∙ filter-append (is_of a) before (s ∷ after)

    own_part : of_actor s.actor (s ∷ after) ≡ s ∷ of_actor s.actor after
    own_part = ap (λ (b : Bool). cond b (s ∷ of_actor s.actor after) (of_actor s.actor after)) (eq-eqb s.actor s.actor refl)

    before_once : (a : ℕ) → a < n → marks k (of_actor a before) ≤ 1
    before_once a lt = let o = cpu_once a lt in let q = ap (marks k) (parted a) ∙ marks_append k (of_actor a before) (of_actor a (s ∷ after)) in omega arith

    own_none : marks k (of_actor s.actor before) ≡ 0
    own_none = let o = cpu_once s.actor (by_cpus s in_steps crosses) in
        let q = ap (marks k) (parted s.actor) ∙ marks_append k (of_actor s.actor before) (of_actor s.actor (s ∷ after)) in
        let w = ap (marks k) own_part in let m : mark k s ≡ 1 = ap (λ (b : Bool). cond b 1 0) crosses in omega arith

    others_crossed : (a : ℕ) → a < n → s.actor ≢ a → 1 ≤ marks k (of_actor a before)
    others_crossed a lt ne = dite (ℕ_discrete (marks k (of_actor a before)) 0)
        (λ z. let t = total_all k n before (each_from _ before (λ x h c. by_cpus x (subst (λ (l : List Step). Has l x) (sym e) (has_front before (s ∷ after) x h)) c)) in
        let u = two_less k n s.actor a before before_once (by_cpus s in_steps crosses) lt ne own_none z in let c = counted in absurd (omega arith))
        (λ nz. omega arith)

    -- what a CPU did for the items before the tick does not reach past this step
    not_past : (a : ℕ) → a < n → (made : List Step) → marks k made ≡ 0 → (x : Step) (more rest : List Step) → made ≡ of_actor a before ++ x ∷ more
        → of_actor a (s ∷ after) ≡ (x ∷ more) ++ rest → ⊥
    not_past a lt made z x more rest m r =
        let w = ap (marks k) m ∙ marks_append k (of_actor a before) (x ∷ more) in dite (ℕ_discrete s.actor a)
        (λ q. let is_own : of_actor a (s ∷ after) ≡ s ∷ of_actor a after = ap (λ (b : Bool). cond b (s ∷ of_actor a after) (of_actor a after)) (eq-eqb s.actor a q) in
        let same : s ≡ x = cc in let o : mark k x ≡ 1 = ap (mark k) (sym same) ∙ ap (λ (b : Bool). cond b 1 0) crosses in omega arith)
        (λ ne. let o = others_crossed a lt ne in omega arith)

    some_crossing : (a : ℕ) → a < n → 1 ≤ marks k (of_actor a steps)
    some_crossing a lt = let q = ap (marks k) (parted a) ∙ marks_append k (of_actor a before) (of_actor a (s ∷ after)) in dite (ℕ_discrete s.actor a)
        (λ w. marks_has k (of_actor a steps) s (has_filter (is_of a) steps s (eq-eqb s.actor a w) in_steps) crosses)
        (λ ne. let o = others_crossed a lt ne in omega arith)

    -- ---- the items before the tick

    cut_of : (a : ℕ) → a < n → 1 ≤ times k (agenda a)
    cut_of a lt = let m = as_often a lt in let o = some_crossing a lt in omega arith

    -- the run of a CPU, cut at the tick
    record AtTick (a : ℕ) : Type 0 where
      front : List AgendaItem
      back : List AgendaItem
      items : agenda a ≡ front ++ item.Tick k ∷ back
      made : List Step
      rest : List Step
      whole : of_actor a steps ≡ made ++ rest
      outcome : Outcome
      first : Runs (program a front) made outcome
      quiet : marks k made ≡ 0
      goes : outcome.to_end ≡ true
      final : Outcome
      second : Runs (program a (item.Tick k ∷ back)) rest final

    at_tick : (a : ℕ) → a < n → AtTick a
    at_tick a lt =
        let c = tick_cut k (agenda a) (cut_of a lt) in
        let r = cpu_run a lt in
        let l = of_actor a steps in
        let both : program a (agenda a) ≡ and_then (program a c.front) (then_program (program a (item.Tick k ∷ c.back))) =
        ap (program a) c.whole ∙ join p.exits (item_work (p.plan a) p.recording p.attached (track_of a)) c.front (item.Tick k ∷ c.back) in
        let cut = runs_split (program a c.front) (then_program (program a (item.Tick k ∷ c.back))) l r.outcome (subst (λ (t : Interaction Outcome). Runs t l r.outcome) both r.runs) in
        let none : times k c.front ≡ 0 = (let o = once a lt in let t = ap (times k) c.whole ∙ times_append k c.front (item.Tick k ∷ c.back) in
        let one : times k (item.Tick k ∷ c.back) ≡ 1 + times k c.back = ap (λ (b : Bool). cond b 1 0 + times k c.back) (eq-eqb k k refl) in omega arith) in
        let zero_made : marks k cut.front ≡ 0 = (let m = program_most k p stops a (track_of a) c.front cut.front cut.value cut.first in omega arith) in
        let some : ¬ (cut.back ≡ []) = λ q. (let w = ap (marks k) cut.whole ∙ marks_append k cut.front cut.back in let z = ap (marks k) q in let o = some_crossing a lt in omega arith) in
        let on = goes_on_by cut.value.to_end cut.value r.outcome (program a (item.Tick k ∷ c.back)) cut.back cut.second some in
        let left = rest_runs cut.value r.outcome (program a (item.Tick k ∷ c.back)) cut.back on cut.second in
        record {
          front = c.front;
          back = c.back;
          items = c.whole;
          made = cut.front;
          rest = cut.back;
          whole = cut.whole;
          outcome = cut.value;
          first = cut.first;
          quiet = zero_made;
          goes = on;
          final = left.0;
          second = left.1;
        }

    -- entries with a smaller time stand before the tick
    earlier_entries : (a : ℕ) → a < n → (front back : List AgendaItem) → agenda a ≡ front ++ item.Tick k ∷ back → (place : ℕ) (x : Entry) (t : Tick)
        → slice_get (entries_of p.recording a) place ≡ Some x → slice_get p.attached.ticks k ≡ Some t → entry_time x < t.time → Contains front (item_at place x)
    earlier_entries a lt front back items place x t there at low =
        let es = entries_of p.recording a in
        let holds = agenda_holds p.recording p.attached a valid turn lt in
        let few = below_length es place x there in
        let among : Has (agenda a) (item_at place x) = entry_cut es x (agenda a) place there holds.kinds_are
        (subst (λ (l : List ℕ). Has l place) (sym holds.entries_are) (in_range 0 (length es) place (omega arith) (omega arith))) in
        let later = (holds.stands front back k t items at).later in
        elim (has_either front (item.Tick k ∷ back) (item_at place x) (subst (λ (l : List AgendaItem). Has l (item_at place x)) items among)) [
          | inl h ↦ contains_from front (item_at place x) h
          | inr h ↦ elim h [
            | inl q ↦ absurd (not_tick k place x q)
            | inr m ↦ absurd (let late = late_at es t.time place x there (each_has (IsNotBefore es t.time) back (item_at place x) later m) in omega arith)
          ]
        ]

    done_by : (a : ℕ) → a < n → (c : AtTick a) → HaveDone p a c.front (of_actor a before)
    done_by a lt c = elim (two_cuts (of_actor a before) (of_actor a (s ∷ after)) c.made c.rest (sym (parted a) ∙ c.whole)) [
      | inl q ↦ record { track = track_of a; there = there_is a lt; made = c.made; more = q.0; begins = q.1; outcome = c.outcome; goes_on = c.goes; whole = c.first }
      | inr q ↦ absurd (not_past a lt c.made c.quiet q.0 q.1 c.rest q.2 q.3)
    ]

    pub has_done : (a : ℕ) → a < n → HasDoneBefore p k a before
    has_done a lt = let c = at_tick a lt in record {
      earlier = c.front;
      later = c.back;
      stands = c.items;
      done = done_by a lt c;
      entries = λ place x t there at low. earlier_entries a lt c.front c.back c.items place x t there at low;
    }

    -- ---- what comes next

    same_next : (made : List Step) (x : Step) (rest more : List Step) → of_actor s.actor before ≡ made ++ more → mark k x ≡ 1
        → of_actor s.actor before ++ s ∷ of_actor s.actor after ≡ made ++ x ∷ rest → (x ≡ s) × (of_actor s.actor after ≡ rest)
    same_next made x rest [] q m whole = let b : of_actor s.actor before ≡ made = q ∙ append-nil made in
        let t = append_cancel_left made (s ∷ of_actor s.actor after) (x ∷ rest) (ap (λ (l : List Step). l ++ s ∷ of_actor s.actor after) (sym b) ∙ whole) in
        let g : x ≡ s = cc in let h : of_actor s.actor after ≡ rest = cc in (g, h)
    same_next made x rest (y ∷ more) q m whole =
        let t = append_cancel_left made ((y ∷ more) ++ s ∷ of_actor s.actor after) (x ∷ rest)
        (sym (append_assoc made (y ∷ more) (s ∷ of_actor s.actor after)) ∙ ap (λ (l : List Step). l ++ s ∷ of_actor s.actor after) (sym q) ∙ whole) in
        let g : y ≡ x = cc in let o = ap (mark k) g in let w = ap (marks k) q ∙ marks_append k made (y ∷ more) in let none = own_none in absurd (omega arith)

    -- the one crossing of the CPU that is last is this step, so what comes next is the body's
    runs_next : (made : List Step) (x : Step) (rest : List Step) → marks k made ≡ 0 → of_actor s.actor steps ≡ made ++ x ∷ rest → is_crossing k x ≡ true
        → (x ≡ s) × (of_actor s.actor after ≡ rest)
    runs_next made x rest z q c =
        let whole : of_actor s.actor steps ≡ of_actor s.actor before ++ s ∷ of_actor s.actor after = parted s.actor ∙ ap (λ (l : List Step). of_actor s.actor before ++ l) own_part in
        let o : mark k x ≡ 1 = ap (λ (b : Bool). cond b 1 0) c in let m : mark k s ≡ 1 = ap (λ (b : Bool). cond b 1 0) crosses in
        elim (two_cuts (of_actor s.actor before) (s ∷ of_actor s.actor after) made (x ∷ rest) (sym whole ∙ q)) [
          | inl g ↦ same_next made x rest g.0 g.1 o (sym whole ∙ q)
          | inr g ↦ (let w = ap (marks k) g.2 ∙ marks_append k (of_actor s.actor before) (g.0 ∷ g.1) in let same : s ≡ g.0 = cc in let h = ap (mark k) same in absurd (omega arith))
        ]

    no_tick : Tick
    no_tick = record { time = 0; body = 0 }

    known : slice_get p.attached.ticks k ≡ Some (get_or p.attached.ticks k no_tick)
    known = dite_length (cut_of s.actor (by_cpus s in_steps crosses))
      where
        dite_length : 1 ≤ times k (agenda s.actor) → slice_get p.attached.ticks k ≡ Some (get_or p.attached.ticks k no_tick)
        dite_length some =
            let q : times k (agenda s.actor) ≡ occurs k (range_with_len 0 (length p.attached.ticks)) =
            ap (occurs k) (agenda_holds p.recording p.attached s.actor valid turn (by_cpus s in_steps crosses)).ticks_are in
            elim (less_or_not k (length p.attached.ticks)) [
              | inl lt ↦ slice_get-get_or p.attached.ticks k no_tick lt
              | inr le ↦ absurd (let z = occurs_beyond k 0 (length p.attached.ticks) (omega arith) in omega arith)
            ]

    pub runs_body : RunsTick p k s.actor (of_actor s.actor after)
    runs_body =
        let a = s.actor in let lt = by_cpus s in_steps crosses in
        let c = at_tick a lt in
        let t = get_or p.attached.ticks k no_tick in
        let some : 1 ≤ marks k c.rest = (let w = ap (marks k) c.whole ∙ marks_append k c.made c.rest in let q = c.quiet in let o = some_crossing a lt in omega arith) in
        let x = crosses_first k p stops a (track_of a) t c.back c.rest c.final known c.second some in
        let whole : of_actor a steps ≡ (c.made ++ x.check) ++ x.cross ∷ (x.made ++ x.more) =
        c.whole ∙ ap (λ (l : List Step). c.made ++ l) x.whole ∙ sym (append_assoc c.made x.check (x.cross ∷ (x.made ++ x.more))) in
        let none : marks k (c.made ++ x.check) ≡ 0 = (let w = marks_append k c.made x.check in let q = c.quiet in let z = x.quiet in omega arith) in
        let next = runs_next (c.made ++ x.check) x.cross (x.made ++ x.more) none whole x.crosses in
        let says : tells_last x.cross.reply ≡ true = ap (λ (y : Step). tells_last y.reply) next.0 ∙ ap tells_last last.reply in
        let body = (p.plan a).run t.body (tick_context p.recording (track_of a) t) [] in
        record {
          track = track_of a;
          there = there_is a lt;
          at = t;
          attached = known;
          made = x.made;
          more = x.more;
          begins = next.1;
          count = x.count;
          whole = subst (λ (b : Bool). Runs (if b then body else Ended 0) x.made x.count) says x.runs;
        }

pub ticks_after : (p : Replay) → IsValidRecording p.recording → AreInTurn p.attached.ticks → PlansAreOwn p → BodiesOnlyStop p
    → (steps : List Step) → IsInterleaving p steps → TicksComeAfter p steps
ticks_after p valid turn own stops steps it = record {
  all_before = λ before s after tick e last cpu lt. has_done p valid turn own stops steps it tick before s after e last cpu lt;
  then_runs = λ before s after tick e last. runs_body p valid turn own stops steps it tick before s after e last;
}
