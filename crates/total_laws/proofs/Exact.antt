-- All that was added to a map in an interleaving is what is to be added, and stands in its tables.
use Rattle.std.proofs.Common.{◌≡◌, ℕ, ℤ, zero, suc, ◌+◌, ◌<◌, ◌≤◌, ◌==◌, Bool, true, false, cond, List, [], ◌∷◌, ◌++◌, length, refl, sym, ap, ◌∙◌, subst, inl, inr, ne_eqb, append_assoc, append-nil, arith}
use Rattle.std.specs.Prelude.{slice_get, Option, Some, All}
use Rattle.std.specs.List.{AllByRecursion, flat_map, range_with_len}
use Rattle.std.proofs.lemmas.Bool.{and_parts, eqb-true}
use Rattle.std.proofs.lemmas.List.Elements.{filter-append, recursion_from_All}
use Rattle.bt_ast.specs.declared.attached.Attached.{Attached}
use Rattle.bt_ast.specs.declared.attached.Tick.{Tick}
use Rattle.bt_core.specs.declared.limits.TheConstants.{KEYS}
use Rattle.bt_core.specs.declared.map.AggKind.{AggKind}
use Rattle.bt_core.specs.declared.map.MapId.{MapId}
use Rattle.bt_core.specs.declared.step.ObjectId.TheVariants.{Clock, Cpu}
use Rattle.bt_core.specs.declared.step.Op.{Op}
use Rattle.bt_core.specs.declared.step.Op.TheVariants.{Cross}
use Rattle.bt_core.specs.declared.step.Reply.TheVariants.{Last}
use Rattle.bt_core.specs.declared.step.Step.{Step}
use Rattle.bt_core.specs.declared.value.Value.{Value}
use Rattle.bt_core.specs.Interaction.{call_of}
use Rattle.bt_core.specs.Steps.{is_of, of_actor, is_same_object, on_object, operations, AtEach}
use Rattle.bt_core.proofs.StepLists.{is_same_object-true}
use Rattle.recordings.specs.declared.recording.CpuTrack.{CpuTrack}
use Rattle.recordings.specs.declared.recording.Recording.{Recording}
use Rattle.typed_tree.specs.declared.script.Typed.{Typed}
use Rattle.agg_core.specs.Aggregates.{aggregate}
use Rattle.agg_core.specs.Answers.{back, is_cross, table_change}
use Rattle.agg_core.specs.Changes.{Change, rows_of, lost_updates}
use Rattle.weave.proofs.Less.{less_or_not}
use Rattle.actor_plan.specs.Programs.{entry_work, tells_last}
use Rattle.bt_meaning.specs.Interleavings.{IsInterleaving}
use Rattle.bt_meaning.specs.Jobs.{IsJob}
use Rattle.bt_meaning.specs.Replays.{Replay, answers_of, begin_of, end_of}
use Rattle.bt_meaning.specs.Ticks.{is_crossing}
use Rattle.bt_meaning.specs.Totals.{Addition, IsAggregationOnly, addition_keys, adds_of, tick_adds, events_add, ticks_add, all_adds, who}
use Rattle.bt_meaning.specs.Walks.{replay_of}
use Rattle.bt_meaning.proofs.Crossings.{mark, marks, marks_append, marks_at, total, total_all}
use Rattle.bt_meaning.proofs.Eachs.{each_so, each_both, filter_none}
use Rattle.bt_meaning.proofs.Stepping.{own_part, other_part}
use Rattle.total_laws.specs.Ends.{entries_in, aggregate_rows}
use Rattle.total_laws.proofs.Adding.{IsPlain, gives_runs, entries_append}
use Rattle.total_laws.proofs.Alike.{Alike, alike_same, alike_trans, alike_append, alike_flip, alike_keys}
use Rattle.total_laws.proofs.Items.{plain_own, plain_marks}
use Rattle.total_laws.proofs.LastCrossing.{IsCounted, Answered, answered}
use Rattle.total_laws.proofs.Own.{there_is, begin_surely, end_surely, events_at, tick_at, tick_nowhere, cpu_own, crossed_once, crossed_never, cpu_adds}
use Rattle.total_laws.proofs.PutLaws.{few_keys}
use Rattle.total_laws.proofs.Spans.{range_more, flat_map_both, alike_both, alike_swap, alike_range, range_same, pick, places, few_in}
use Rattle.total_laws.proofs.Tables.{IsOwn, each_actor, FitsStep, own_fits, table_puts}

not_true : {A : Type 0} → false ≡ true → A
not_true e = absurd (let t : ⊥ = cc in t)

cross_is : (k : ℕ) (op : Op) → is_cross k op ≡ true → op ≡ Cross k
cross_is k (Cross j) e = ap Cross (eqb-true j k e)
cross_is k op e = not_true e

each_all : {A : Type 0} (P : A → Type 0) (xs : List A) → ((x : A) → P x) → AllByRecursion P xs
each_all P [] f = tt
each_all P (x ∷ xs) f = (f x, each_all P xs f)

each_number : {A : Type 0} (P : ℕ → A → Type 0) (xs : List A) → ((k : ℕ) → AllByRecursion (P k) xs) → AllByRecursion (λ x. (k : ℕ) → P k x) xs
each_number P [] f = tt
each_number P (x ∷ xs) f = ((λ k. (f k).0), each_number P xs (λ k. (f k).1))

none_cross : (k : ℕ) (Q : Step → Type 0) (ss : List Step) → marks k ss ≡ 0 → AllByRecursion (λ s. is_crossing k s ≡ true → Q s) ss
none_cross k Q [] z = tt
none_cross k Q (s ∷ ss) z = ((λ e. absurd (let one : mark k s ≡ 1 = ap (λ (t : Bool). cond t 1 0) e in omega arith)), none_cross k Q ss (omega arith))

-- an actor's steps, where the answer names the step's actor
told_actor : (k n w a : ℕ) (ss : List Step) → AllByRecursion (Answered k n w) ss
    → AllByRecursion (λ s. is_crossing k s ≡ true → tells_last s.reply ≡ (w == a)) (of_actor a ss)
told_actor k n w a [] e = tt
told_actor k n w a (s ∷ ss) e =
    let rest = told_actor k n w a ss e.1 in
    elim (is_of a s) as (λ t. is_of a s ≡ t → AllByRecursion (λ s. is_crossing k s ≡ true → tells_last s.reply ≡ (w == a)) (cond t (s ∷ of_actor a ss) (of_actor a ss)))
    [ true ↦ (λ q. ((λ c. ap tells_last (e.0 c) ∙ ap (λ (b : ℕ). w == b) (eqb-true s.actor a q)), rest)) | false ↦ (λ q. rest) ] refl

total_one : (k n : ℕ) (ss : List Step) → ((c : ℕ) → c < n → marks k (of_actor c ss) ≡ 1) → total k n ss ≡ n
total_one k zero ss f = refl
total_one k (suc n) ss f = let r = total_one k n ss (λ c lt. f c (omega arith)) in let a = f n (omega arith) in omega arith

module _ (script : Typed) (attached : Attached) (r : Recording) (job : IsJob script attached r) (only : IsAggregationOnly script) (m : MapId)
    (steps : List Step) (it : IsInterleaving (replay_of script attached r) steps) where
  abbrev p : Replay
  p = replay_of script attached r

  abbrev n : ℕ
  n = length r.cpus

  abbrev ticks : ℕ
  ticks = length attached.ticks

  -- ---- whose steps

  main_only : (part : List Step) → All (λ (s : Step). s.actor ≡ n) part → (a : ℕ) → a < n → of_actor a part ≡ []
  main_only part by a lt = other_part a n part (λ e. omega arith) (recursion_from_All (λ (s : Step). s.actor ≡ n) part by)

  pub own_steps : (a : ℕ) → a < n → of_actor a steps ≡ of_actor a it.middle
  own_steps a lt =
      ap (of_actor a) it.parts ∙ filter-append (is_of a) it.first (it.middle ++ it.last)
      ∙ (λ i. main_only it.first it.begin_is_main a lt i ++ filter-append (is_of a) it.middle it.last i)
      ∙ ap (λ l. of_actor a it.middle ++ l) (main_only it.last it.end_is_main a lt) ∙ append-nil (of_actor a it.middle)

  cpus_only : of_actor n it.middle ≡ []
  cpus_only = filter_none (is_of n) it.middle
      (each_so (λ s. s.actor < n) (λ s. is_of n s ≡ false) (λ s lt. ne_eqb s.actor n (λ e. omega arith)) it.middle
      (recursion_from_All (λ (s : Step). s.actor < n) it.middle it.middle_is_cpus))

  main_steps : of_actor n steps ≡ it.first ++ it.last
  main_steps =
      ap (of_actor n) it.parts ∙ filter-append (is_of n) it.first (it.middle ++ it.last)
      ∙ (λ i. own_part n it.first (recursion_from_All (λ (s : Step). s.actor ≡ n) it.first it.begin_is_main) i ++ filter-append (is_of n) it.middle it.last i)
      ∙ (λ i. it.first ++ (cpus_only i ++ own_part n it.last (recursion_from_All (λ (s : Step). s.actor ≡ n) it.last it.end_is_main) i))

  all_actors : AllByRecursion (λ s. s.actor ≤ n) steps
  all_actors = subst (AllByRecursion (λ s. s.actor ≤ n)) (sym it.parts)
      (each_both (λ s. s.actor ≤ n) it.first (it.middle ++ it.last) (mains it.first it.begin_is_main)
      (each_both (λ s. s.actor ≤ n) it.middle it.last
      (each_so (λ s. s.actor < n) (λ s. s.actor ≤ n) (λ s lt. omega arith) it.middle (recursion_from_All (λ (s : Step). s.actor < n) it.middle it.middle_is_cpus))
      (mains it.last it.end_is_main)))
    where
      mains : (part : List Step) → All (λ (s : Step). s.actor ≡ n) part → AllByRecursion (λ s. s.actor ≤ n) part
      mains part by = each_so (λ s. s.actor ≡ n) (λ s. s.actor ≤ n) (λ s e. omega arith) part (recursion_from_All (λ (s : Step). s.actor ≡ n) part by)

  -- ---- the main actor

  begun : (entries_in m it.first ≡ adds_of m (begin_of p)) × AllByRecursion (λ s. IsPlain n (call_of s)) it.first
  begun = gives_runs m n (adds_of m (begin_of p)) (λ count. Unit {0}) (begin_of p) it.first it.begin.value (begin_surely script attached r job only m) it.begin.runs

  ended : (entries_in m it.last ≡ adds_of m (end_of p)) × AllByRecursion (λ s. IsPlain n (call_of s)) it.last
  ended = gives_runs m n (adds_of m (end_of p)) (λ count. Unit {0}) (end_of p) it.last it.end.value (end_surely script attached r job only m) it.end.runs

  main_adds : entries_in m (of_actor n steps) ≡ adds_of m (begin_of p) ++ adds_of m (end_of p)
  main_adds = ap (entries_in m) main_steps ∙ entries_append m it.first it.last ∙ (λ i. begun.0 i ++ ended.0 i)

  main_own : AllByRecursion (IsOwn n) (of_actor n steps)
  main_own = subst (AllByRecursion (IsOwn n)) (sym main_steps)
      (each_both (IsOwn n) it.first it.last (plain_own n it.first begun.1) (plain_own n it.last ended.1))

  main_marks : (k : ℕ) → marks k (of_actor n steps) ≡ 0
  main_marks k = let a = plain_marks n k it.first begun.1 in let b = plain_marks n k it.last ended.1 in
      let c = marks_append k it.first it.last in let d = ap (marks k) main_steps in omega arith

  -- ---- the CPUs

  abbrev track_at : (a : ℕ) (lt : a < n) → (track : CpuTrack) × (slice_get r.cpus a ≡ Some track)
  track_at a lt = there_is r.cpus a lt

  own_at : (a : ℕ) → a < n → AllByRecursion (IsOwn a) (of_actor a steps)
  own_at a lt = let t = track_at a lt in subst (AllByRecursion (IsOwn a)) (sym (own_steps a lt))
      (cpu_own script attached r job only m a lt t.0 t.1 (of_actor a it.middle) (it.each_cpu a lt))

  pub fits : AllByRecursion (λ s. FitsStep m s.actor s) steps
  fits = each_so (λ s. IsOwn s.actor s) (λ s. FitsStep m s.actor s) (λ s o. own_fits m s.actor s o) steps
      (each_actor IsOwn n steps all_actors (λ a le. elim (less_or_not a n) [
        | inl lt ↦ own_at a lt
        | inr ge ↦ (let e : n ≡ a = omega arith in subst (λ (b : ℕ). AllByRecursion (IsOwn b) (of_actor b steps)) e main_own)
      ]))

  -- each tick is crossed by each CPU once, and by no one else
  module _ (k : ℕ) where
    below : AllByRecursion (λ s. is_crossing k s ≡ true → s.actor < n) steps
    below = each_actor (λ a s. is_crossing k s ≡ true → a < n) n steps all_actors (λ a le. elim (less_or_not a n) [
      | inl lt ↦ each_all (λ s. is_crossing k s ≡ true → a < n) (of_actor a steps) (λ s c. lt)
      | inr ge ↦ (let e : n ≡ a = omega arith in
          none_cross k (λ s. a < n) (of_actor a steps) (subst (λ (b : ℕ). marks k (of_actor b steps) ≡ 0) e (main_marks k)))
    ])

    counted : AtEach (IsCounted k n) steps
    counted before s after e c =
        let two = and_parts (is_same_object s.object Clock) (is_cross k s.op) c in
        let object = is_same_object-true s.object Clock two.0 in let op = cross_is k s.op two.1 in
        it.replies before s after e ∙ (λ i. answers_of p (object i) (operations (on_object (object i) before)) (op i))
        ∙ ap (λ (c : ℕ). Last (suc c == n)) (marks_at k before)

    module _ (low : k < ticks) where
      once : (a : ℕ) → a < n → marks k (of_actor a steps) ≡ 1
      once a lt = let t = track_at a lt in
          ap (marks k) (own_steps a lt) ∙ crossed_once script attached r job only m a lt t.0 t.1 (of_actor a it.middle) (it.each_cpu a lt) k low

      all_crossed : marks k steps ≡ n
      all_crossed = total_all k n steps below ∙ total_one k n steps once

      pub decided : AllByRecursion (Answered k n (who steps k)) steps × (who steps k < n)
      decided = answered k n steps counted all_crossed job.valid.some_cpus once below

    told_one : (a : ℕ) → a < n → AllByRecursion (λ s. is_crossing k s ≡ true → tells_last s.reply ≡ (who steps k == a)) (of_actor a steps)
    told_one a lt = elim (less_or_not k ticks) [
      | inl low ↦ told_actor k n (who steps k) a steps (decided low).0
      | inr high ↦ (let t = track_at a lt in none_cross k (λ s. tells_last s.reply ≡ (who steps k == a)) (of_actor a steps)
          (ap (marks k) (own_steps a lt) ∙ crossed_never script attached r job only m a lt t.0 t.1 (of_actor a it.middle) (it.each_cpu a lt) k high))
    ]

  -- ---- all that is added

  abbrev pub given : ℕ → List Addition
  given a = entries_in m (of_actor a steps)

  abbrev event_part : ℕ → List Addition
  event_part a = events_at script attached r job only m a (slice_get r.cpus a)

  abbrev tick_of : ℕ → ℕ → List Addition
  tick_of k a = tick_at script attached r job only m (slice_get attached.ticks k) a

  abbrev tick_part : ℕ → List Addition
  tick_part a = flat_map (λ k. cond (who steps k == a) (tick_of k a) []) (range_with_len 0 ticks)

  cpu_given : (a : ℕ) → a < n → Alike (given a) (event_part a ++ tick_part a)
  cpu_given a lt = let t = track_at a lt in
      alike_trans (given a) (entries_in m (of_actor a it.middle)) (event_part a ++ tick_part a)
      (alike_same (given a) (entries_in m (of_actor a it.middle)) (ap (entries_in m) (own_steps a lt)))
      (cpu_adds script attached r job only m a lt t.0 t.1 (of_actor a it.middle) (it.each_cpu a lt) (who steps)
      (subst (AllByRecursion (λ s. (k : ℕ) → is_crossing k s ≡ true → tells_last s.reply ≡ (who steps k == a))) (own_steps a lt)
      (each_number (λ k s. is_crossing k s ≡ true → tells_last s.reply ≡ (who steps k == a)) (of_actor a steps) (λ k. told_one k a lt))))

  zero_plus : (i : ℕ) → 0 + i ≡ i
  zero_plus i = omega arith

  all_events : flat_map event_part (range_with_len 0 n) ≡ events_add p m 0 r.cpus
  all_events = places (λ a track. flat_map (λ e. adds_of m (entry_work (p.plan a) r attached track e)) track.entries) (events_add p m)
      (λ q. refl) (λ q track more. refl) event_part r.cpus 0
      (λ i track at. ap (events_at script attached r job only m (0 + i)) (ap (slice_get r.cpus) (zero_plus i) ∙ at))

  all_ticks : Alike (flat_map tick_part (range_with_len 0 n)) (ticks_add p m (who steps) 0 attached.ticks)
  all_ticks =
      let cpus = range_with_len 0 n in let places_of = range_with_len 0 ticks in
      let swapped = flat_map (λ k. flat_map (λ a. cond (who steps k == a) (tick_of k a) []) cpus) places_of in
      let picked : swapped ≡ flat_map (λ k. tick_of k (who steps k)) places_of =
      range_same (λ k. flat_map (λ a. cond (who steps k == a) (tick_of k a) []) cpus) (λ k. tick_of k (who steps k)) 0 ticks
      (λ k le lt. pick (who steps k) (tick_of k) n (tick_nowhere script attached r job only m (slice_get attached.ticks k))) in
      let added_up : flat_map (λ k. tick_of k (who steps k)) places_of ≡ ticks_add p m (who steps) 0 attached.ticks =
      places (λ k t. tick_adds p m t (who steps k) (slice_get r.cpus (who steps k))) (ticks_add p m (who steps)) (λ q. refl) (λ q t more. refl)
      (λ k. tick_of k (who steps k)) attached.ticks 0
      (λ i t at. ap (λ (o : Option Tick). tick_at script attached r job only m o (who steps (0 + i))) (ap (slice_get attached.ticks) (zero_plus i) ∙ at)) in
      alike_trans (flat_map tick_part cpus) swapped (ticks_add p m (who steps) 0 attached.ticks)
      (alike_swap (λ a k. cond (who steps k == a) (tick_of k a) []) cpus places_of)
      (alike_same swapped (ticks_add p m (who steps) 0 attached.ticks) (picked ∙ added_up))

  abbrev actors : List ℕ
  actors = range_with_len 0 (n + 1)

  abbrev all : List Addition
  all = all_adds p m (who steps)

  actors_are : actors ≡ range_with_len 0 n ++ n ∷ []
  actors_are = let e : n + 1 ≡ suc n = omega arith in
      ap (range_with_len 0) e ∙ range_more 0 n ∙ ap (λ (x : ℕ). range_with_len 0 n ++ x ∷ []) (zero_plus n)

  -- all that was added is what is to be added
  pub all_given : Alike (flat_map given actors) all
  all_given =
      let e = events_add p m 0 r.cpus in let t = ticks_add p m (who steps) 0 attached.ticks in
      let b = adds_of m (begin_of p) in let f = adds_of m (end_of p) in
      let cpus = flat_map given (range_with_len 0 n) in
      let parts = flat_map (λ a. event_part a ++ tick_part a) (range_with_len 0 n) in
      let es = flat_map event_part (range_with_len 0 n) in let ts = flat_map tick_part (range_with_len 0 n) in
      let split : flat_map given actors ≡ cpus ++ (b ++ f) =
      ap (flat_map given) actors_are ∙ flat_map_both given (range_with_len 0 n) (n ∷ []) ∙ ap (λ (l : List Addition). cpus ++ l) (append-nil (given n) ∙ main_adds) in
      let by_cpus : Alike cpus (e ++ t) =
      alike_trans cpus parts (e ++ t) (alike_range given (λ a. event_part a ++ tick_part a) 0 n (λ a le lt. cpu_given a (omega (arith, lt))))
      (alike_trans parts (es ++ ts) (e ++ t) (alike_both event_part tick_part (range_with_len 0 n))
      (alike_append es ts e t (alike_same es e all_events) all_ticks)) in
      alike_trans (flat_map given actors) (cpus ++ (b ++ f)) (b ++ (e ++ (t ++ f))) (alike_same (flat_map given actors) (cpus ++ (b ++ f)) split)
      (alike_trans (cpus ++ (b ++ f)) ((e ++ t) ++ (b ++ f)) (b ++ (e ++ (t ++ f)))
      (alike_append cpus (b ++ f) (e ++ t) (b ++ f) by_cpus (alike_same (b ++ f) (b ++ f) refl))
      (alike_trans ((e ++ t) ++ (b ++ f)) (((e ++ t) ++ b) ++ f) (b ++ (e ++ (t ++ f)))
      (alike_same ((e ++ t) ++ (b ++ f)) (((e ++ t) ++ b) ++ f) (sym (append_assoc (e ++ t) b f)))
      (alike_trans (((e ++ t) ++ b) ++ f) ((b ++ (e ++ t)) ++ f) (b ++ (e ++ (t ++ f)))
      (alike_append ((e ++ t) ++ b) f (b ++ (e ++ t)) f (alike_flip (e ++ t) b) (alike_same f f refl))
      (alike_same ((b ++ (e ++ t)) ++ f) (b ++ (e ++ (t ++ f))) (append_assoc b (e ++ t) f ∙ ap (λ (l : List Addition). b ++ l) (append_assoc e t f))))))

  -- ---- the tables

  abbrev pub changes : ℕ → List (Change ℤ)
  changes a = back (table_change m) (operations (on_object (Cpu a) steps))

  module _ (kind : AggKind) (few : length (addition_keys all) ≤ KEYS) where
    pub given_few : (a : ℕ) → a < n + 1 → length (addition_keys (given a)) ≤ KEYS
    given_few a lt =
        let l = few_in given (n + 1) a lt in let k = ap (λ (ks : List (List Value)). length ks) (alike_keys (flat_map given actors) all all_given) in omega arith

    pub table : (a : ℕ) → a < n + 1 → (rows_of (aggregate kind) (changes a) ≡ aggregate_rows kind (given a)) × (lost_updates (changes a) ≡ 0)
    table a lt =
        let puts = table_puts m a steps fits in
        let t = few_keys kind (changes a) puts.0 (subst (λ (g : List Addition). length (addition_keys g) ≤ KEYS) (sym puts.1) (given_few a lt)) in
        (t.0 ∙ ap (aggregate_rows kind) puts.1, t.1)
