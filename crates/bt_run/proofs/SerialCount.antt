-- The instructions that the serial run takes item by item are those that its list of steps took.
use Rattle.std.proofs.Common.{◌≡◌, ◌≢◌, ℕ, zero, suc, ◌+◌, ◌<◌, ◌≤◌, ◌==◌, nat_lt, Bool, true, false, cond, if◌then◌else◌, List, [], ◌∷◌, ◌++◌, map, filter, length, sum, slice_index_or, sym, refl, ap, ◌∙◌, subst, arith, append_assoc, append-nil, eq-eqb, ne_eqb, get_or}
use Rattle.std.specs.Prelude.{Some, replicate, slice_get}
use Rattle.std.specs.List.{range_with_len}
use Rattle.std.proofs.lemmas.List.{get_or-replicate, get_or-set_same, get_or-set_other, length-replicate, length-set, map-append}
use Rattle.std.proofs.lemmas.List.Elements.{filter-append}
use Rattle.std.proofs.lemmas.List.Sums.{sum_by-cons}
use Rattle.std.proofs.lemmas.Option.{slice_get-get_or, slice_get_within}
use mathlib.Core.Logic.{dite}
use native.Mathlib.Decide.{ℕ_discrete}
use Rattle.bt_core.specs.declared.step.Step.{Step}
use Rattle.bt_core.specs.Interaction.{Interaction, Ended, and_then, Runs, value_under}
use Rattle.bt_core.specs.Steps.{is_of, of_actor}
use Rattle.bt_core.proofs.InteractionLaws.{Runs-and_then, value_under-Runs}
use Rattle.recordings.specs.declared.recording.CpuTrack.{CpuTrack}
use Rattle.recordings.specs.Recordings.{IsValidRecording}
use Rattle.weave.proofs.Less.{is_less, not_less}
use Rattle.actor_plan.specs.declared.agenda.AgendaItem.{AgendaItem}
use Rattle.actor_plan.specs.declared.outcome.Outcome.{Outcome}
use Rattle.actor_plan.specs.Agendas.{AreInTurn}
use Rattle.actor_plan.specs.Programs.{actor_program, after_count, item_work, items_program, main_program}
use Rattle.bt_meaning.specs.declared.schedule.Scheduled.{Scheduled}
use Rattle.bt_meaning.specs.Instructions.{actor_instructions, instructions_of, outcome_count, reply_of}
use Rattle.bt_meaning.specs.Replays.{PlansAreOwn, Replay, begin_of, cpu_of, cpus_of, end_of}
use Rattle.bt_meaning.specs.Schedules.{cpu_of_due, serial_order}
use Rattle.bt_meaning.specs.Serial.{alone, alone_on, begun_steps, serial_steps, taken, taken_steps, then_steps, then_value, unstamped}
use Rattle.bt_meaning.proofs.Eachs.{each_so, filter_none}
use Rattle.bt_meaning.proofs.ItemByItem.{is_own, is_passed, is_taken, item_of, items_for, next_going, one_more, passed_over, takes_all, took}
use Rattle.bt_meaning.proofs.OwnAgenda.{own_agenda}
use Rattle.bt_meaning.proofs.SerialLaws.{cpu_is}
use Rattle.bt_meaning.proofs.Stepping.{other_part, own_part, takes_whole, taken_other, taken_own}
use Rattle.bt_run.specs.Counts.{serial_count, taken_count}
use Rattle.run_objects.proofs.ReadLemmas.{sum_more}
use Rattle.bt_run.proofs.TakeLemmas.{goes_within}

-- ---- sums over actors

abbrev sum_to : (ℕ → ℕ) → ℕ → ℕ → ℕ
sum_to f k n = sum (map f (range_with_len k n))

next_sum : (f : ℕ → ℕ) (k n : ℕ) → sum_to f k (suc n) ≡ f k + sum_to f (k + 1) n
next_sum f k n = sum_by-cons (λ (m : ℕ). m) (f k) (map f (range_with_len (k + 1) n))

same_sum : (f g : ℕ → ℕ) (k n : ℕ) → ((a : ℕ) → k ≤ a → a < k + n → f a ≡ g a) → sum_to f k n ≡ sum_to g k n
same_sum f g k zero h = refl
same_sum f g k (suc n) h =
    let one : f k ≡ g k = h k (omega arith) (omega arith) in
    let rest : sum_to f (k + 1) n ≡ sum_to g (k + 1) n = same_sum f g (k + 1) n (λ a low high. h a (omega arith) (omega arith)) in
    next_sum f k n ∙ (λ i. one i + rest i) ∙ sym (next_sum g k n)

-- one of them takes so many more
more_sum : (f g : ℕ → ℕ) (c a k n : ℕ) → k ≤ a → a < k + n → g a ≡ f a + c → ((b : ℕ) → b ≢ a → g b ≡ f b) → sum_to g k n ≡ sum_to f k n + c
more_sum f g c a k zero low high one rest = absurd (omega arith)
more_sum f g c a k (suc n) low high one rest = dite (ℕ_discrete k a)
    (λ e. let first : g k ≡ f k + c = subst (λ b. g b ≡ f b + c) (sym e) one in
    let others : sum_to g (k + 1) n ≡ sum_to f (k + 1) n = same_sum g f (k + 1) n (λ b above below. rest b (λ q. omega arith)) in
    next_sum g k n ∙ (λ i. first i + others i) ∙ added (f k) c (sum_to f (k + 1) n) ∙ ap (λ m. m + c) (sym (next_sum f k n)))
    (λ ne. let first : g k ≡ f k = rest k ne in
    let others : sum_to g (k + 1) n ≡ sum_to f (k + 1) n + c = more_sum f g c a (k + 1) n (above ne low) (omega arith) one rest in
    next_sum g k n ∙ (λ i. first i + others i) ∙ behind (f k) c (sum_to f (k + 1) n) ∙ ap (λ m. m + c) (sym (next_sum f k n)))
  where
    added : (x y z : ℕ) → x + y + z ≡ x + z + y
    added x y z = omega arith

    behind : (x y z : ℕ) → x + (z + y) ≡ x + z + y
    behind x y z = omega arith

    above : k ≢ a → k ≤ a → k + 1 ≤ a
    above ne le = dite (ℕ_discrete k a) (λ e. absurd (ne e)) (λ h. omega arith)

left_zero : (m : ℕ) → 0 + m ≡ m
left_zero m = omega arith

none_sum : (k n : ℕ) → sum_to (λ a. 0) k n ≡ 0
none_sum k zero = refl
none_sum k (suc n) = next_sum (λ a. 0) k n ∙ left_zero (sum_to (λ a. 0) (k + 1) n) ∙ none_sum (k + 1) n

-- ---- what each actor's program came to

by_bool : {A : Type 0} (b : Bool) → (b ≡ true → A) → (b ≡ false → A) → A
by_bool true f g = f refl
by_bool false f g = g refl

-- with another outcome of one actor
abbrev put : (ℕ → Outcome) → ℕ → Outcome → ℕ → Outcome
put outs a o b = if b == a then o else outs b

put_own : (outs : ℕ → Outcome) (a : ℕ) (o : Outcome) (b : ℕ) → b ≡ a → put outs a o b ≡ o
put_own outs a o b e = ap (λ (t : Bool). if t then o else outs b) (eq-eqb b a e)

put_other : (outs : ℕ → Outcome) (a : ℕ) (o : Outcome) (b : ℕ) → b ≢ a → put outs a o b ≡ outs b
put_other outs a o b ne = ap (λ (t : Bool). if t then o else outs b) (ne_eqb b a ne)

abbrev nothing : Outcome
nothing = record { to_end = true; instructions = 0 }

own_items : (a : ℕ) (done : List Scheduled) (s : Scheduled) → cpu_of_due s.due ≡ a → items_for a (done ++ s ∷ []) ≡ items_for a done ++ item_of s ∷ []
own_items a done s e = ap (map item_of) (filter-append (is_own a) done (s ∷ []) ∙ ap (λ (b : Bool). filter (is_own a) done ++ cond b (s ∷ []) []) (eq-eqb (cpu_of_due s.due) a e))
    ∙ map-append item_of (filter (is_own a) done) (s ∷ [])

other_items : (a : ℕ) (done : List Scheduled) (s : Scheduled) → cpu_of_due s.due ≢ a → items_for a (done ++ s ∷ []) ≡ items_for a done
other_items a done s ne = ap (map item_of) (filter-append (is_own a) done (s ∷ []) ∙ ap (λ (b : Bool). filter (is_own a) done ++ cond b (s ∷ []) []) (ne_eqb (cpu_of_due s.due) a ne)
    ∙ append-nil (filter (is_own a) done))

module _ (p : Replay) where
  abbrev n : ℕ
  n = cpus_of p

  abbrev program_of : ℕ → CpuTrack → List AgendaItem → Interaction Outcome
  program_of a track = items_program p.exits (item_work (p.plan a) p.recording p.attached track)

  abbrev counted_by : (ℕ → Outcome) → ℕ
  counted_by outs = sum_to (λ a. (outs a).instructions) 0 n

  -- each CPU's program over its items so far has this outcome, and goes on or not as the list says
  record Stands (done : List Scheduled) (going : List Bool) (before : List Step) (outs : ℕ → Outcome) : Type 0 where
    pub goes : (a : ℕ) → a < n → (outs a).to_end ≡ slice_index_or going a false
    pub runs : (a : ℕ) (track : CpuTrack) → slice_get p.recording.cpus a ≡ Some track → Runs (program_of a track (items_for a done)) (of_actor a before) (outs a)

  -- with more items too, and they took together what is counted item by item
  record Comes (done ss : List Scheduled) (going : List Bool) (before : List Step) (outs : ℕ → Outcome) : Type 0 where
    pub ends : ℕ → Outcome
    pub runs : (a : ℕ) (track : CpuTrack) → slice_get p.recording.cpus a ≡ Some track → Runs (program_of a track (items_for a (done ++ ss))) (of_actor a (taken p ss going before)) (ends a)
    pub total : taken_count p ss going before + counted_by outs ≡ counted_by ends

  count_taken : (s : Scheduled) (ss : List Scheduled) (going : List Bool) (before : List Step) → slice_index_or going (cpu_of_due s.due) false ≡ true
      → taken_count p (s ∷ ss) going before ≡ (then_value p (cpu_of_due s.due) (alone p (cpu_of_due s.due) (item_of s)) before).instructions + taken_count p ss (next_going p s going before) (took p s before)
  count_taken s ss going before e = ap (λ (b : Bool). if b then (then_value p (cpu_of_due s.due) (alone p (cpu_of_due s.due) (item_of s)) before).instructions
      + taken_count p ss (next_going p s going before) (took p s before) else taken_count p ss going before) e

  count_passed : (s : Scheduled) (ss : List Scheduled) (going : List Bool) (before : List Step) → slice_index_or going (cpu_of_due s.due) false ≡ false
      → taken_count p (s ∷ ss) going before ≡ taken_count p ss going before
  count_passed s ss going before e = ap (λ (b : Bool). if b then (then_value p (cpu_of_due s.due) (alone p (cpu_of_due s.due) (item_of s)) before).instructions
      + taken_count p ss (next_going p s going before) (took p s before) else taken_count p ss going before) e

  module _ (s : Scheduled) (done : List Scheduled) (going : List Bool) (before : List Step) (outs : ℕ → Outcome) (long : length going ≡ n) (so : Stands done going before outs) where
    abbrev cpu : ℕ
    cpu = cpu_of_due s.due

    abbrev one : Interaction Outcome
    one = alone p (cpu_of_due s.due) (item_of s)

    abbrev v : Outcome
    v = then_value p (cpu_of_due s.due) (alone p (cpu_of_due s.due) (item_of s)) before

    abbrev after : ℕ → Outcome
    after = put outs (cpu_of_due s.due) (after_count (outs (cpu_of_due s.due)).instructions (then_value p (cpu_of_due s.due) (alone p (cpu_of_due s.due) (item_of s)) before))

    alone_is : (a : ℕ) (track : CpuTrack) → slice_get p.recording.cpus a ≡ Some track → cpu ≡ a → alone p cpu (item_of s) ≡ program_of a track (item_of s ∷ [])
    alone_is a track there e = ap (λ (m : ℕ). alone p m (item_of s)) e ∙ ap (alone_on p a (item_of s)) there

    now_is : (a : ℕ) (b : Bool) → a < n → cpu ≡ a → slice_index_or going cpu false ≡ b → (outs a).to_end ≡ b
    now_is a b lt e is = so.goes a lt ∙ ap (λ (m : ℕ). slice_index_or going m false) (sym e) ∙ is

    module _ (on : slice_index_or going (cpu_of_due s.due) false ≡ true) where
      low : cpu < length going
      low = goes_within going cpu on

      goes_own : (a : ℕ) → cpu ≡ a → (after a).to_end ≡ slice_index_or (next_going p s going before) a false
      goes_own a e = ap (λ (o : Outcome). o.to_end) (put_own outs cpu (after_count (outs cpu).instructions v) a (sym e))
          ∙ sym (ap (λ (m : ℕ). slice_index_or (next_going p s going before) m false) (sym e) ∙ get_or-set_same going cpu v.to_end false low)

      goes_other : (a : ℕ) → a < n → cpu ≢ a → (after a).to_end ≡ slice_index_or (next_going p s going before) a false
      goes_other a lt ne = ap (λ (o : Outcome). o.to_end) (put_other outs cpu (after_count (outs cpu).instructions v) a (λ e. ne (sym e)))
          ∙ so.goes a lt ∙ sym (get_or-set_other going cpu a v.to_end false (λ e. ne (sym e)))

      runs_own : (a : ℕ) (track : CpuTrack) → slice_get p.recording.cpus a ≡ Some track → cpu ≡ a → Runs (program_of a track (items_for a (done ++ s ∷ []))) (of_actor a (took p s before)) (after a)
      runs_own a track there e =
          let t = takes_whole p cpu one before in
          let lt : a < n = slice_get_within p.recording.cpus a track there in
          let run : Runs (program_of a track (item_of s ∷ [])) t.made v = subst (λ (z : Interaction Outcome). Runs z t.made v) (alone_is a track there e) t.runs in
          let got : of_actor a (took p s before) ≡ of_actor a before ++ t.made =
          ap (λ (m : ℕ). of_actor m (took p s before)) (sym e) ∙ taken_own p cpu one before ∙ ap (λ (m : ℕ). of_actor m before ++ t.made) e in
          let out : after a ≡ after_count (outs a).instructions v = put_own outs cpu (after_count (outs cpu).instructions v) a (sym e) ∙ ap (λ (m : ℕ). after_count (outs m).instructions v) e in
          subst (λ (z : List AgendaItem × List Step × Outcome). Runs (program_of a track z.0) z.1 z.2) (λ k. (sym (own_items a done s e) k, sym got k, sym out k))
          (one_more p.exits (item_work (p.plan a) p.recording p.attached track) (items_for a done) (item_of s) (of_actor a before) t.made (outs a) v (now_is a true lt e on) (so.runs a track there) run)

      runs_other : (a : ℕ) (track : CpuTrack) → slice_get p.recording.cpus a ≡ Some track → cpu ≢ a → Runs (program_of a track (items_for a (done ++ s ∷ []))) (of_actor a (took p s before)) (after a)
      runs_other a track there ne =
          let got = taken_other p a cpu one before ne in
          let out = put_other outs cpu (after_count (outs cpu).instructions v) a (λ e. ne (sym e)) in
          subst (λ (z : List AgendaItem × List Step × Outcome). Runs (program_of a track z.0) z.1 z.2) (λ k. (sym (other_items a done s ne) k, sym got k, sym out k)) (so.runs a track there)

      stands_taken : Stands (done ++ s ∷ []) (next_going p s going before) (took p s before) (put outs (cpu_of_due s.due) (after_count (outs (cpu_of_due s.due)).instructions (then_value p (cpu_of_due s.due) (alone p (cpu_of_due s.due) (item_of s)) before)))
      stands_taken = record {
        goes = λ a lt. dite (ℕ_discrete cpu a) (goes_own a) (goes_other a lt);
        runs = λ a track there. dite (ℕ_discrete cpu a) (runs_own a track there) (runs_other a track there);
      }

      -- the count grew by the item's
      counted_more : counted_by (put outs (cpu_of_due s.due) (after_count (outs (cpu_of_due s.due)).instructions (then_value p (cpu_of_due s.due) (alone p (cpu_of_due s.due) (item_of s)) before)))
          ≡ counted_by outs + (then_value p (cpu_of_due s.due) (alone p (cpu_of_due s.due) (item_of s)) before).instructions
      counted_more = more_sum (λ a. (outs a).instructions) (λ a. (after a).instructions) v.instructions cpu 0 n (omega arith) (let l = low in omega (arith, l, long))
          (ap (λ (o : Outcome). o.instructions) (put_own outs cpu (after_count (outs cpu).instructions v) cpu refl))
          (λ b ne. ap (λ (o : Outcome). o.instructions) (put_other outs cpu (after_count (outs cpu).instructions v) b ne))

    stands_passed : slice_index_or going (cpu_of_due s.due) false ≡ false → Stands (done ++ s ∷ []) going before outs
    stands_passed off = record {
      goes = so.goes;
      runs = λ a track there. dite (ℕ_discrete cpu a)
          (λ e. subst (λ (l : List AgendaItem). Runs (program_of a track l) (of_actor a before) (outs a)) (sym (own_items a done s e))
          (passed_over p.exits (item_work (p.plan a) p.recording p.attached track) (items_for a done) (item_of s) (of_actor a before) (outs a)
          (now_is a false (slice_get_within p.recording.cpus a track there) e off) (so.runs a track there)))
          (λ ne. subst (λ (l : List AgendaItem). Runs (program_of a track l) (of_actor a before) (outs a)) (sym (other_items a done s ne)) (so.runs a track there));
    }

  -- from what comes after an item to what comes of all
  from_next : (s : Scheduled) (ss done : List Scheduled) (going next : List Bool) (before now : List Step) (outs after : ℕ → Outcome) (count : ℕ)
      → taken p (s ∷ ss) going before ≡ taken p ss next now → taken_count p (s ∷ ss) going before ≡ count + taken_count p ss next now → counted_by after ≡ counted_by outs + count
      → Comes (done ++ s ∷ []) ss next now after → Comes done (s ∷ ss) going before outs
  from_next s ss done going next before now outs after count same sum grew c = record {
    ends = c.ends;
    runs = λ a track there. subst (λ (z : List Scheduled × List Step). Runs (program_of a track (items_for a z.0)) (of_actor a z.1) (c.ends a))
        (λ k. (append_assoc done (s ∷ []) ss k, sym same k)) (c.runs a track there);
    total = (λ i. sum i + counted_by outs) ∙ turned count (taken_count p ss next now) (counted_by outs) ∙ (λ i. taken_count p ss next now + sym grew i) ∙ c.total;
  }
    where
      turned : (x y z : ℕ) → x + y + z ≡ y + (z + x)
      turned x y z = omega arith

  count_all : (ss done : List Scheduled) (going : List Bool) (before : List Step) (outs : ℕ → Outcome) → length going ≡ n → Stands done going before outs → Comes done ss going before outs
  count_all [] done going before outs long so = record {
    ends = outs;
    runs = λ a track there. subst (λ (l : List Scheduled). Runs (program_of a track (items_for a l)) (of_actor a before) (outs a)) (sym (append-nil done)) (so.runs a track there);
    total = left_zero (counted_by outs);
  }
  count_all (s ∷ ss) done going before outs long so = by_bool (slice_index_or going (cpu_of_due s.due) false)
      (λ on. from_next s ss done going (next_going p s going before) before (took p s before) outs
      (put outs (cpu_of_due s.due) (after_count (outs (cpu_of_due s.due)).instructions (then_value p (cpu_of_due s.due) (alone p (cpu_of_due s.due) (item_of s)) before)))
      (then_value p (cpu_of_due s.due) (alone p (cpu_of_due s.due) (item_of s)) before).instructions
      (is_taken p s ss going before on) (count_taken s ss going before on) (counted_more s done going before outs long so on)
      (count_all ss (done ++ s ∷ []) (next_going p s going before) (took p s before)
      (put outs (cpu_of_due s.due) (after_count (outs (cpu_of_due s.due)).instructions (then_value p (cpu_of_due s.due) (alone p (cpu_of_due s.due) (item_of s)) before)))
      (length-set going (cpu_of_due s.due) (then_value p (cpu_of_due s.due) (alone p (cpu_of_due s.due) (item_of s)) before).to_end ∙ long)
      (stands_taken s done going before outs long so on)))
      (λ off. from_next s ss done going going before before outs outs 0 (is_passed p s ss going before off) (count_passed s ss going before off ∙ sym (left_zero (taken_count p ss going before))) (right_zero (counted_by outs))
      (count_all ss (done ++ s ∷ []) going before outs long (stands_passed s done going before outs long so off)))
    where
      right_zero : (m : ℕ) → m ≡ m + 0
      right_zero m = omega arith

-- ---- whole runs

module _ (p : Replay) (valid : IsValidRecording p.recording) (turn : AreInTurn p.attached.ticks) (own : PlansAreOwn p) where
  abbrev many : ℕ
  many = cpus_of p

  abbrev order : List Scheduled
  order = serial_order p.recording p.attached

  abbrev going : List Bool
  going = replicate (cpus_of p) true

  none_begun : (a : ℕ) → a < many → of_actor a (begun_steps p) ≡ []
  none_begun a lt = ap (of_actor a) (takes_whole p many (begin_of p) []).grew
      ∙ other_part a many (takes_whole p many (begin_of p) []).made (λ e. omega arith) (takes_whole p many (begin_of p) []).by

  stands_begun : Stands p [] (replicate (cpus_of p) true) (begun_steps p) (λ a. nothing)
  stands_begun = record {
    goes = λ a lt. sym (get_or-replicate many a true false lt);
    runs = λ a track there. subst (λ (l : List Step). Runs (program_of p a track []) l nothing) (sym (none_begun a (slice_get_within p.recording.cpus a track there))) refl;
  }

  long_going : length (replicate (cpus_of p) true) ≡ cpus_of p
  long_going = length-replicate (cpus_of p) true

  comes : Comes p [] (serial_order p.recording p.attached) (replicate (cpus_of p) true) (begun_steps p) (λ a. nothing)
  comes = count_all p order [] going (begun_steps p) (λ a. nothing) long_going stands_begun

  -- an actor's program, whose value gives the count
  program_is : (a : ℕ) (b : Bool) → nat_lt a many ≡ b
      → actor_program (p.plan a) p.exits p.recording p.attached ≡ (if b then cpu_of p a else main_program (p.plan a) p.recording p.attached)
  unfolding actor_program
  program_is a b e = ap (λ (t : Bool). if t then cpu_of p a else main_program (p.plan a) p.recording p.attached) (ap (λ (m : ℕ). nat_lt m many) (own a) ∙ e)

  counts_as : (a : ℕ) (t : Interaction Outcome) (o : Outcome) (steps : List Step) → actor_program (p.plan a) p.exits p.recording p.attached ≡ t → Runs t (of_actor a steps) o
      → actor_instructions p steps a ≡ o.instructions
  counts_as a t o steps e run = ap (λ (u : Interaction Outcome). outcome_count (value_under u (map reply_of (of_actor a steps)))) e ∙ ap outcome_count (value_under-Runs t (of_actor a steps) o run)

  serial_is : serial_steps p ≡ then_steps p (cpus_of p) (end_of p) (taken_steps p)
  unfolding serial_steps
  serial_is = refl

  -- a CPU's
  cpu_counts : (a : ℕ) → a < many → actor_instructions p (serial_steps p) a ≡ (comes.ends a).instructions
  cpu_counts a lt =
      let d : CpuTrack = record { number = 0; entries = [] } in
      let track = get_or p.recording.cpus a d in
      let there = slice_get-get_or p.recording.cpus a d lt in
      let items = own_agenda p.recording p.attached a track valid turn lt there in
      let steps : of_actor a (serial_steps p) ≡ of_actor a (taken_steps p) = ap (of_actor a) serial_is ∙ taken_other p a many (end_of p) (taken_steps p) (λ e. omega arith) in
      let program : program_of p a track (items_for a order) ≡ cpu_of p a = ap (program_of p a track) items ∙ sym (cpu_is p valid turn own a track there) in
      counts_as a (cpu_of p a) (comes.ends a) (serial_steps p) (program_is a true (is_less a many lt))
      (subst (λ (z : Interaction Outcome × List Step). Runs z.0 z.1 (comes.ends a)) (λ i. (program i, sym steps i)) (comes.runs a track there))

  -- the main actor's
  main_steps : of_actor many (serial_steps p) ≡ (takes_whole p many (begin_of p) []).made ++ (takes_whole p many (end_of p) (taken_steps p)).made
  main_steps =
      let first = takes_whole p many (begin_of p) [] in
      let middle = takes_all p order going (begun_steps p) in
      let last = takes_whole p many (end_of p) (taken_steps p) in
      let long = long_going in
      let begun : of_actor many (begun_steps p) ≡ first.made = ap (of_actor many) first.grew ∙ own_part many first.made first.by in
      let none : of_actor many middle.made ≡ [] = filter_none (is_of many) middle.made
      (each_so (λ (s : Step). s.actor < length going) (λ (s : Step). is_of many s ≡ false) (λ s lt. ne_eqb s.actor many (λ e. omega (arith, lt, e, long))) middle.made middle.by) in
      ap (of_actor many) serial_is ∙ taken_own p many (end_of p) (taken_steps p)
      ∙ ap (λ l. l ++ last.made) (ap (of_actor many) middle.grew ∙ filter-append (is_of many) (begun_steps p) middle.made ∙ (λ i. begun i ++ none i) ∙ append-nil first.made)

  main_counts : actor_instructions p (serial_steps p) many ≡ then_value p many (begin_of p) [] + then_value p many (end_of p) (taken_steps p)
  main_counts =
      let first = takes_whole p many (begin_of p) [] in
      let last = takes_whole p many (end_of p) (taken_steps p) in
      let b = then_value p many (begin_of p) [] in
      let e = then_value p many (end_of p) (taken_steps p) in
      let value : Outcome = record { to_end = true; instructions = b + e } in
      let rest : Runs (and_then (end_of p) (λ ended. Ended (record { to_end = true; instructions = b + ended }))) (last.made ++ []) value =
      Runs-and_then (end_of p) (λ ended. Ended (record { to_end = true; instructions = b + ended })) last.made [] e value last.runs refl in
      let whole : Runs (main_program (p.plan many) p.recording p.attached) (first.made ++ (last.made ++ [])) value =
      Runs-and_then (begin_of p) (λ count. and_then (end_of p) (λ ended. Ended (record { to_end = true; instructions = count + ended })))
      first.made (last.made ++ []) b value first.runs rest in
      counts_as many (main_program (p.plan many) p.recording p.attached) value (serial_steps p) (program_is many false (not_less many many (omega arith)))
      (subst (λ (l : List Step). Runs (main_program (p.plan many) p.recording p.attached) l value) (ap (λ l. first.made ++ l) (append-nil last.made) ∙ sym main_steps) whole)

  pub serial_counts : serial_count p ≡ instructions_of p (serial_steps p)
  unfolding instructions_of
  serial_counts =
      let b = then_value p many (begin_of p) [] in
      let e = then_value p many (end_of p) (taken_steps p) in
      let items = taken_count p order going (begun_steps p) in
      let all : items + sum_to (λ a. 0) 0 many ≡ counted_by p comes.ends = comes.total in
      let cpus : items ≡ sum_to (actor_instructions p (serial_steps p)) 0 many =
      right_zero items ∙ ap (λ m. items + m) (sym (none_sum 0 many)) ∙ all
      ∙ same_sum (λ a. (comes.ends a).instructions) (actor_instructions p (serial_steps p)) 0 many (λ a low high. sym (cpu_counts a (omega arith))) in
      sum_more (actor_instructions p (serial_steps p)) many items (b + items + e) (b + e) cpus (sym main_counts) (turned b items e)
    where
      right_zero : (m : ℕ) → m ≡ m + 0
      right_zero m = omega arith

      turned : (x y z : ℕ) → x + y + z ≡ y + (x + z)
      turned x y z = omega arith

-- ---- in another order, with stamps

replies_unstamped : (steps : List Step) → map reply_of (map unstamped steps) ≡ map reply_of steps
replies_unstamped [] = refl
replies_unstamped (s ∷ ss) = ap (λ l. s.reply ∷ l) (replies_unstamped ss)

pub instructions_same : (p : Replay) (steps serial : List Step) → ((a : ℕ) → map unstamped (of_actor a steps) ≡ of_actor a serial) → instructions_of p steps ≡ instructions_of p serial
unfolding instructions_of
instructions_same p steps serial by = λ i. sum (map (λ a. outcome_count (value_under (actor_program (p.plan a) p.exits p.recording p.attached) (replies a i))) (range_with_len 0 (cpus_of p + 1)))
  where
    replies : (a : ℕ) → map reply_of (of_actor a steps) ≡ map reply_of (of_actor a serial)
    replies a = sym (replies_unstamped (of_actor a steps)) ∙ ap (map reply_of) (by a)
