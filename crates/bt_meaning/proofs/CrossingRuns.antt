-- How often the runs of programs cross a tick.
use Rattle.std.proofs.Common.{◌≡◌, ℕ, zero, suc, ◌+◌, ◌<◌, ◌≤◌, ◌==◌, ◌&&◌, Bool, true, false, not, cond, if◌then◌else◌, List, [], ◌∷◌, ◌++◌, sym, refl, ap, ◌∙◌, subst, arith, eq-eqb, ne_eqb}
use Rattle.std.specs.Prelude.{slice_get, Option, Some, None}
use Rattle.std.specs.List.{filter_map, range_with_len}
use mathlib.Core.Logic.{dite}
use native.Mathlib.Decide.{ℕ_discrete}
use Rattle.bt_ast.specs.declared.attached.Tick.{Tick}
use Rattle.bt_core.specs.declared.step.ObjectId.{ObjectId}
use Rattle.bt_core.specs.declared.step.ObjectId.TheVariants.{Shared, Cpu, Clock, Out}
use Rattle.bt_core.specs.declared.step.Op.{Op}
use Rattle.bt_core.specs.declared.step.Op.TheVariants.{Cross, Check, Stop}
use Rattle.bt_core.specs.declared.step.Step.{Step}
use Rattle.bt_core.specs.Interaction.{Call, call_of, Interaction, Ended, Asks, and_then, ask, Runs}
use Rattle.bt_core.specs.Steps.{is_same_object}
use Rattle.recordings.specs.declared.recording.CpuTrack.{CpuTrack}
use Rattle.recordings.specs.declared.recording.Entry.{Entry}
use Rattle.recordings.specs.declared.recording.Entry.TheVariants as entry
use Rattle.agg_core.specs.Answers.{is_cross}
use Rattle.actor_plan.specs.declared.agenda.AgendaItem.{AgendaItem}
use Rattle.actor_plan.specs.declared.agenda.AgendaItem.TheVariants as item
use Rattle.actor_plan.specs.declared.outcome.Outcome.{Outcome}
use Rattle.actor_plan.specs.Agendas.{tick_place}
use Rattle.actor_plan.specs.Contexts.{event_context, tick_context}
use Rattle.actor_plan.specs.Programs.{in_turn, tells_stop, tells_last, goes_on, crosses_last, where_some, entry_work, mark_work, tick_work, item_work, after_count, items_program, begin_program, end_program, bodies_at}
use Rattle.bt_meaning.specs.Replays.{Replay}
use Rattle.bt_meaning.specs.Ticks.{BodiesOnlyStop, OnlyStops, is_crossing}
use Rattle.bt_meaning.proofs.Crossings.{mark, marks, marks_append}

-- a run of the one and then the other
pub record Split {A B : Type 0} (t : Interaction A) (f : A → Interaction B) (steps : List Step) (b : B) : Type 0 where
  pub value : A
  pub front : List Step
  pub back : List Step
  pub whole : steps ≡ front ++ back
  pub first : Runs t front value
  pub second : Runs (f value) back b

pub runs_split : {A B : Type 0} (t : Interaction A) (f : A → Interaction B) (steps : List Step) (b : B) → Runs (and_then t f) steps b → Split t f steps b
runs_split (Ended a) f steps b r = record { value = a; front = []; back = steps; whole = refl; first = refl; second = r }
runs_split (Asks c g) f [] b r = absurd r
runs_split (Asks c g) f (s ∷ ss) b r = let p = runs_split (g s.reply) f ss b r.1 in
    record { value = p.value; front = s ∷ p.front; back = p.back; whole = ap (λ l. s ∷ l) p.whole; first = (r.0, p.first); second = p.second }

-- how often the items have a tick
abbrev pub occurs : ℕ → List ℕ → ℕ
occurs k [] = 0
occurs k (j ∷ js) = cond (j == k) 1 0 + occurs k js

abbrev pub times : ℕ → List AgendaItem → ℕ
times k items = occurs k (filter_map tick_place items)

occurs_late : (k p n : ℕ) → k < p → occurs k (range_with_len p n) ≡ 0
occurs_late k p zero lt = refl
occurs_late k p (suc n) lt =
    let none : cond {A = ℕ} (p == k) 1 0 ≡ 0 = ap (λ (b : Bool). cond b 1 0) (ne_eqb p k (λ e. omega arith)) in
    let rest = occurs_late k (p + 1) n (omega arith) in omega arith

pub occurs_once : (k p n : ℕ) → occurs k (range_with_len p n) ≤ 1
occurs_once k p zero = omega arith
occurs_once k p (suc n) = dite (ℕ_discrete p k)
    (λ e. let one : cond {A = ℕ} (p == k) 1 0 ≡ 1 = ap (λ (b : Bool). cond b 1 0) (eq-eqb p k e) in
    let rest = occurs_late k (p + 1) n (omega arith) in omega arith)
    (λ ne. let none : cond {A = ℕ} (p == k) 1 0 ≡ 0 = ap (λ (b : Bool). cond b 1 0) (ne_eqb p k ne) in
    let rest = occurs_once k (p + 1) n in omega arith)

pub occurs_beyond : (k p n : ℕ) → p + n ≤ k → occurs k (range_with_len p n) ≡ 0
occurs_beyond k p zero le = refl
occurs_beyond k p (suc n) le =
    let none : cond {A = ℕ} (p == k) 1 0 ≡ 0 = ap (λ (b : Bool). cond b 1 0) (ne_eqb p k (λ e. omega arith)) in
    let rest = occurs_beyond k (p + 1) n (omega arith) in omega arith

pub times_append : (k : ℕ) (xs ys : List AgendaItem) → times k (xs ++ ys) ≡ times k xs + times k ys
times_append k [] ys = omega arith
times_append k (item.Tick j ∷ xs) ys = let r = times_append k xs ys in omega arith
times_append k (item.Event j ∷ xs) ys = times_append k xs ys
times_append k (item.Lost j ∷ xs) ys = times_append k xs ys

-- items that have a tick are cut at it
pub record TickCut (k : ℕ) (items : List AgendaItem) : Type 0 where
  pub front : List AgendaItem
  pub back : List AgendaItem
  pub whole : items ≡ front ++ item.Tick k ∷ back

pub tick_cut : (k : ℕ) (items : List AgendaItem) → 1 ≤ times k items → TickCut k items
tick_cut k [] some = absurd (omega arith)
tick_cut k (item.Tick j ∷ is) some = dite (ℕ_discrete j k)
    (λ e. record { front = []; back = is; whole = ap (λ (n : ℕ). item.Tick n ∷ is) e })
    (λ ne. let none : cond {A = ℕ} (j == k) 1 0 ≡ 0 = ap (λ (b : Bool). cond b 1 0) (ne_eqb j k ne) in
    let r = tick_cut k is (omega arith) in record { front = item.Tick j ∷ r.front; back = r.back; whole = ap (λ l. item.Tick j ∷ l) r.whole })
tick_cut k (item.Event j ∷ is) some =
    let r = tick_cut k is some in record { front = item.Event j ∷ r.front; back = r.back; whole = ap (λ l. item.Event j ∷ l) r.whole }
tick_cut k (item.Lost j ∷ is) some =
    let r = tick_cut k is some in record { front = item.Lost j ∷ r.front; back = r.back; whole = ap (λ l. item.Lost j ∷ l) r.whole }

-- each run crosses tick k at most n times
abbrev pub AtMost : {A : Type 0} → ℕ → ℕ → Interaction A → Type 0
AtMost {A} k n t = (steps : List Step) (a : A) → Runs t steps a → marks k steps ≤ n

module _ (k : ℕ) where
  pub most_both : {A B : Type 0} (m n : ℕ) (t : Interaction A) (f : A → Interaction B) → AtMost k m t → ((a : A) → AtMost k n (f a)) → AtMost k (m + n) (and_then t f)
  most_both m n t f p q steps b r = let s = runs_split t f steps b r in let x = p s.front s.value s.first in let y = q s.value s.back b s.second in
      let e = ap (marks k) s.whole ∙ marks_append k s.front s.back in omega arith

  pub most_end : {A : Type 0} (a : A) → AtMost k 0 (Ended a)
  most_end a [] b r = omega arith
  most_end a (s ∷ ss) b r = absurd r

  pub weaker : {A : Type 0} (m n : ℕ) (t : Interaction A) → m ≤ n → AtMost k m t → AtMost k n t
  weaker m n t le p steps a r = let x = p steps a r in omega arith

  -- a call at the clock that is a stop, and one elsewhere
  stop_by : (o : ObjectId) (op : Op) → (o ≡ Clock → op ≡ Stop) → cond {A = ℕ} (is_same_object o Clock && is_cross k op) 1 0 ≡ 0
  stop_by (Shared m part) op h = refl
  stop_by (Cpu actor) op h = refl
  stop_by Clock op h = ap (λ (q : Op). cond {A = ℕ} (is_cross k q) 1 0) (h refl)
  stop_by Out op h = refl

  call_mark : (s : Step) (c : Call) → call_of s ≡ c → mark k s ≡ cond (is_same_object c.object Clock && is_cross k c.op) 1 0
  call_mark s c e = ap (λ (d : Call). cond (is_same_object d.object Clock && is_cross k d.op) 1 0) e

  pub stops_most : {A : Type 0} (t : Interaction A) → OnlyStops t → AtMost k 0 t
  stops_most (Ended a) h steps v r = most_end a steps v r
  stops_most (Asks c f) h [] a r = absurd r
  stops_most (Asks c f) h (s ∷ ss) a r =
      let one = call_mark s c r.0 in let none = stop_by c.object c.op h.0 in
      let rest = stops_most (f s.reply) (h.1 s.reply) ss a r.1 in omega arith

  ask_most : (n : ℕ) (op : Op) → cond (is_cross k op) 1 0 ≤ n → AtMost k n (ask Clock op)
  ask_most n op le [] a r = absurd r
  ask_most n op le (s ∷ []) a r = let e = call_mark s (record { object = Clock; op = op }) r.0 in omega arith
  ask_most n op le (s ∷ t ∷ ss) a r = absurd r.1

  turn_most : (run : ℕ → Interaction ℕ) → ((body : ℕ) → AtMost k 0 (run body)) → (bodies : List ℕ) → AtMost k 0 (in_turn run bodies)
  turn_most run each [] = most_end 0
  turn_most run each (body ∷ bodies) =
      most_both 0 0 (run body) (λ count. and_then (in_turn run bodies) (λ rest. Ended (count + rest))) (each body)
      (λ count. most_both 0 0 (in_turn run bodies) (λ rest. Ended (count + rest)) (turn_most run each bodies) (λ rest. most_end (count + rest)))

  on_most : (checks : Bool) → AtMost k 0 (goes_on checks)
  on_most true = most_both 0 0 (ask Clock Check) (λ reply. Ended (not (tells_stop reply))) (ask_most 0 Check (omega arith)) (λ reply. most_end (not (tells_stop reply)))
  on_most false = most_end true

  last_most : (tick : ℕ) → AtMost k (cond (tick == k) 1 0) (crosses_last tick)
  last_most tick = weaker (cond (tick == k) 1 0 + 0) (cond (tick == k) 1 0) (crosses_last tick) (omega arith)
      (most_both (cond (tick == k) 1 0) 0 (ask Clock (Cross tick)) (λ reply. Ended (tells_last reply)) (ask_most (cond (tick == k) 1 0) (Cross tick) (omega arith)) (λ reply. most_end (tells_last reply)))

  -- a mark is told of, and crosses nothing
  mark_most : (number count : ℕ) → AtMost k 0 (mark_work number count)
  mark_most number count = stops_most (mark_work number count) ((λ e. absurd (let r : ⊥ = cc in r)), λ reply. tt)

  module _ (p : Replay) (stops : BodiesOnlyStop p) (cpu : ℕ) where
    body_most : (body : ℕ) (context : _) (payload : List ℕ) → AtMost k 0 ((p.plan cpu).run body context payload)
    body_most body context payload = stops_most ((p.plan cpu).run body context payload) (stops cpu body context payload)

    pub begin_most : AtMost k 0 (begin_program (p.plan cpu) p.recording p.attached)
    begin_most = turn_most (λ body. (p.plan cpu).run body _ []) (λ body. body_most body _ []) p.attached.begin

    pub end_most : AtMost k 0 (end_program (p.plan cpu) p.recording p.attached)
    end_most = turn_most (λ body. (p.plan cpu).run body _ []) (λ body. body_most body _ []) p.attached.end

    module _ (track : CpuTrack) where
      abbrev pub work : AgendaItem → Interaction ℕ
      work = item_work (p.plan cpu) p.recording p.attached track

      abbrev pub program : List AgendaItem → Interaction Outcome
      program = items_program p.exits work

      entry_most : (o : Option Entry) → AtMost k 0 (where_some (entry_work (p.plan cpu) p.recording p.attached track) o)
      entry_most None = most_end 0
      entry_most (Some (entry.Lost time count)) = mark_most track.number count
      entry_most (Some (entry.Event e)) = turn_most (λ body. (p.plan cpu).run body (event_context p.recording track e) e.payload)
          (λ body. body_most body (event_context p.recording track e) e.payload) (bodies_at (p.plan cpu) p.recording p.attached e)

      if_most : (body : Interaction ℕ) → AtMost k 0 body → (last : Bool) → AtMost k 0 (if last then body else Ended 0)
      if_most body m true = m
      if_most body m false = most_end 0

      tick_most : (place : ℕ) (o : Option Tick) → AtMost k (cond (place == k) 1 0) (where_some (tick_work (p.plan cpu) p.recording p.attached track place) o)
      tick_most place None = weaker 0 (cond (place == k) 1 0) (Ended 0) (omega arith) (most_end 0)
      tick_most place (Some t) = weaker (cond (place == k) 1 0 + 0) (cond (place == k) 1 0) (tick_work (p.plan cpu) p.recording p.attached track place t) (omega arith)
          (most_both (cond (place == k) 1 0) 0 (crosses_last place) (λ last. if last then (p.plan cpu).run t.body (tick_context p.recording track t) [] else Ended 0)
          (last_most place) (if_most ((p.plan cpu).run t.body (tick_context p.recording track t) []) (body_most t.body (tick_context p.recording track t) [])))

      item_most : (i : AgendaItem) → AtMost k (times k (i ∷ [])) (work i)
      item_most (item.Tick place) = weaker (cond (place == k) 1 0) (cond (place == k) 1 0 + 0) (work (item.Tick place)) (omega arith) (tick_most place (slice_get p.attached.ticks place))
      item_most (item.Event place) = entry_most (slice_get track.entries place)
      item_most (item.Lost place) = entry_most (slice_get track.entries place)

      by_on : (n : ℕ) (t : Interaction Outcome) → AtMost k n t → (on : Bool) → AtMost k n (if on then t else Ended (record { to_end = false; instructions = 0 }))
      by_on n t m true = m
      by_on n t m false = weaker 0 n (Ended (record { to_end = false; instructions = 0 })) (omega arith) (most_end (record { to_end = false; instructions = 0 }))

      times_cons : (i : AgendaItem) (is : List AgendaItem) → times k (i ∷ is) ≡ times k (i ∷ []) + times k is
      times_cons (item.Tick place) is = omega arith
      times_cons (item.Event place) is = omega arith
      times_cons (item.Lost place) is = omega arith

      -- a program crosses a tick no more often than its items have it
      pub program_most : (items : List AgendaItem) → AtMost k (times k items) (program items)
      program_most [] = most_end (record { to_end = true; instructions = 0 })
      program_most (i ∷ is) =
          let rest : (count : ℕ) → AtMost k (times k is + 0) (and_then (program is) (λ q. Ended (after_count count q))) =
          (λ count. most_both (times k is) 0 (program is) (λ q. Ended (after_count count q)) (program_most is) (λ q. most_end (after_count count q))) in
          let both : AtMost k (times k (i ∷ []) + (times k is + 0)) (and_then (work i) (λ count. and_then (program is) (λ q. Ended (after_count count q)))) =
          most_both (times k (i ∷ [])) (times k is + 0) (work i) (λ count. and_then (program is) (λ q. Ended (after_count count q))) (item_most i) rest in
          let n = times_cons i is in
          weaker (0 + (times k (i ∷ []) + (times k is + 0))) (times k (i ∷ is)) (program (i ∷ is)) (omega arith)
          (most_both 0 (times k (i ∷ []) + (times k is + 0)) (goes_on p.exits)
          (λ on. if on then and_then (work i) (λ count. and_then (program is) (λ q. Ended (after_count count q))) else Ended (record { to_end = false; instructions = 0 }))
          (on_most p.exits) (λ on. by_on (times k (i ∷ []) + (times k is + 0)) (and_then (work i) (λ count. and_then (program is) (λ q. Ended (after_count count q)))) both on))

      -- a run that crosses tick k: what comes before, the crossing, and what the answer leads to
      pub record Crossed (t : Tick) (steps : List Step) : Type 0 where
        pub check : List Step
        pub cross : Step
        pub made : List Step
        pub more : List Step
        pub whole : steps ≡ check ++ cross ∷ (made ++ more)
        pub quiet : marks k check ≡ 0
        pub crosses : is_crossing k cross ≡ true
        pub count : ℕ
        pub runs : Runs (if tells_last cross.reply then (p.plan cpu).run t.body (tick_context p.recording track t) [] else Ended 0) made count

      tick_runs : (t : Tick) (check steps : List Step) (count : ℕ) (more : List Step) → marks k check ≡ 0
          → Runs (tick_work (p.plan cpu) p.recording p.attached track k t) steps count → Crossed t (check ++ (steps ++ more))
      tick_runs t check [] count more quiet r = absurd r
      tick_runs t check (s ∷ ss) count more quiet r = record {
        check = check;
        cross = s;
        made = ss;
        more = more;
        whole = refl;
        quiet = quiet;
        crosses = ap (λ (c : Call). is_same_object c.object Clock && is_cross k c.op) r.0 ∙ eq-eqb k k refl;
        count = count;
        runs = r.1;
      }

      -- the run of a program whose first item is the tick, and that crosses it
      first_by : (t : Tick) (back : List AgendaItem) (on : Bool) (check steps : List Step) (v : Outcome) → slice_get p.attached.ticks k ≡ Some t → marks k check ≡ 0
          → Runs (if on then and_then (work (item.Tick k)) (λ count. and_then (program back) (λ q. Ended (after_count count q))) else Ended (record { to_end = false; instructions = 0 })) steps v
          → 1 ≤ marks k steps → Crossed t (check ++ steps)
      first_by t back true check steps v at quiet r some =
          let c = runs_split (work (item.Tick k)) (λ count. and_then (program back) (λ q. Ended (after_count count q))) steps v r in
          subst (λ (l : List Step). Crossed t (check ++ l)) (sym c.whole) (tick_runs t check c.front c.value c.back quiet
          (subst (λ (o : Option Tick). Runs (where_some (tick_work (p.plan cpu) p.recording p.attached track k) o) c.front c.value) at c.first))
      first_by t back false check [] v at quiet r some = absurd (omega arith)
      first_by t back false check (s ∷ ss) v at quiet r some = absurd r

      pub crosses_first : (t : Tick) (back : List AgendaItem) (steps : List Step) (v : Outcome) → slice_get p.attached.ticks k ≡ Some t → Runs (program (item.Tick k ∷ back)) steps v
          → 1 ≤ marks k steps → Crossed t steps
      crosses_first t back steps v at r some =
          let c = runs_split (goes_on p.exits) (λ on. if on then and_then (work (item.Tick k)) (λ count. and_then (program back) (λ q. Ended (after_count count q))) else Ended (record { to_end = false; instructions = 0 })) steps v r in
          let none = on_most p.exits c.front c.value c.first in
          let e = ap (marks k) c.whole ∙ marks_append k c.front c.back in
          let quiet : marks k c.front ≡ 0 = omega arith in
          subst (Crossed t) (sym c.whole) (first_by t back c.value c.front c.back v at quiet c.second (omega arith))
