-- The traces of all actors, with the clocks before and after, are woven.
use Rattle.std.proofs.Common.{◌≡◌, ℕ, max, ◌+◌, ◌<◌, ◌≤◌, ◌==◌, not, Bool, true, false, cond, List, [], ◌∷◌, ◌++◌, length, take, drop, refl, sym, ap, ◌∙◌, subst, inl, arith, eq-eqb, ne_eqb}
use Rattle.std.specs.List.{filter}
use Rattle.std.specs.List.Sorted.{IsPermutation}
use Rattle.std.proofs.lemmas.List.{append-nil, append_assoc, length-append, take_at, drop_at}
use Rattle.std.proofs.lemmas.List.Elements.{filter-append}
use Rattle.std.proofs.lemmas.List.Sorted.{IsPermutation-sym}
use Rattle.bt_core.specs.declared.step.ObjectId.{ObjectId}
use Rattle.bt_core.specs.declared.step.Op.{Op}
use Rattle.bt_core.specs.declared.step.Reply.{Reply}
use Rattle.bt_core.specs.declared.step.Step.{Step}
use Rattle.bt_core.specs.Steps.{is_of, of_actor}
use Rattle.turn_lock.specs.declared.entry.Entry.{Entry}
use Rattle.turn_lock.specs.History.{Each}
use Rattle.stamped.specs.declared.trace.Trace.{Trace}
use Rattle.stamped.specs.Traces.{actor_of, steps_of, floors_of}
use Rattle.weave.specs.Lists.{greatest}
use Rattle.weave.specs.Order.{InOrder}
use Rattle.weave.specs.Traces.{all_steps, AreTraces, HaveHistories, HaveClocks, Weaves, floors_from, floors_by}
use Rattle.weave.specs.Woven.{begin_steps, cpu_steps}
use Rattle.weave.proofs.Among.{has_back, each_has, each_from, filter_all, filter_none}
use Rattle.weave.proofs.Rising.{has_moved}
use Rattle.weave.proofs.Places.{Own, trace_steps}
use Rattle.weave.proofs.Orders.{level}
use Rattle.weave.proofs.Weaving.{weaves}
use Rattle.weave.proofs.Clocks.{is_woven, stands_between}
use Rattle.weave.specs.Ends.{AreCpuTraces, latest, HaveEnded, HasParts}

greatest_both : (xs ys : List Step) → greatest (xs ++ ys) ≡ max (greatest xs) (greatest ys)
greatest_both [] ys = omega arith
greatest_both (x ∷ xs) ys = let r = greatest_both xs ys in omega arith

all_both : (ts us : List Trace) → all_steps (ts ++ us) ≡ all_steps ts ++ all_steps us
all_both [] us = refl
all_both (t ∷ ts) us = ap (λ z. steps_of t ++ z) (all_both ts us) ∙ sym (append_assoc (steps_of t) (all_steps ts) (all_steps us))

pub each_both : {A : Type 0} (P : A → Type 0) (xs ys : List A) → Each P xs → Each P ys → Each P (xs ++ ys)
each_both P [] ys h k = k
each_both P (x ∷ xs) ys h k = (h.0, each_both P xs ys h.1 k)

each_front : {A : Type 0} (P : A → Type 0) (xs ys : List A) → Each P (xs ++ ys) → Each P xs
each_front P [] ys h = tt
each_front P (x ∷ xs) ys h = (h.0, each_front P xs ys h.1)

pub traces_both : (k n : ℕ) (ts : List Trace) (t : Trace) → AreTraces k ts → k + length ts ≡ n → actor_of t ≡ n → AreTraces k (ts ++ t ∷ [])
traces_both k n [] t h e by = ((let q : actor_of t ≡ k = omega (arith, e, by) in q), tt)
traces_both k n (u ∷ ts) t h e by = (h.0, traces_both (k + 1) n ts t h.1 (omega (arith, e)) by)

if_true : {A : Type 0} (b : Bool) (x y : A) → b ≡ true → cond b x y ≡ x
if_true b x y e = ap (λ c. cond c x y) e

if_false : {A : Type 0} (b : Bool) (x y : A) → b ≡ false → cond b x y ≡ y
if_false b x y e = ap (λ c. cond c x y) e

own_of : (t : Trace) (actor : ℕ) → actor_of t ≡ actor → Each (λ s. s.actor ≡ actor) (steps_of t) → Own t
own_of t actor e h = subst (λ a. Each (λ (s : Step). s.actor ≡ a) (steps_of t)) (sym e) h

-- ---- the CPUs' traces

module _ (clock : ℕ) where
  pub cpu_traces : (k : ℕ) (ts : List Trace) → AreCpuTraces clock k ts → AreTraces k ts
  cpu_traces k [] h = tt
  cpu_traces k (t ∷ ts) h = (h.0.actor, cpu_traces (k + 1) ts h.1)

  cpu_own : (k : ℕ) (ts : List Trace) → AreCpuTraces clock k ts → Each Own ts
  cpu_own k [] h = tt
  cpu_own k (t ∷ ts) h = (own_of t k h.0.actor h.0.own, cpu_own (k + 1) ts h.1)

  -- the latest clock is the greatest stamp, where that is above the clock at the start
  latest_greatest : (k : ℕ) (ts : List Trace) → AreCpuTraces clock k ts → max clock (latest ts) ≡ max clock (greatest (all_steps ts))
  latest_greatest k [] h = refl
  latest_greatest k (t ∷ ts) h = let r = latest_greatest (k + 1) ts h.1 in let e = h.0.ends in
      let b = greatest_both (steps_of t) (all_steps ts) in omega (arith, r, e, b)

  below : (n k : ℕ) (ts : List Trace) → AreCpuTraces clock k ts → k + length ts ≤ n → Each (λ s. s.actor < n) (all_steps ts)
  below n k [] h le = tt
  below n k (t ∷ ts) h le = each_both _ (steps_of t) (all_steps ts)
      (each_from _ (steps_of t) (λ s m. let e : s.actor ≡ k = each_has _ (steps_of t) s h.0.own m in let q : s.actor < n = omega (arith, e, le) in q))
      (below n (k + 1) ts h.1 (omega (arith, le)))

  floors_are : (n begun : ℕ) (all : List Step) (k : ℕ) (ts : List Trace) → greatest (begin_steps n begun all) ≡ clock → k + length ts ≤ n → AreCpuTraces clock k ts
      → Each (λ t. floors_of t ≡ floors_by n begun all (actor_of t) (steps_of t)) ts
  floors_are n begun all k [] g le h = tt
  floors_are n begun all k (t ∷ ts) g le h = (
    h.0.floors ∙ ap (λ c. floors_from c (steps_of t)) (sym g)
        ∙ sym (if_false (actor_of t == n) _ (floors_from (greatest (begin_steps n begun all)) (steps_of t))
        (ne_eqb (actor_of t) n (λ q. let z : k ≡ n = sym h.0.actor ∙ q in omega (arith, z, le)))),
    floors_are n begun all (k + 1) ts g (omega (arith, le)) h.1,
  )

-- ---- all traces

module _ (begun finished : List Step) (ts : List Trace) (t : Trace) (h : HaveEnded begun finished ts t) where
  abbrev n : ℕ
  n = length ts

  abbrev traces : List Trace
  traces = ts ++ t ∷ []

  abbrev all : List Step
  all = all_steps traces

  abbrev count : ℕ
  count = length begun

  pub are_traces : AreTraces 0 traces
  are_traces = traces_both 0 n ts t (cpu_traces (greatest begun) 0 ts h.cpus_are) (omega arith) h.actor

  all_are : all ≡ all_steps ts ++ steps_of t
  all_are = all_both ts (t ∷ []) ∙ ap (λ z. all_steps ts ++ z) (append-nil (steps_of t))

  own : Each Own traces
  own = each_both Own ts (t ∷ []) (cpu_own (greatest begun) 0 ts h.cpus_are) (own_of t n h.actor h.own, tt)

  main_steps : of_actor n all ≡ begun ++ finished
  main_steps = ap (λ a. of_actor a all) (sym h.actor) ∙ trace_steps 0 traces t are_traces own (has_back ts (t ∷ []) t (inl refl)) ∙ h.steps

  begin_are : begin_steps n count all ≡ begun
  begin_are = ap (take count) main_steps ∙ take_at begun finished count refl

  low : Each (λ s. s.actor < n) (all_steps ts)
  low = below (greatest begun) n 0 ts h.cpus_are (omega arith)

  not_main : Each (λ s. not (is_of n s) ≡ true) (all_steps ts)
  not_main = each_from _ (all_steps ts) (λ s m. ap not (ne_eqb s.actor n (λ e. let lt : s.actor < n = each_has _ (all_steps ts) s low m in omega (arith, lt, e))))

  main_not : Each (λ s. not (is_of n s) ≡ false) (steps_of t)
  main_not = each_from _ (steps_of t) (λ s m. ap not (eq-eqb s.actor n (each_has _ (steps_of t) s h.own m)))

  cpu_are : cpu_steps n count all ≡ all_steps ts
  cpu_are = let f : Step → Bool = λ s. not (is_of n s) in
      ap (filter f) all_are ∙ filter-append f (all_steps ts) (steps_of t)
      ∙ (λ i. filter_all f (all_steps ts) not_main i ++ filter_none f (steps_of t) main_not i)
      ∙ append-nil (all_steps ts)

  start_is : greatest (begin_steps n count all) ≡ greatest begun
  start_is = ap greatest begin_are

  turned_is : greatest (begin_steps n count all ++ cpu_steps n count all) ≡ max (greatest begun) (latest ts)
  turned_is = let b = greatest_both (begin_steps n count all) (cpu_steps n count all) in let c = ap greatest cpu_are in let s = start_is in
      let l = latest_greatest (greatest begun) 0 ts h.cpus_are in omega (arith, b, c, s, l)

  main_floors : floors_of t ≡ floors_by n count all (actor_of t) (steps_of t)
  main_floors = h.floors
      ∙ (λ i. floors_from 0 (sym (take_at begun finished count refl) i) ++ floors_from (sym turned_is i) (sym (drop_at begun finished count refl) i))
      ∙ ap (λ z. floors_from 0 (take count z) ++ floors_from (greatest (begin_steps n count all ++ cpu_steps n count all)) (drop count z)) (sym h.steps)
      ∙ sym (if_true (actor_of t == n) _ _ (eq-eqb (actor_of t) n h.actor))

  pub clocks : HaveClocks n count traces
  clocks = record {
    last = length-append ts (t ∷ []);
    begin = (let e = ap length main_steps in let f = length-append begun finished in omega (arith, e, f));
    floors = each_both _ ts (t ∷ []) (floors_are (greatest begun) n count all 0 ts start_is (omega arith) h.cpus_are) (main_floors, tt);
  }

  actors : Each (λ s. s.actor ≤ n) all
  actors = subst (Each (λ s. s.actor ≤ n)) (sym all_are) (each_both _ (all_steps ts) (steps_of t)
      (each_from _ (all_steps ts) (λ s m. let lt : s.actor < n = each_has _ (all_steps ts) s low m in let q : s.actor ≤ n = omega (arith, lt) in q))
      (each_from _ (steps_of t) (λ s m. let e : s.actor ≡ n = each_has _ (steps_of t) s h.own m in let q : s.actor ≤ n = omega (arith, e) in q)))

  module _ (answer : ObjectId → List Op → Op → Reply) (history : ObjectId → List Entry) (steps : List Step)
      (given : HaveHistories answer traces history) (moved : IsPermutation all steps) (order : InOrder steps) where
    abbrev woven : Weaves answer traces history steps
    woven = weaves answer traces history given steps moved (level steps order)

    pub parts : HasParts answer begun finished ts steps
    parts = record {
      main = ap (λ a. of_actor a steps) (sym h.actor) ∙ each_has _ traces t woven.actors (has_back ts (t ∷ []) t (inl refl)) ∙ h.steps;
      each_cpu = each_front _ ts (t ∷ []) woven.actors;
      actors = each_from _ steps (λ s m. each_has _ all s actors (has_moved steps all s (IsPermutation-sym all steps moved) m));
      woven = is_woven answer traces history given n count clocks steps moved (level steps order) order;
      between = stands_between answer traces history given n count clocks steps moved (level steps order);
      replies = woven.replies;
    }
