-- From what all actors leave to an interleaving, and to how many instructions it took.
use Rattle.std.proofs.Common.{◌≡◌, ℕ, suc, ◌+◌, ◌<◌, ◌≤◌, List, [], ◌∷◌, ◌++◌, length, take, drop, map, sum, refl, sym, ap, ◌∙◌, subst, arith, length-take-le, take-append-drop}
use Rattle.std.specs.Prelude.{Some}
use Rattle.std.specs.List.{AllByRecursion, range_with_len}
use Rattle.std.proofs.lemmas.List.{drop_at, length-append, take_at}
use Rattle.std.proofs.lemmas.List.Sums.{sum_by-cons}
use mathlib.Core.Logic.{dite}
use native.Mathlib.Decide.{ℕ_discrete}
use Rattle.bt_core.specs.declared.step.Step.{Step}
use Rattle.bt_core.specs.Interaction.{Interaction, Ended, Asks, Runs}
use Rattle.bt_core.specs.Steps.{of_actor}
use Rattle.bt_core.proofs.InteractionLaws.{value_under-Runs}
use Rattle.turn_lock.specs.History.{Each}
use Rattle.stamped.specs.declared.trace.Trace.{Trace}
use Rattle.stamped.specs.Traces.{actor_of, steps_of}
use Rattle.weave.specs.Traces.{AreTraces}
use Rattle.weave.specs.Woven.{IsWoven, StandsBetween, begin_steps, end_steps}
use Rattle.actor_plan.specs.declared.outcome.Outcome.{Outcome}
use Rattle.bt_meaning.specs.Instructions.{actor_instructions, instructions_of}
use Rattle.bt_meaning.specs.Interleavings.{IsInterleaving, IsReplayed, IsWhole}
use Rattle.bt_meaning.specs.Replays.{PlansAreOwn, Replay, answers_of, begin_of, cpu_of, cpus_of, end_of}
use Rattle.bt_meaning.proofs.Counts.{cpu_count, main_count}
use Rattle.bt_meaning.proofs.ThreeParts.{HasLimits, interleaves, limits_of}
use Rattle.run_objects.proofs.ReadLemmas.{sum_more}
use Rattle.weave.specs.Ends.{HasParts}
use Rattle.thread_actors.specs.Acts.{HaveRun}

runs_one : {A : Type 0} (t : Interaction A) (ss : List Step) (a b : A) → Runs t ss a → Runs t ss b → a ≡ b
runs_one t ss a b h k = let e : Some a ≡ Some b = sym (value_under-Runs t ss a h) ∙ value_under-Runs t ss b k in cc

-- two beginnings of one list that each are the whole of a computation are as long
runs_long : {A : Type 0} (t : Interaction A) (xs ys us vs : List Step) (a b : A) → Runs t xs a → Runs t us b → xs ++ ys ≡ us ++ vs → length xs ≡ length us
runs_long (Ended c) [] ys [] vs a b h k e = refl
runs_long (Ended c) [] ys (u ∷ us) vs a b h k e = absurd k
runs_long (Ended c) (x ∷ xs) ys us vs a b h k e = absurd h
runs_long (Asks c f) [] ys us vs a b h k e = absurd h
runs_long (Asks c f) (x ∷ xs) ys [] vs a b h k e = absurd k
runs_long (Asks c f) (x ∷ xs) ys (u ∷ us) vs a b h k e =
    let same : u ≡ x = cc in
    let rest : xs ++ ys ≡ us ++ vs = cc in
    ap suc (runs_long (f x.reply) xs ys us vs a b h.1 (subst (λ (z : Step). Runs (f z.reply) us b) same k.1) rest)

pub each_recursion : {A : Type 0} (P : A → Type 0) (xs : List A) → Each P xs → AllByRecursion P xs
each_recursion P [] h = tt
each_recursion P (x ∷ xs) h = (h.0, each_recursion P xs h.1)

module _ (p : Replay) (begun finished steps : List Step) (cpus : List Trace) (traces : AreTraces 0 cpus) (many : length cpus ≡ cpus_of p)
    (parts : HasParts (answers_of p) begun finished cpus steps) (begin_count count end_count : ℕ)
    (begin : Runs (begin_of p) begun begin_count) (ran : HaveRun p 0 cpus count) (finish : Runs (end_of p) finished end_count) where
  abbrev n : ℕ
  n = cpus_of p

  pub mains : of_actor n steps ≡ begun ++ finished
  mains = ap (λ a. of_actor a steps) (sym many) ∙ parts.main

  pub begins : begin_steps n (length begun) steps ≡ begun
  begins = ap (take (length begun)) mains ∙ take_at begun finished (length begun) refl

  pub ends : end_steps n (length begun) steps ≡ finished
  ends = ap (drop (length begun)) mains ∙ drop_at begun finished (length begun) refl

  pub whole_from : (k : ℕ) (ts : List Trace) (c cpu : ℕ) → AreTraces k ts → Each (λ t. of_actor (actor_of t) steps ≡ steps_of t) ts → HaveRun p k ts c → k ≤ cpu → cpu < k + length ts
      → IsWhole (cpu_of p cpu) (of_actor cpu steps)
  whole_from k [] c cpu at each run le lt = absurd (omega (arith, le, lt))
  whole_from k (t ∷ ts) c cpu at each run le lt = dite (ℕ_discrete k cpu)
      (λ e. subst (λ a. IsWhole (cpu_of p a) (of_actor a steps)) e (record { value = run.0; runs = subst (λ l. Runs (cpu_of p k) l run.0) (sym (ap (λ a. of_actor a steps) (sym at.0) ∙ each.0)) run.2 }))
      (λ ne. whole_from (k + 1) ts run.1 cpu at.1 each.1 run.3 (omega (arith, le, ne)) (omega (arith, lt)))

  abbrev pub has_limits : HasLimits p (length begun) steps
  has_limits = record {
    actors = each_recursion (λ s. s.actor ≤ n) steps (subst (λ m. Each (λ (s : Step). s.actor ≤ m) steps) many parts.actors);
    enough = (let e = ap length mains in let l = length-append begun finished in omega (arith, e, l));
    begin = record { value = begin_count; runs = subst (λ l. Runs (begin_of p) l begin_count) (sym begins) begin };
    each_cpu = λ cpu lt. whole_from 0 cpus count cpu traces parts.each_cpu ran (omega arith) (omega (arith, lt, many));
    end = record { value = end_count; runs = subst (λ l. Runs (end_of p) l end_count) (sym ends) finish };
    between = subst (λ m. StandsBetween m (length begun) steps) many parts.between;
    replies = parts.replies;
  }

  it : IsInterleaving p steps
  it = interleaves p (length begun) steps has_limits

  it_limits : HasLimits p (length it.first) steps
  it_limits = limits_of p steps it

  begun_long : length it.first ≡ length begun
  begun_long = sym (length-take-le (length it.first) (of_actor n steps) it_limits.enough)
      ∙ runs_long (begin_of p) (take (length it.first) (of_actor n steps)) (drop (length it.first) (of_actor n steps)) begun finished it_limits.begin.value begin_count it_limits.begin.runs begin
      (take-append-drop (length it.first) (of_actor n steps) ∙ mains)

  pub replayed : IsReplayed p steps
  replayed = record {
    interleaving = it;
    woven = subst (λ k. IsWoven n k steps) (sym begun_long) (subst (λ m. IsWoven m (length begun) steps) many parts.woven);
  }

  module _ (own : PlansAreOwn p) where
    cpus_count : (k : ℕ) (ts : List Trace) (c : ℕ) → AreTraces k ts → Each (λ t. of_actor (actor_of t) steps ≡ steps_of t) ts → HaveRun p k ts c → k + length ts ≡ n
        → sum (map (actor_instructions p steps) (range_with_len k (length ts))) ≡ c
    cpus_count k [] c at each run e = sym run
    cpus_count k (t ∷ ts) c at each run e =
        let lt : k < n = omega (arith, e) in
        let w = has_limits.each_cpu k lt in
        let here : of_actor k steps ≡ steps_of t = ap (λ a. of_actor a steps) (sym at.0) ∙ each.0 in
        let one : w.value ≡ run.0 = runs_one (cpu_of p k) (of_actor k steps) w.value run.0 w.runs (subst (λ l. Runs (cpu_of p k) l run.0) (sym here) run.2) in
        let first : actor_instructions p steps k ≡ run.0.instructions = cpu_count p own (length begun) steps has_limits k lt ∙ ap (λ (o : Outcome). o.instructions) one in
        let rest = cpus_count (k + 1) ts run.1 at.1 each.1 run.3 (omega (arith, e)) in
        sum_by-cons (λ (m : ℕ). m) (actor_instructions p steps k) (map (actor_instructions p steps) (range_with_len (k + 1) (length ts))) ∙ (λ i. first i + rest i) ∙ sym run.4

    pub counted : (instructions : ℕ) → instructions ≡ begin_count + count + end_count → instructions ≡ instructions_of p steps
    unfolding instructions_of
    counted instructions e =
        let cs = cpus_count 0 cpus count traces parts.each_cpu ran (omega (arith, many)) in
        let total : count ≡ sum (map (actor_instructions p steps) (range_with_len 0 n)) = sym cs ∙ ap (λ m. sum (map (actor_instructions p steps) (range_with_len 0 m))) many in
        let main : begin_count + end_count ≡ actor_instructions p steps n = sym (main_count p own (length begun) steps has_limits) in
        sum_more (actor_instructions p steps) n count instructions (begin_count + end_count) total main (omega (arith, e))
