-- From the main actor's trace and the CPUs' to what all actors leave.
use Rattle.std.proofs.Common.{◌≡◌, ℕ, max, ◌+◌, Result, Ok, Err, List, [], ◌∷◌, ◌++◌, length, get_or, refl, sym, ap, ◌∙◌, subst, arith}
use Rattle.std.proofs.lemmas.List.{drop_at}
use Rattle.std.specs.Prelude.{drop, IfOk}
use Rattle.std.specs.List.{remove}
use Rattle.bt_core.specs.declared.memory.Memory.{Memory}
use Rattle.bt_core.specs.declared.step.Step.{Step}
use Rattle.bt_core.specs.Interaction.{Runs}
use Rattle.turn_lock.specs.History.{Each}
use Rattle.stamped.specs.declared.trace.Trace.{Trace}
use Rattle.stamped.specs.Traces.{actor_of, clock_of, steps_of, floors_of}
use Rattle.weave.specs.Lists.{greatest}
use Rattle.weave.specs.Traces.{floors_from}
use Rattle.actor_plan.specs.Plans.{Plan}
use Rattle.actor_plan.specs.Programs.{begin_program, end_program}
use Rattle.weave.specs.Ends.{AreCpuTraces, HaveEnded, latest}
use Rattle.weave.proofs.EndedTraces.{each_both}
use Rattle.cpu_worker.specs.declared.world.SharedWorld.{SharedWorld}
use Rattle.cpu_worker.specs.declared.world.WorkerTurns.{WorkerTurns}
use Rattle.cpu_worker.specs.Chains.{IsBy}
use Rattle.cpu_worker.specs.Worlds.{world_cpus, sets_in, setting_in, AreTurnsOf, AreOwnIn, IsPlanIn}
use Rattle.thread_actors.specs.declared.main_actor.MainActor.{MainActor}
use Rattle.thread_actors.specs.declared.tasks.Gathered.{Gathered}
use Rattle.thread_actors.specs.Plans.{HavePlans}
use Rattle.thread_actors.specs.Acts.{ArePlansIn, HasDone, IsFirst, IsRaised, IsWithMain, replay_in, CanMake, HaveGone, AreDone}
use Rattle.thread_actors.specs.Turns.{AreUnused, AreTurnsFrom, AllOwn}
use Rattle.thread_actors.proofs.Running.{climbs_greatest, can_make}
use Rattle.thread_actors.proofs.Turning.{get_front, less_long, each_so, turns_more, own_both, own_long, own_new, own_kept, own_same}

same_made : (xs ys zs : List Step) → xs ++ ys ≡ xs ++ zs → ys ≡ zs
same_made xs ys zs e = sym (drop_at xs ys (length xs) refl) ∙ ap (drop (length xs)) e ∙ drop_at xs zs (length xs) refl

-- what follows at Ok from what a result has at Ok
pub if_ok_so : {A : Type 0} (P Q : A → Type 0) (r : Result A Memory) → ((x : A) → P x → Q x) → IfOk r P → IfOk r Q
if_ok_so P Q (Ok x) f h = f x h
if_ok_so P Q (Err e) f h = tt

-- the main actor's turns and its trace at four moments: empty, after BEGIN, raised, and after END
pub record Moments {B : Type 0} (plan : B → Plan) (world : SharedWorld) (plans : ℕ → Plan) (empty begun raised finished : MainActor B) (all : Gathered) (begin_count end_count : ℕ) : Type 0 where
  pub first : IsFirst (world_cpus world) empty.trace
  pub unused : AreUnused empty.turns
  pub begin_plan : plan empty.bodies ≡ plans (world_cpus world)
  pub began : HasDone plan world (begin_program (plan empty.bodies) world.recording.now world.attached.now) empty begun begin_count
  pub gone : HaveGone (replay_in world plans) world (clock_of begun.trace) all
  pub is_raised : IsRaised all.traces.items begun raised
  pub ended : HasDone plan world (end_program (plan raised.bodies) world.recording.now world.attached.now) raised finished end_count

module _ {B : Type 0} (plan : B → Plan) (world : SharedWorld) (plans : ℕ → Plan) (empty begun raised finished : MainActor B) (all : Gathered) (begin_count end_count : ℕ)
    (h : Moments plan world plans empty begun raised finished all begin_count end_count) where
  abbrev n : ℕ
  n = world_cpus world

  abbrev first : List Step
  first = h.began.whole.made

  abbrev last : List Step
  last = h.ended.whole.made

  first_is : h.began.since.made ≡ first
  first_is = same_made (steps_of empty.trace) h.began.since.made first (sym h.began.since.steps_grew ∙ h.began.whole.grew)

  last_is : h.ended.since.made ≡ last
  last_is = same_made (steps_of raised.trace) h.ended.since.made last (sym h.ended.since.steps_grew ∙ h.ended.whole.grew)

  begun_steps : steps_of begun.trace ≡ first
  begun_steps = h.began.whole.grew ∙ ap (λ l. l ++ first) h.first.empty.0

  begun_floors : floors_of begun.trace ≡ floors_from 0 first
  begun_floors = h.began.since.floors_grew ∙ (λ i. h.first.empty.1 i ++ floors_from (h.first.clock_is i) (first_is i))

  begun_clock : clock_of begun.trace ≡ greatest first
  begun_clock = h.began.since.clock ∙ climbs_greatest (clock_of empty.trace) h.began.since.made h.began.since.climbs
      ∙ (λ i. max (h.first.clock_is i) (greatest (first_is i))) ∙ (let e : max 0 (greatest first) ≡ greatest first = omega arith in e)

  finished_steps : steps_of finished.trace ≡ first ++ last
  finished_steps = h.ended.whole.grew ∙ ap (λ l. l ++ last) (h.is_raised.steps.0 ∙ begun_steps)

  turned : clock_of raised.trace ≡ max (greatest first) (latest all.traces.items)
  turned = h.is_raised.clock ∙ ap (λ c. max c (latest all.traces.items)) begun_clock

  finished_floors : floors_of finished.trace ≡ floors_from 0 first ++ floors_from (max (greatest first) (latest all.traces.items)) last
  finished_floors = h.ended.since.floors_grew ∙ (λ i. (h.is_raised.steps.1 ∙ begun_floors) i ++ floors_from (turned i) (last_is i))

  raised_by : actor_of raised.trace ≡ n
  raised_by = h.is_raised.actor ∙ h.began.actor ∙ h.first.actor_is

  finished_by : actor_of finished.trace ≡ n
  finished_by = h.ended.actor ∙ raised_by

  first_by : Each (IsBy (setting_in world n)) first
  first_by = subst (λ (z : ℕ × List Step). Each (IsBy (setting_in world z.0)) z.1) (λ i. (h.first.actor_is i, first_is i)) h.began.since.by

  last_by : Each (IsBy (setting_in world n)) last
  last_by = subst (λ (z : ℕ × List Step). Each (IsBy (setting_in world z.0)) z.1) (λ i. (raised_by i, last_is i)) h.ended.since.by

  main_by : Each (IsBy (setting_in world n)) (steps_of finished.trace)
  main_by = subst (Each (IsBy (setting_in world n))) (sym finished_steps) (each_both (IsBy (setting_in world n)) first last first_by last_by)

  have_ended : HaveEnded first last all.traces.items finished.trace
  have_ended = record {
    cpus_are = subst (λ c. AreCpuTraces c 0 all.traces.items) begun_clock h.gone.traces;
    actor = finished_by ∙ sym h.gone.many;
    own = each_so (IsBy (setting_in world n)) (λ s. s.actor ≡ length all.traces.items) (λ s b. b.actor ∙ sym h.gone.many) (steps_of finished.trace) main_by;
    steps = finished_steps;
    floors = finished_floors;
  }

  begun_turns : AreTurnsOf (sets_in world) n begun.turns
  begun_turns = subst (λ a. AreTurnsOf (sets_in world) a begun.turns) h.first.actor_is h.began.turns_are

  finished_turns : AreTurnsOf (sets_in world) n finished.turns
  finished_turns = subst (λ a. AreTurnsOf (sets_in world) a finished.turns) raised_by h.ended.turns_are

  begun_own : AreOwnIn (sets_in world) begun.turns begun.trace
  begun_own = own_kept (sets_in world) empty.turns begun.turns empty.trace begun.trace h.began.own (own_new (sets_in world) empty.turns empty.trace h.unused h.first.empty.0)

  raised_own : AreOwnIn (sets_in world) raised.turns raised.trace
  raised_own = subst (λ w. AreOwnIn (sets_in world) w raised.trace) (sym h.is_raised.turns) (own_same (sets_in world) begun.turns begun.trace raised.trace h.is_raised.steps.0 h.is_raised.steps.1 begun_own)

  begin_runs : Runs (begin_program (plans n) world.recording.now world.attached.now) first begin_count
  begin_runs = subst (λ (q : Plan). Runs (begin_program q world.recording.now world.attached.now) first begin_count) h.begin_plan h.began.whole.runs

  end_runs : Runs (end_program (plans n) world.recording.now world.attached.now) last end_count
  end_runs = subst (λ (q : Plan). Runs (end_program q world.recording.now world.attached.now) last end_count) (ap plan h.is_raised.bodies ∙ h.began.plan_kept ∙ h.begin_plan) h.ended.whole.runs

  -- what is left, where the main actor's turns and trace stand behind the CPUs'
  pub all_done : (left : Gathered) → IsWithMain finished begin_count end_count all left → AreDone (replay_in world plans) world left
  all_done left with_main = record {
    cpus = all.traces.items;
    main = finished.trace;
    traces = with_main.traces;
    many = h.gone.many;
    begun = first;
    finished = last;
    ended = have_ended;
    begin_count = begin_count;
    cpu_count = all.instructions;
    end_count = end_count;
    begin = begin_runs;
    ran = h.gone.ran;
    finish = end_runs;
    counted = with_main.counted;
    turns = subst (AreTurnsFrom (sets_in world) 0) (sym with_main.turns)
        (turns_more (sets_in world) 0 n all.turns.items finished.turns (let e = own_long (sets_in world) all.turns.items all.traces.items h.gone.own in let m = h.gone.many in omega (arith, e, m)) h.gone.turns finished_turns);
    own = subst (λ (z : List WorkerTurns × List Trace). AllOwn (sets_in world) z.0 z.1) (λ i. (sym with_main.turns i, sym with_main.traces i))
        (own_both (sets_in world) all.turns.items all.traces.items finished.turns finished.trace h.gone.own (own_kept (sets_in world) raised.turns finished.turns raised.trace finished.trace h.ended.own raised_own));
    can = subst (Each (CanMake world)) (sym with_main.traces) (each_both (CanMake world) all.traces.items (finished.trace ∷ []) h.gone.can (can_make world n (steps_of finished.trace) main_by, tt));
  }

-- ---- the last bodies are the main actor's

module _ {B : Type 0} (plan : B → Plan) (world : SharedWorld) (bodies : List B) (b : B) (long : length bodies ≡ world_cpus world + 1) (at : b ≡ get_or bodies (world_cpus world) b) where
  pub main_plan : ArePlansIn plan world bodies → IsPlanIn world (world_cpus world) (plan b)
  main_plan h = subst (λ z. IsPlanIn world (world_cpus world) (plan z)) (sym at) (h (world_cpus world) b (omega (arith, long)))

  pub main_told : (plans : ℕ → Plan) → HavePlans plan (world_cpus world + 1) plans bodies → plan b ≡ plans (world_cpus world)
  main_told plans h = ap plan at ∙ h.each (world_cpus world) b (omega (arith, long))

  pub cpu_plans : ArePlansIn plan world bodies → ArePlansIn plan world (remove bodies (world_cpus world))
  cpu_plans h i d lt = let e = less_long (world_cpus world) bodies long in
      subst (λ z. IsPlanIn world i (plan z)) (sym (get_front (world_cpus world) bodies i d long (omega (arith, e, lt)))) (h i d (omega (arith, e, lt, long)))

  pub cpu_told : (plans : ℕ → Plan) → HavePlans plan (world_cpus world + 1) plans bodies → HavePlans plan (world_cpus world) plans (remove bodies (world_cpus world))
  cpu_told plans h = let e = less_long (world_cpus world) bodies long in record {
    count = e;
    each = λ i d lt. ap plan (get_front (world_cpus world) bodies i d long (omega (arith, e, lt))) ∙ h.each i d (omega (arith, e, lt, long));
  }
