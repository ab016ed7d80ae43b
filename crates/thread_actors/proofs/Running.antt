-- From workers that ran to what the CPUs leave.
use Rattle.std.proofs.Common.{◌≡◌, ℕ, zero, suc, max, ◌+◌, ◌<◌, List, [], ◌∷◌, length, get_or, map, sum, refl, sym, ap, ◌∙◌, subst, arith, Result, Ok, Err}
use Rattle.std.specs.Prelude.{IfOk, Option, Some, None, IsSome, IsSomeAnd, MatchResult}
use Rattle.std.proofs.lemmas.List.{length-map}
use Rattle.bt_core.specs.declared.memory.Memory.{Memory}
use Rattle.bt_core.specs.declared.step.ObjectId.{ObjectId}
use Rattle.bt_core.specs.declared.step.ObjectId.TheVariants.{Shared, Cpu, Clock, Out}
use Rattle.bt_core.specs.declared.step.Op.{Op}
use Rattle.bt_core.specs.declared.step.Step.{Step}
use Rattle.bt_core.specs.Interaction.{Runs}
use Rattle.bt_core.specs.Ports.{CanStep}
use Rattle.turn_lock.specs.History.{Each}
use Rattle.stamped.specs.declared.trace.Trace.{Trace}
use Rattle.stamped.specs.Traces.{clock_of, steps_of}
use Rattle.weave.specs.Lists.{greatest}
use Rattle.weave.specs.Traces.{floors_from}
use Rattle.actor_plan.specs.declared.outcome.Outcome.{Outcome}
use Rattle.actor_plan.specs.Plans.{Plan}
use Rattle.actor_plan.specs.Programs.{cpu_program}
use Rattle.weave.specs.Ends.{IsCpuTrace, AreCpuTraces}
use Rattle.thread_actors.specs.declared.side_by_side.Task.{Task}
use Rattle.cpu_worker.specs.declared.world.SharedWorld.{SharedWorld}
use Rattle.cpu_worker.specs.declared.world.WorkerTurns.{WorkerTurns}
use Rattle.cpu_worker.specs.Chains.{clock_after, Climbs, IsBy, HasWalked}
use Rattle.thread_actors.specs.Ran.{HasRun}
use Rattle.cpu_worker.specs.Workers.{program_in, IsReadyWorker}
use Rattle.cpu_worker.specs.Worlds.{world_cpus, sets_in, setting_in, AreTurnsOf, IsReplayable, IsPlanIn}
use Rattle.thread_actors.specs.Plans.{HavePlans}
use Rattle.thread_actors.specs.declared.tasks.Gathered.{Gathered}
use Rattle.thread_actors.specs.Acts.{replay_in, ArePlansIn, CanMake, HaveRun, HaveGone}
use Rattle.thread_actors.specs.Tasks.{count_of, IsWell, bodies_in, turns_in, trace_in, count_in, HasEnded, HasEndedWell, IsFresh}
use Rattle.thread_actors.specs.Turns.{AreUnused, AreTurnsFrom, AllOwn}
use Rattle.thread_actors.proofs.Turning.{sum_first, each_so, own_new, own_kept}

pub climbs_greatest : (clock : ℕ) (ss : List Step) → Climbs clock ss → clock_after clock ss ≡ max clock (greatest ss)
climbs_greatest clock [] h = omega arith
climbs_greatest clock (s ∷ ss) h = let r = climbs_greatest s.stamp ss h.1 in let lt : clock < s.stamp = h.0 in omega arith

-- whoever makes a step, it can be made
pub can_any : (world : SharedWorld) (a b : ℕ) (o : ObjectId) (op : Op) → CanStep (setting_in world a) o op → CanStep (setting_in world b) o op
can_any world a b (Shared m p) op h = h
can_any world a b (Cpu c) op h = h
can_any world a b Clock op h = h
can_any world a b Out op h = h

pub can_make : (world : SharedWorld) (a : ℕ) (ss : List Step) → Each (IsBy (setting_in world a)) ss → Each (λ (s : Step). CanStep (setting_in world 0) s.object s.op) ss
can_make world a ss h = each_so (IsBy (setting_in world a)) (λ (s : Step). CanStep (setting_in world 0) s.object s.op) (λ s b. can_any world a 0 s.object s.op b.can) ss h

-- how a run ended that ended well
ended_well : (P : Outcome → Type 0) (Q : Memory → Type 0) (r : Option (Result Outcome Memory)) → IsWell r → IsSomeAnd r (λ e. MatchResult e P Q) → (o : Outcome) × P o × (count_of r ≡ o.instructions)
ended_well P Q None well h = absurd well
ended_well P Q (Some (Ok o)) well h = (o, h, refl)
ended_well P Q (Some (Err e)) well h = absurd well

some_and : {T : Type 0} (P : T → Type 0) (r : Option T) → IsSomeAnd r P → IsSome r
some_and P None h = absurd h
some_and P (Some x) h = refl

-- workers that can run, in a list that is the same
pub ready_in : {B G : Type 0} (plan : B → Plan) (world : SharedWorld) (tasks same : List (Task B G)) → same ≡ tasks
    → ((i : ℕ) (d : Task B G) → i < length tasks → IsReadyWorker plan world (get_or tasks i d).worker)
    → (i : ℕ) (d : Task B G) → i < length same → IsReadyWorker plan world (get_or same i d).worker
ready_in {B} {G} plan world tasks same e h = subst (λ (l : List (Task B G)). (i : ℕ) (d : Task B G) → i < length l → IsReadyWorker plan world (get_or l i d).worker) (sym e) h

-- workers that ran have kept how that ended
pub all_ended : {B G : Type 0} (plan : B → Plan) (world : SharedWorld) (olds news : List (Task B G)) → length news ≡ length olds
    → ((i : ℕ) (d : Task B G) → i < length olds → HasRun plan world (get_or olds i d) (get_or news i d)) → Each HasEnded news
all_ended plan world [] [] long ran = tt
all_ended plan world [] (v ∷ vs) long ran = absurd (omega (arith, long))
all_ended plan world (t ∷ ts) [] long ran = absurd (omega (arith, long))
all_ended plan world (t ∷ ts) (v ∷ vs) long ran =
    (some_and _ v.ended (ran 0 t (omega arith)).ended, all_ended plan world ts vs (omega (arith, long)) (λ i d lt. ran (suc i) d (omega (arith, lt))))

module _ (world : SharedWorld) (clock : ℕ) (plans : ℕ → Plan) where
  -- what the CPUs from this one on leave
  pub record Gone (k : ℕ) (ws : List WorkerTurns) (ts : List Trace) (count : ℕ) : Type 0 where
    pub turns : AreTurnsFrom (sets_in world) k ws
    pub own : AllOwn (sets_in world) ws ts
    pub traces : AreCpuTraces clock k ts
    pub can : Each (CanMake world) ts
    pub ran : HaveRun (replay_in world plans) k ts count

  cpu_trace : (cpu k start : ℕ) (t : Trace) → cpu ≡ k → start ≡ clock → HasWalked (setting_in world cpu) start t → IsCpuTrace clock k t
  cpu_trace cpu k start t e at w = record {
    actor = w.actor ∙ e;
    own = each_so (IsBy (setting_in world cpu)) (λ s. s.actor ≡ k) (λ s b. b.actor ∙ e) (steps_of t) w.by;
    floors = w.floors ∙ ap (λ c. floors_from c (steps_of t)) at;
    ends = w.ends ∙ ap (λ c. clock_after c (steps_of t)) at ∙ climbs_greatest clock (steps_of t) (subst (λ c. Climbs c (steps_of t)) at w.climbs);
  }

module _ {B G : Type 0} (plan : B → Plan) (world : SharedWorld) (clock : ℕ) where
  -- each worker can run
  pub all_ready : (k : ℕ) (tasks : List (Task B G)) → IsReplayable world → Each (IsFresh clock) tasks → AreTurnsFrom (sets_in world) k (map turns_in tasks) → k + length tasks ≡ world_cpus world
      → ((i : ℕ) (d : Task B G) → i < length tasks → IsPlanIn world (k + i) (plan (get_or tasks i d).worker.bodies))
      → (i : ℕ) (d : Task B G) → i < length tasks → IsReadyWorker plan world (get_or tasks i d).worker
  all_ready k [] replay fresh turns many plans i d lt = absurd (omega (arith, lt))
  all_ready k (t ∷ ts) replay fresh turns many plans zero d lt =
      let cpu : t.worker.cpu ≡ k = fresh.0.cpu ∙ turns.0.by.tables in record {
        replay = replay;
        known = omega (arith, cpu, many);
        turns_are = subst (λ a. AreTurnsOf (sets_in world) a t.worker.turns) (sym cpu) turns.0;
        actor = fresh.0.actor;
        empty = fresh.0.empty;
        plan_is = subst (λ a. IsPlanIn world a (plan t.worker.bodies)) (let q : k + 0 ≡ t.worker.cpu = omega (arith, cpu) in q) (plans 0 d (omega arith));
      }
  all_ready k (t ∷ ts) replay fresh turns many plans (suc i) d lt =
      all_ready (k + 1) ts replay fresh.1 turns.1 (omega (arith, many))
      (λ j e q. subst (λ a. IsPlanIn world a (plan (get_or ts j e).worker.bodies)) (let z : k + suc j ≡ k + 1 + j = omega arith in z) (plans (suc j) e (omega (arith, q)))) i d (omega (arith, lt))

  module _ (plans : ℕ → Plan) where
    pub all_gone : (k : ℕ) (olds news : List (Task B G)) → length news ≡ length olds → Each (IsFresh clock) olds → AreTurnsFrom (sets_in world) k (map turns_in olds) → Each AreUnused (map turns_in olds)
        → ((i : ℕ) (d : Task B G) → i < length olds → HasRun plan world (get_or olds i d) (get_or news i d))
        → ((i : ℕ) (d : Task B G) → i < length olds → plan (get_or olds i d).worker.bodies ≡ plans (k + i)) → Each HasEndedWell news
        → Gone world clock plans k (map turns_in news) (map trace_in news) (sum (map count_in news))
    all_gone k [] [] long fresh turns unused ran told well = record { turns = tt; own = tt; traces = tt; can = tt; ran = refl }
    all_gone k [] (v ∷ vs) long fresh turns unused ran told well = absurd (omega (arith, long))
    all_gone k (t ∷ ts) [] long fresh turns unused ran told well = absurd (omega (arith, long))
    all_gone k (t ∷ ts) (v ∷ vs) long fresh turns unused ran told well =
        let r : HasRun plan world t v = ran 0 t (omega arith) in
        let cpu : t.worker.cpu ≡ k = fresh.0.cpu ∙ turns.0.by.tables in
        let rest = all_gone (k + 1) ts vs (omega (arith, long)) fresh.1 turns.1 unused.1 (λ i d lt. ran (suc i) d (omega (arith, lt)))
        (λ i d lt. told (suc i) d (omega (arith, lt)) ∙ ap plans (let z : k + suc i ≡ k + 1 + i = omega arith in z)) well.1 in
        let ended = ended_well (λ o. Runs (program_in plan world t.worker) (steps_of v.worker.trace) o) _ v.ended well.0 r.ended in
        let program : plan t.worker.bodies ≡ plans k = told 0 t (omega arith) ∙ ap plans (let z : k + 0 ≡ k = omega arith in z) in
        record {
          turns = (subst (λ a. AreTurnsOf (sets_in world) a v.worker.turns) cpu r.turns_are, rest.turns);
          own = (own_kept (sets_in world) t.worker.turns v.worker.turns t.worker.trace v.worker.trace r.own (own_new (sets_in world) t.worker.turns t.worker.trace unused.0 fresh.0.empty), rest.own);
          traces = (cpu_trace world clock plans t.worker.cpu k (clock_of t.worker.trace) v.worker.trace cpu fresh.0.clock_is r.walked, rest.traces);
          can = (can_make world t.worker.cpu (steps_of v.worker.trace) r.walked.by, rest.can);
          ran = (
            ended.0,
            sum (map count_in vs),
            subst (λ (q : Plan). Runs (cpu_program q world.typed.now.uses_exit world.recording.now world.attached.now) (steps_of v.worker.trace) ended.0) program ended.1,
            rest.ran,
            sum_first (count_in v) (map count_in vs) ∙ ap (λ n. n + sum (map count_in vs)) ended.2,
          );
        }

get_mapped : {A B : Type 0} (f : A → B) (xs : List A) (i : ℕ) (d : A) (e : B) → i < length xs → get_or (map f xs) i e ≡ f (get_or xs i d)
get_mapped f [] i d e lt = absurd (omega (arith, lt))
get_mapped f (x ∷ xs) zero d e lt = refl
get_mapped f (x ∷ xs) (suc i) d e lt = get_mapped f xs i d e (omega (arith, lt))

pub by_result : {A : Type 0} (r : Result A Memory) (P Q R S T : A → Type 0) → IfOk r P → IfOk r Q → IfOk r R → IfOk r S → ((x : A) → P x → Q x → R x → S x → T x) → IfOk r T
by_result (Ok x) P Q R S T p q r s f = f x p q r s
by_result (Err e) P Q R S T p q r s f = tt

module _ {B G : Type 0} (plan : B → Plan) (world : SharedWorld) (clock : ℕ) (bodies : List B) (turns : List WorkerTurns) (olds : List (Task B G))
    (bodies_are : map bodies_in olds ≡ bodies) (turns_are : map turns_in olds ≡ turns) (fresh : Each (IsFresh clock) olds) (from : AreTurnsFrom (sets_in world) 0 turns) where
  pub tasks_long : length olds ≡ length bodies
  tasks_long = sym (length-map olds bodies_in) ∙ ap length bodies_are

  turns_from : AreTurnsFrom (sets_in world) 0 (map turns_in olds)
  turns_from = subst (AreTurnsFrom (sets_in world) 0) (sym turns_are) from

  body_at : (i : ℕ) (d : Task B G) → i < length olds → get_or bodies i d.worker.bodies ≡ (get_or olds i d).worker.bodies
  body_at i d lt = ap (λ l. get_or l i d.worker.bodies) (sym bodies_are) ∙ get_mapped bodies_in olds i d d.worker.bodies lt

  pub tasks_ready : IsReplayable world → ArePlansIn plan world bodies → length bodies ≡ world_cpus world → (i : ℕ) (d : Task B G) → i < length olds → IsReadyWorker plan world (get_or olds i d).worker
  tasks_ready replay plans many i d lt = all_ready plan world clock 0 olds replay fresh turns_from (let e = tasks_long in omega (arith, e, many))
      (λ j e q. subst (λ a. IsPlanIn world a (plan (get_or olds j e).worker.bodies)) (let z : j ≡ 0 + j = omega arith in z)
      (subst (λ b. IsPlanIn world j (plan b)) (body_at j e q) (plans j e.worker.bodies (let l = tasks_long in omega (arith, l, q))))) i d lt

  pub tasks_gone : Each AreUnused turns → length bodies ≡ world_cpus world → (news : List (Task B G)) → length news ≡ length olds
      → ((i : ℕ) (d : Task B G) → i < length olds → HasRun plan world (get_or olds i d) (get_or news i d)) → (all : Gathered) → all.turns.items ≡ map turns_in news → all.traces.items ≡ map trace_in news
      → all.instructions ≡ sum (map count_in news) → Each HasEndedWell news → (plans : ℕ → Plan) → HavePlans plan (world_cpus world) plans bodies → HaveGone (replay_in world plans) world clock all
  tasks_gone unused many news long ran all ts trs is well plans have =
      let g = all_gone plan world clock plans 0 olds news long fresh turns_from (subst (Each AreUnused) (sym turns_are) unused) ran
      (λ i d lt. ap plan (sym (body_at i d lt)) ∙ have.each i d.worker.bodies (let l = tasks_long in omega (arith, l, lt)) ∙ ap plans (let z : i ≡ 0 + i = omega arith in z)) well in record {
        many = ap length trs ∙ length-map news trace_in ∙ long ∙ tasks_long ∙ many;
        turns = subst (AreTurnsFrom (sets_in world) 0) (sym ts) g.turns;
        own = subst (λ (z : List WorkerTurns × List Trace). AllOwn (sets_in world) z.0 z.1) (λ i. (sym ts i, sym trs i)) g.own;
        traces = subst (AreCpuTraces clock 0) (sym trs) g.traces;
        can = subst (Each (CanMake world)) (sym trs) g.can;
        ran = subst (λ (z : List Trace × ℕ). HaveRun (replay_in world plans) 0 z.0 z.1) (λ i. (sym trs i, sym is i)) g.ran;
      }
