-- Items of a run, one after the other.
use Rattle.std.proofs.Common.{◌≡◌, ℕ, zero, suc, ◌+◌, ◌<◌, Bool, true, false, if◌then◌else◌, List, [], ◌∷◌, ◌++◌, length, map, drop, slice_index_or, slice_set, refl, sym, ap, ◌∙◌, subst, arith}
use Rattle.std.specs.Prelude.{replicate, Some, slice_get}
use Rattle.std.specs.List.{AllByRecursion}
use Rattle.std.proofs.lemmas.List.{drop_all, drop-append-le}
use Rattle.bt_core.specs.declared.step.Step.{Step}
use Rattle.bt_core.specs.Interaction.{Interaction, Whole}
use Rattle.bt_core.specs.Steps.{RepliesFollow}
use Rattle.recordings.specs.declared.recording.CpuTrack.{CpuTrack}
use Rattle.turn_lock.specs.History.{Each}
use Rattle.weave.specs.Woven.{StampsFollow, StandsBetween}
use Rattle.actor_plan.specs.declared.agenda.AgendaItem.{AgendaItem}
use Rattle.actor_plan.specs.declared.outcome.Outcome.{Outcome}
use Rattle.actor_plan.specs.Plans.{Plan}
use Rattle.actor_plan.specs.Programs.{items_program, item_work}
use Rattle.actor_plan.specs.Ready.{IsReady}
use Rattle.bt_meaning.specs.declared.schedule.Scheduled.{Scheduled}
use Rattle.bt_meaning.specs.Replays.{Replay, answers_of, begin_of, end_of}
use Rattle.bt_meaning.specs.Schedules.{serial_order, cpu_of_due, item_of_due}
use Rattle.bt_meaning.specs.Serial.{unstamped, then_steps, then_value, alone, alone_on, taken, begun_steps, taken_steps, serial_steps}
use Rattle.run_output.specs.declared.job.Job.{Job}
use Rattle.run_objects.specs.declared.closed.Closed.{Closed}
use Rattle.run_objects.specs.declared.objects.Objects.{Objects}
use Rattle.run_objects.specs.Closed.{MapsStand}
use Rattle.run_objects.specs.Objects.{Stand}
use Rattle.bt_run.specs.Counts.{taken_count, TakesNext}
use Rattle.run_output.specs.Jobs.{cpus_in, replay_with, world_for, CanRunAll}
use Rattle.bt_run.specs.Made.{IsMade}
use Rattle.bt_run.specs.Runs.{Seen, IsSeen, IsRunOf, IsLeft}
use Rattle.run_objects.specs.Worlds.{World, setting_in, answers}
use Rattle.bt_meaning.proofs.Stepping.{takes_made, unstamped_length}

drop_own : (a b : List Step) → drop (length a) (a ++ b) ≡ b
drop_own a b = drop-append-le (length a) a b (omega arith) ∙ ap (λ l. l ++ b) (drop_all (length a) a (omega arith))

pub each_recursion : {A : Type 0} (P : A → Type 0) (xs : List A) → Each P xs → AllByRecursion P xs
each_recursion P [] h = tt
each_recursion P (x ∷ xs) h = (h.0, each_recursion P xs h.1)

-- a CPU that goes on is one of those that the list tells of
pub goes_within : (going : List Bool) (cpu : ℕ) → slice_index_or going cpu false ≡ true → cpu < length going
goes_within [] cpu e = absurd (let q : ⊥ = cc in q)
goes_within (b ∷ bs) zero e = omega arith
goes_within (b ∷ bs) (suc n) e = let r = goes_within bs n e in omega arith

module _ (job : Job) (plans : ℕ → Plan) where
  abbrev P : Replay
  P = replay_with job plans

  -- an actor's bodies can be run through a port that makes its steps
  pub ready : CanRunAll job plans → (actor : ℕ) (w : World) (plan : Plan) → w ≡ world_for job → plan ≡ plans actor → IsReady plan job.recording job.attached (setting_in w actor)
  ready can actor w plan e f = subst (λ (z : World × Plan). IsReady z.1 job.recording job.attached (setting_in z.0 actor)) (λ i. (sym e i, sym f i)) (let of = can.plans_are actor in record {
    valid = can.replay.valid;
    bodies = of.bodies;
    served = record { actor = sym of.actor_is; actors = sym of.actors; maps = of.served };
    ticks = refl;
    takes_few = of.takes_few;
    few_at_events = can.replay.few_at_events;
    few_begin = can.replay.few_begin;
    few_end = can.replay.few_end;
  })

  -- what one actor did in its turn
  pub taken_now : {A : Type 0} (t : Interaction A) (old new : Seen) (v : A) → IsSeen new → new.world ≡ world_for job → new.turn.start ≡ length old.steps → Whole t old.steps new.steps v
      → (then_steps P new.turn.actor t (map unstamped old.steps) ≡ map unstamped new.steps) × (then_value P new.turn.actor t (map unstamped old.steps) ≡ v)
  taken_now t old new v seen world begins w =
      let made : drop new.turn.start new.steps ≡ w.made = (λ i. drop (begins i) (w.grew i)) ∙ drop_own old.steps w.made in
      let by : Each (λ (s : Step). s.actor ≡ new.turn.actor) w.made = subst (Each (λ (s : Step). s.actor ≡ new.turn.actor)) made seen.run.turn_is.own in
      let follow : RepliesFollow (answers_of P) (old.steps ++ w.made) = subst (λ (z : World × List Step). RepliesFollow (answers z.0) z.1) (λ i. (world i, w.grew i)) seen.run.replies in
      let r = takes_made P new.turn.actor t old.steps w.made v w.runs (each_recursion (λ (s : Step). s.actor ≡ new.turn.actor) w.made by) follow in
      (r.0 ∙ ap (map unstamped) (sym w.grew), r.1)

  -- the same, by the actor's number
  pub taken_by : {A : Type 0} (actor : ℕ) (t : Interaction A) (old new : Seen) (v : A) → IsSeen new → new.world ≡ world_for job → new.turn.start ≡ length old.steps → new.turn.actor ≡ actor → Whole t old.steps new.steps v
      → (then_steps P actor t (map unstamped old.steps) ≡ map unstamped new.steps) × (then_value P actor t (map unstamped old.steps) ≡ v)
  taken_by actor t old new v seen world begins e w =
      subst (λ a. (then_steps P a t (map unstamped old.steps) ≡ map unstamped new.steps) × (then_value P a t (map unstamped old.steps) ≡ v)) e (taken_now t old new v seen world begins w)

  module _ (s : Scheduled) (going : List Bool) (before : List Step) where
    abbrev cpu : ℕ
    cpu = cpu_of_due s.due

    abbrev one : Interaction Outcome
    one = alone P cpu (item_of_due s.due)

    pub item_taken : slice_index_or going (cpu_of_due s.due) false ≡ true → (after : List Step) (o : Outcome) → then_steps P (cpu_of_due s.due) (alone P (cpu_of_due s.due) (item_of_due s.due)) before ≡ after
        → then_value P (cpu_of_due s.due) (alone P (cpu_of_due s.due) (item_of_due s.due)) before ≡ o
        → TakesNext P s o.instructions going before (slice_set going (cpu_of_due s.due) o.to_end) after
    item_taken on after o e f = record {
      steps = λ rest. ap (λ (b : Bool). if b then taken P rest (slice_set going cpu (then_value P cpu one before).to_end) (then_steps P cpu one before) else taken P rest going before) on
          ∙ (λ k. taken P rest (slice_set going cpu (f k).to_end) (e k));
      counted = λ rest. ap (λ (b : Bool). if b then (then_value P cpu one before).instructions + taken_count P rest (slice_set going cpu (then_value P cpu one before).to_end) (then_steps P cpu one before) else taken_count P rest going before) on
          ∙ (λ k. (f k).instructions + taken_count P rest (slice_set going cpu (f k).to_end) (e k));
    }

    pub item_passed : slice_index_or going (cpu_of_due s.due) false ≡ false → TakesNext P s 0 going before going before
    item_passed off = record {
      steps = λ rest. ap (λ (b : Bool). if b then taken P rest (slice_set going cpu (then_value P cpu one before).to_end) (then_steps P cpu one before) else taken P rest going before) off;
      counted = λ rest. ap (λ (b : Bool). if b then (then_value P cpu one before).instructions + taken_count P rest (slice_set going cpu (then_value P cpu one before).to_end) (then_steps P cpu one before) else taken_count P rest going before) off
          ∙ (let n = taken_count P rest going before in omega arith);
    }

  -- the item's program alone
  pub alone_is : (cpu : ℕ) (i : AgendaItem) (track : CpuTrack) (plan : Plan) → slice_get job.recording.cpus cpu ≡ Some track → plan ≡ plans cpu
      → items_program job.typed.uses_exit (item_work plan job.recording job.attached track) (i ∷ []) ≡ alone P cpu i
  alone_is cpu i track plan e f = ap (λ x. items_program job.typed.uses_exit (item_work x job.recording job.attached track) (i ∷ [])) f ∙ sym (ap (alone_on P cpu i) e)

  -- one item more
  pub loop_steps : (old rest : List Scheduled) (s : Scheduled) (count : ℕ) (going next : List Bool) (before after all : List Step) → old ≡ s ∷ rest
      → TakesNext P s count going before next after → taken P old going before ≡ all → taken P rest next after ≡ all
  loop_steps old rest s count going next before after all came t left =
      sym (t.steps rest) ∙ sym (ap (λ l. taken P l going before) came) ∙ left

  pub loop_counts : (old rest : List Scheduled) (s : Scheduled) (count total new : ℕ) (going next : List Bool) (before after : List Step) (all : ℕ) → old ≡ s ∷ rest
      → TakesNext P s count going before next after → new ≡ total + count → total + taken_count P old going before ≡ all
      → new + taken_count P rest next after ≡ all
  loop_counts old rest s count total new going next before after all came t e left =
      let f = t.counted rest in
      let g = ap (λ l. taken_count P l going before) came in
      let now = taken_count P rest next after in
      let whole = taken_count P (s ∷ rest) going before in
      let was = taken_count P old going before in omega arith

  -- BEGIN, the items and END together
  pub all_made : (order : List Scheduled) (objects : Objects) (closed : Closed) (seen : Seen) (s1 s2 steps : List Step) (b c e n : ℕ) → order ≡ serial_order job.recording job.attached
      → then_steps P (cpus_in job) (begin_of P) [] ≡ map unstamped s1 → b ≡ then_value P (cpus_in job) (begin_of P) []
      → taken P order (replicate (cpus_in job) true) (map unstamped s1) ≡ map unstamped s2 → c ≡ taken_count P order (replicate (cpus_in job) true) (map unstamped s1)
      → then_steps P (cpus_in job) (end_of P) (map unstamped s2) ≡ map unstamped seen.steps → e ≡ then_value P (cpus_in job) (end_of P) (map unstamped s2)
      → n ≡ b + c + e → seen.turn.begun ≡ length s1 → seen.world ≡ world_for job → IsLeft seen objects steps
      → ((w : World) (made : List Step) → Stand w made objects → MapsStand w made closed) → IsMade job plans closed steps n
  unfolding serial_steps
  all_made order objects closed seen s1 s2 steps b c e n o begins b_is middle c_is ends e_is sum begun world left closes =
      let taken_is : taken_steps P ≡ map unstamped s2 = (λ k. taken P (sym o k) (replicate (cpus_in job) true) (begins k)) ∙ middle in
      let run = subst (λ (z : World × List Step). IsRunOf z.0 objects left.lasts left.top z.1 seen.turn) (λ k. (world k, sym left.same k)) left.run in
      let count : seen.turn.begun ≡ length (begun_steps P) = begun ∙ sym (ap length begins ∙ unstamped_length s1) in record {
        is_serial = ap (then_steps P (cpus_in job) (end_of P)) taken_is ∙ ends ∙ ap (map unstamped) (sym left.same);
        counted = sum ∙ (λ k. b_is k + (c_is ∙ (λ i. taken_count P (o i) (replicate (cpus_in job) true) (sym begins i))) k + (e_is ∙ ap (then_value P (cpus_in job) (end_of P)) (sym taken_is)) k);
        stand = closes (world_for job) steps run.stand;
        possible = run.possible;
        actors = run.actors;
        replies = run.replies;
        stamps = subst (λ k. StampsFollow (cpus_in job) k steps) count run.stamps;
        between = subst (λ k. StandsBetween (cpus_in job) k steps) count run.between;
      }

-- what a port keeps
pub world_same : (a b : World) (m n : ℕ) → setting_in a m ≡ setting_in b n → a ≡ b
world_same a b m n e = let c : a.cpus + 1 ≡ b.cpus + 1 = ap (λ s. s.actors) e in let d : a.cpus ≡ b.cpus = omega arith in
    λ i. record { cpus = d i; ticks = (e i).ticks; maps = (e i).maps }

module _ (job : Job) (plans : ℕ → Plan) where
  -- the item's turn
  pub next_by : (s : Scheduled) (old turned new : Seen) (cpu : ℕ) (plan : Plan) (track : CpuTrack) (i : AgendaItem) (going : List Bool) (o : Outcome)
      → cpu ≡ cpu_of_due s.due → i ≡ item_of_due s.due → slice_index_or going cpu false ≡ true → slice_get job.recording.cpus cpu ≡ Some track → plan ≡ plans cpu
      → turned.steps ≡ old.steps → turned.turn.actor ≡ cpu → turned.turn.start ≡ length old.steps → turned.world ≡ world_for job
      → IsSeen new → setting_in new.world new.turn.actor ≡ setting_in turned.world turned.turn.actor → new.turn ≡ turned.turn
      → Whole (items_program job.typed.uses_exit (item_work plan job.recording job.attached track) (i ∷ [])) turned.steps new.steps o
      → TakesNext (replay_with job plans) s o.instructions going (map unstamped old.steps) (slice_set going cpu o.to_end) (map unstamped new.steps)
  next_by s old turned new cpu plan track i going o is_cpu is_item on there planned steps actor start world seen kept turn w =
      let t = alone (replay_with job plans) (cpu_of_due s.due) (item_of_due s.due) in
      let program : items_program job.typed.uses_exit (item_work plan job.recording job.attached track) (i ∷ []) ≡ t =
      alone_is job plans cpu i track plan there planned ∙ (λ k. alone (replay_with job plans) (is_cpu k) (is_item k)) in
      let whole : Whole t old.steps new.steps o = subst (λ (z : Interaction Outcome × List Step). Whole z.0 z.1 new.steps o) (λ k. (program k, steps k)) w in
      let r = taken_by job plans (cpu_of_due s.due) t old new o seen (world_same new.world turned.world new.turn.actor turned.turn.actor kept ∙ world)
      (ap (λ u. u.start) turn ∙ start) (ap (λ u. u.actor) turn ∙ actor ∙ is_cpu) whole in
      subst (λ n. TakesNext (replay_with job plans) s o.instructions going (map unstamped old.steps) (slice_set going n o.to_end) (map unstamped new.steps)) (sym is_cpu)
      (item_taken job plans s going (map unstamped old.steps) (ap (λ n. slice_index_or going n false) (sym is_cpu) ∙ on) (map unstamped new.steps) o r.0 r.1)

  -- the main actor's turns
  pub main_by : (program : Plan → Interaction ℕ) (old turned new : Seen) (plan : Plan) (v : ℕ) → plan ≡ plans (cpus_in job)
      → turned.steps ≡ old.steps → turned.turn.actor ≡ cpus_in job → turned.turn.start ≡ length old.steps → turned.world ≡ world_for job
      → IsSeen new → setting_in new.world new.turn.actor ≡ setting_in turned.world turned.turn.actor → new.turn ≡ turned.turn
      → Whole (program plan) turned.steps new.steps v
      → (then_steps (replay_with job plans) (cpus_in job) (program (plans (cpus_in job))) (map unstamped old.steps) ≡ map unstamped new.steps)
      × (then_value (replay_with job plans) (cpus_in job) (program (plans (cpus_in job))) (map unstamped old.steps) ≡ v)
  main_by program old turned new plan v planned steps actor start world seen kept turn w =
      let whole : Whole (program (plans (cpus_in job))) old.steps new.steps v = subst (λ (z : Plan × List Step). Whole (program z.0) z.1 new.steps v) (λ k. (planned k, steps k)) w in
      taken_by job plans (cpus_in job) (program (plans (cpus_in job))) old new v seen (world_same new.world turned.world new.turn.actor turned.turn.actor kept ∙ world)
      (ap (λ u. u.start) turn ∙ start) (ap (λ u. u.actor) turn ∙ actor) whole
