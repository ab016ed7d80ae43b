-- What the actors of a script that only adds and prints add, each in its program.
use Rattle.std.proofs.Common.{◌≡◌, ℕ, zero, suc, ◌+◌, ◌<◌, ◌≤◌, ◌==◌, Bool, true, false, cond, if◌then◌else◌, List, [], ◌∷◌, ◌++◌, length, refl, sym, ap, ◌∙◌, subst, inl, eq-eqb, ne_eqb, arith}
use Rattle.std.specs.Prelude.{slice_get, Option, Some, None}
use Rattle.std.specs.List.{AllByRecursion, filter_map, flat_map, range_with_len}
use Rattle.std.proofs.lemmas.Option.{slice_get_past}
use mathlib.Core.Logic.{dite}
use native.Mathlib.Decide.{ℕ_discrete}
use Rattle.bt_ast.specs.declared.attached.Attached.{Attached}
use Rattle.bt_ast.specs.declared.attached.Tick.{Tick}
use Rattle.bt_core.specs.declared.context.Context.{Context}
use Rattle.bt_core.specs.declared.map.MapId.{MapId}
use Rattle.bt_core.specs.declared.step.ObjectId.TheVariants.{Clock}
use Rattle.bt_core.specs.declared.step.Op.TheVariants.{Cross}
use Rattle.bt_core.specs.declared.step.Step.{Step}
use Rattle.bt_core.specs.Interaction.{Interaction, Ended, Asks, Runs, and_then}
use Rattle.recordings.specs.declared.recording.CpuTrack.{CpuTrack}
use Rattle.recordings.specs.declared.recording.Entry.{Entry}
use Rattle.recordings.specs.declared.recording.Entry.TheVariants as entry
use Rattle.recordings.specs.declared.recording.Recording.{Recording}
use Rattle.typed_tree.specs.declared.script.Typed.{Typed}
use Rattle.actor_plan.specs.declared.agenda.AgendaItem.{AgendaItem}
use Rattle.actor_plan.specs.declared.agenda.AgendaItem.TheVariants as item
use Rattle.actor_plan.specs.declared.outcome.Outcome.{Outcome}
use Rattle.actor_plan.specs.Agendas.{agenda_of, entries_on_track, tick_place, entry_place}
use Rattle.actor_plan.specs.Contexts.{begin_context, end_context, event_context, tick_context}
use Rattle.actor_plan.specs.Programs.{in_turn, where_some, entry_work, tick_work, item_work, items_program, tells_last, bodies_at}
use Rattle.actor_plan.proofs.AgendaFacts.{agenda_holds}
use Rattle.bt_meaning.specs.Interleavings.{IsWhole}
use Rattle.bt_meaning.specs.Jobs.{IsJob}
use Rattle.bt_meaning.specs.Replays.{Replay, begin_of, cpu_of, end_of}
use Rattle.bt_meaning.specs.Ticks.{is_crossing}
use Rattle.bt_meaning.specs.Totals.{Addition, IsAggregationOnly, adds_of, tick_adds}
use Rattle.bt_meaning.specs.Walks.{replay_of}
use Rattle.bt_meaning.proofs.CrossingRuns.{occurs, occurs_beyond}
use Rattle.bt_meaning.proofs.Crossings.{marks}
use Rattle.bt_meaning.proofs.SerialLaws.{cpu_is}
use Rattle.total_laws.specs.Ends.{entries_in}
use Rattle.total_laws.proofs.Adding.{Gives, gives-then, gives_adds}
use Rattle.total_laws.proofs.Alike.{Alike, alike_same, alike_trans}
use Rattle.total_laws.proofs.Items.{IsTickBelow, AreOwn, program_own, share, program_adds, share_alike}
use Rattle.total_laws.proofs.Scripts.{near_itself, runs_add}
use Rattle.total_laws.proofs.Spans.{places}
use Rattle.total_laws.proofs.Tables.{IsOwn}

pub there_is : {X : Type 0} (xs : List X) (i : ℕ) → i < length xs → (x : X) × (slice_get xs i ≡ Some x)
there_is [] i lt = absurd (omega arith)
there_is (x ∷ xs) zero lt = (x, refl)
there_is (x ∷ xs) (suc i) lt = there_is xs i (omega arith)

ticks_below : (n : ℕ) (items : List AgendaItem) → AllByRecursion (λ k. k < n) (filter_map tick_place items) → AllByRecursion (IsTickBelow n) items
ticks_below n [] h = tt
ticks_below n (item.Tick place ∷ is) h = (h.0, ticks_below n is h.1)
ticks_below n (item.Event place ∷ is) h = (tt, ticks_below n is h)
ticks_below n (item.Lost place ∷ is) h = (tt, ticks_below n is h)

range_below : (bound first n : ℕ) → first + n ≤ bound → AllByRecursion (λ k. k < bound) (range_with_len first n)
range_below bound first zero le = tt
range_below bound first (suc n) le = (omega arith, range_below bound (first + 1) n (omega arith))

occurs_late : (k first n : ℕ) → k < first → occurs k (range_with_len first n) ≡ 0
occurs_late k first zero lt = refl
occurs_late k first (suc n) lt =
    let none : cond {A = ℕ} (first == k) 1 0 ≡ 0 = ap (λ (b : Bool). cond b 1 0) (ne_eqb first k (λ e. omega arith)) in
    let rest = occurs_late k (first + 1) n (omega arith) in omega arith

occurs_in : (k first n : ℕ) → first ≤ k → k < first + n → occurs k (range_with_len first n) ≡ 1
occurs_in k first zero le lt = absurd (omega arith)
occurs_in k first (suc n) le lt = dite (ℕ_discrete first k)
    (λ e. let one : cond {A = ℕ} (first == k) 1 0 ≡ 1 = ap (λ (b : Bool). cond b 1 0) (eq-eqb first k e) in
    let rest = occurs_late k (first + 1) n (omega arith) in omega arith)
    (λ ne. let none : cond {A = ℕ} (first == k) 1 0 ≡ 0 = ap (λ (b : Bool). cond b 1 0) (ne_eqb first k ne) in
    let rest = occurs_in k (first + 1) n (omega arith) (omega arith) in omega arith)

module _ (script : Typed) (attached : Attached) (r : Recording) (job : IsJob script attached r) (only : IsAggregationOnly script) (m : MapId) where
  abbrev p : Replay
  p = replay_of script attached r

  abbrev pub n : ℕ
  n = length r.cpus

  abbrev pub tick_count : ℕ
  tick_count = length attached.ticks

  -- what it adds where every answer is that it is done, it adds whatever is replied
  abbrev pub Surely : ℕ → Interaction ℕ → Type 0
  Surely a t = Gives m a (adds_of m t) (λ count. Unit {0}) t

  surely : (a : ℕ) (es : List Addition) (t : Interaction ℕ) → Gives m a es (λ count. Unit {0}) t → Surely a t
  surely a es t g = subst (λ (l : List Addition). Gives m a l (λ count. Unit {0}) t) (sym (gives_adds m a es (λ count. Unit {0}) t g)) g

  abbrev run : ℕ → ℕ → Context → List ℕ → Interaction ℕ
  run a body context payload = (p.plan a).run body context payload

  run_surely : (a body : ℕ) (context : Context) (payload : List ℕ) → Surely a (run a body context payload)
  run_surely a body context payload =
      let x = runs_add script only m context context (near_itself context) payload a a (n + 1) body (slice_get script.bodies body) refl (λ b e. inl refl) in
      surely a x.entries (run a body context payload) x.first

  turn_some : (a : ℕ) (f : ℕ → Interaction ℕ) → ((b : ℕ) → Surely a (f b)) → (bodies : List ℕ) → (es : List Addition) × Gives m a es (λ count. Unit {0}) (in_turn f bodies)
  turn_some a f each [] = ([], (refl, tt))
  turn_some a f each (b ∷ bs) = let x = turn_some a f each bs in (
    adds_of m (f b) ++ (x.0 ++ []),
    gives-then m a (adds_of m (f b)) (x.0 ++ []) (λ count. Unit {0}) (λ count. Unit {0}) (f b) (λ count. and_then (in_turn f bs) (λ rest. Ended (count + rest))) (each b)
        (λ count h. gives-then m a x.0 [] (λ c. Unit {0}) (λ c. Unit {0}) (in_turn f bs) (λ rest. Ended (count + rest)) x.1 (λ rest i. (refl, tt))),
  )

  turn_surely : (a : ℕ) (f : ℕ → Interaction ℕ) → ((b : ℕ) → Surely a (f b)) → (bodies : List ℕ) → Surely a (in_turn f bodies)
  turn_surely a f each bodies = let x = turn_some a f each bodies in surely a x.0 (in_turn f bodies) x.1

  pub begin_surely : Surely n (begin_of p)
  begin_surely = turn_surely n (λ body. run n body (begin_context r) []) (λ body. run_surely n body (begin_context r) []) attached.begin

  pub end_surely : Surely n (end_of p)
  end_surely = turn_surely n (λ body. run n body (end_context r) []) (λ body. run_surely n body (end_context r) []) attached.end

  -- what the events of a CPU add, if it is there, and what a tick adds on it
  abbrev pub events_at : ℕ → Option CpuTrack → List Addition
  events_at a None = []
  events_at a (Some track) = flat_map (λ e. adds_of m (entry_work (p.plan a) r attached track e)) track.entries

  abbrev pub tick_at : Option Tick → ℕ → List Addition
  tick_at None a = []
  tick_at (Some t) a = tick_adds p m t a (slice_get r.cpus a)

  pub tick_nowhere : (o : Option Tick) (a : ℕ) → n ≤ a → tick_at o a ≡ []
  tick_nowhere None a le = refl
  tick_nowhere (Some t) a le = ap (tick_adds p m t a) (slice_get_past r.cpus a le)

  module _ (a : ℕ) (lt : a < n) (track : CpuTrack) (there : slice_get r.cpus a ≡ Some track) where
    abbrev work : AgendaItem → Interaction ℕ
    work = item_work (p.plan a) r attached track

    entry_surely : (o : Option Entry) → Surely a (where_some (entry_work (p.plan a) r attached track) o)
    entry_surely None = (refl, tt)
    entry_surely (Some (entry.Lost time count)) = (tt, [], refl, λ reply. (refl, tt))
    entry_surely (Some (entry.Event e)) = turn_surely a (λ body. run a body (event_context r track e) e.payload)
        (λ body. run_surely a body (event_context r track e) e.payload) (bodies_at (p.plan a) r attached e)

    abbrev by_entry : ℕ → List Addition
    by_entry place = adds_of m (work (item.Event place))

    abbrev body_at : Option Tick → Interaction ℕ
    body_at None = Ended 0
    body_at (Some t) = run a t.body (tick_context r track t) []

    abbrev body : ℕ → Interaction ℕ
    body place = body_at (slice_get attached.ticks place)

    abbrev by_tick : ℕ → List Addition
    by_tick place = tick_at (slice_get attached.ticks place) a

    tick_gives : (o : Option Tick) → Gives m a (tick_at o a) (λ count. Unit {0}) (body_at o)
    tick_gives None = (refl, tt)
    tick_gives (Some t) = subst (λ (c : Option CpuTrack). Gives m a (tick_adds p m t a c) (λ count. Unit {0}) (run a t.body (tick_context r track t) []))
        (sym there) (run_surely a t.body (tick_context r track t) [])

    crosses : (place : ℕ) → place < tick_count
        → work (item.Tick place) ≡ Asks (record { object = Clock; op = Cross place }) (λ reply. if tells_last reply then body place else Ended 0)
    crosses place low = let t = there_is attached.ticks place low in
        subst (λ (o : Option Tick). where_some (tick_work (p.plan a) r attached track place) o
        ≡ Asks (record { object = Clock; op = Cross place }) (λ reply. if tells_last reply then body_at o else Ended 0)) (sym t.1) refl

    abbrev items : List AgendaItem
    items = agenda_of r attached a

    ticks_are : filter_map tick_place items ≡ range_with_len 0 tick_count
    ticks_are = (agenda_holds r attached a job.valid job.in_turn lt).ticks_are

    entries_are : filter_map entry_place items ≡ range_with_len 0 (length track.entries)
    entries_are = (agenda_holds r attached a job.valid job.in_turn lt).entries_are ∙ ap (λ (o : Option CpuTrack). range_with_len 0 (length (entries_on_track o))) there

    below : AllByRecursion (IsTickBelow tick_count) items
    below = ticks_below tick_count items (subst (AllByRecursion (λ k. k < tick_count)) (sym ticks_are) (range_below tick_count 0 tick_count (omega arith)))

    program_is : cpu_of p a ≡ items_program false work items
    program_is = cpu_is p job.valid job.in_turn (λ actor. refl) a track there ∙ ap (λ (b : Bool). items_program b work items) only.no_exit

    module _ (steps : List Step) (whole : IsWhole (cpu_of p a) steps) where
      runs : Runs (items_program false work items) steps whole.value
      runs = subst (λ (t : Interaction Outcome). Runs t steps whole.value) program_is whole.runs

      own_all : AreOwn m a tick_count work body by_entry by_tick crosses (λ place. entry_surely (slice_get track.entries place)) (λ place. entry_surely (slice_get track.entries place)) (λ place low. tick_gives (slice_get attached.ticks place)) items steps
      own_all = program_own m a tick_count work body by_entry by_tick crosses (λ place. entry_surely (slice_get track.entries place)) (λ place. entry_surely (slice_get track.entries place))
          (λ place low. tick_gives (slice_get attached.ticks place)) items below steps whole.value runs

      pub cpu_own : AllByRecursion (IsOwn a) steps
      cpu_own = own_all.own

      crossed_as : (k : ℕ) → marks k steps ≡ occurs k (range_with_len 0 tick_count)
      crossed_as k = own_all.crossed k ∙ ap (occurs k) ticks_are

      pub crossed_once : (k : ℕ) → k < tick_count → marks k steps ≡ 1
      crossed_once k low = crossed_as k ∙ occurs_in k 0 tick_count (omega arith) (omega (arith, low))

      pub crossed_never : (k : ℕ) → tick_count ≤ k → marks k steps ≡ 0
      crossed_never k high = crossed_as k ∙ occurs_beyond k 0 tick_count (omega (arith, high))

      -- what a CPU adds is what its events add, and the ticks that it is named for
      pub cpu_adds : (named : ℕ → ℕ) → AllByRecursion (λ s. (k : ℕ) → is_crossing k s ≡ true → tells_last s.reply ≡ (named k == a)) steps
          → Alike (entries_in m steps) (events_at a (slice_get r.cpus a) ++ flat_map (λ k. cond (named k == a) (tick_at (slice_get attached.ticks k) a) []) (range_with_len 0 tick_count))
      cpu_adds named told =
          let entries = flat_map by_entry (filter_map entry_place items) in
          let ticks = flat_map (λ k. cond (named k == a) (by_tick k) []) (filter_map tick_place items) in
          let shares : List Addition = share m a tick_count work body by_entry by_tick crosses (λ place. entry_surely (slice_get track.entries place)) (λ place. entry_surely (slice_get track.entries place)) (λ place low. tick_gives (slice_get attached.ticks place)) named items in
          let adds : entries_in m steps ≡ shares =
          program_adds m a tick_count work body by_entry by_tick crosses (λ place. entry_surely (slice_get track.entries place)) (λ place. entry_surely (slice_get track.entries place))
          (λ place low. tick_gives (slice_get attached.ticks place)) named items below steps whole.value runs told in
          let each : flat_map by_entry (range_with_len 0 (length track.entries)) ≡ flat_map (λ e. adds_of m (entry_work (p.plan a) r attached track e)) track.entries =
          places (λ q e. adds_of m (entry_work (p.plan a) r attached track e)) (λ q es. flat_map (λ e. adds_of m (entry_work (p.plan a) r attached track e)) es)
          (λ q. refl) (λ q e es. refl) by_entry track.entries 0
          (λ i e at. let zero_i : 0 + i ≡ i = omega arith in
          ap (λ (o : Option Entry). adds_of m (where_some (entry_work (p.plan a) r attached track) o)) (ap (slice_get track.entries) zero_i ∙ at)) in
          let first : entries ≡ events_at a (slice_get r.cpus a) = ap (flat_map by_entry) entries_are ∙ each ∙ ap (events_at a) (sym there) in
          let second : ticks ≡ flat_map (λ k. cond (named k == a) (by_tick k) []) (range_with_len 0 tick_count) = ap (flat_map (λ k. cond (named k == a) (by_tick k) [])) ticks_are in
          alike_trans (entries_in m steps) shares (events_at a (slice_get r.cpus a) ++ flat_map (λ k. cond (named k == a) (by_tick k) []) (range_with_len 0 tick_count))
          (alike_same (entries_in m steps) shares adds)
          (alike_trans shares (entries ++ ticks) (events_at a (slice_get r.cpus a) ++ flat_map (λ k. cond (named k == a) (by_tick k) []) (range_with_len 0 tick_count))
          (share_alike m a tick_count work body by_entry by_tick crosses (λ place. entry_surely (slice_get track.entries place)) (λ place. entry_surely (slice_get track.entries place)) (λ place low. tick_gives (slice_get attached.ticks place)) named items)
          (alike_same (entries ++ ticks) (events_at a (slice_get r.cpus a) ++ flat_map (λ k. cond (named k == a) (by_tick k) []) (range_with_len 0 tick_count)) (λ i. first i ++ second i)))
