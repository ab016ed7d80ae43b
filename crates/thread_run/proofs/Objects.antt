-- From the closed objects and the traces to the woven list of all steps.
use Rattle.std.proofs.Common.{◌≡◌, ℕ, zero, suc, ◌+◌, ◌<◌, ◌||◌, Bool, true, false, List, [], ◌∷◌, ◌++◌, length, map, refl, sym, ap, ◌∙◌, subst, arith}
use Rattle.std.specs.Prelude.{Option, Some, None, IsSomeAnd, slice_get}
use Rattle.std.specs.List.Sorted.{IsPermutation}
use Rattle.std.proofs.lemmas.List.{map-append, length-map}
use Rattle.bt_core.specs.declared.map.MapDecl.{MapDecl}
use Rattle.bt_core.specs.declared.step.ObjectId.{ObjectId}
use Rattle.bt_core.specs.declared.step.ObjectId.TheVariants.{Shared, Cpu, Clock, Out}
use Rattle.bt_core.specs.declared.step.Op.{Op}
use Rattle.bt_core.specs.declared.step.Reply.{Reply}
use Rattle.bt_core.specs.declared.step.Step.{Step}
use Rattle.bt_core.specs.Ports.{CanStep, IsSharedOp, IsTableOp}
use Rattle.bt_core.specs.Steps.{is_same_object}
use Rattle.bt_core.proofs.StepLists.{is_same_object-refl}
use Rattle.agg_core.specs.Answers.{answer, kind_of_decl, shared_answer, table_answer}
use Rattle.turn_lock.specs.declared.entry.Entry.{Entry}
use Rattle.turn_lock.specs.History.{Each}
use Rattle.stamped.specs.declared.trace.Trace.{Trace}
use Rattle.stamped.specs.Numbered.{numbered}
use Rattle.stamped.specs.Rows.{Row, firsts}
use Rattle.stamped.specs.SetEnds.{IsClosed, AreClosed}
use Rattle.stamped.specs.Traces.{steps_of}
use Rattle.stamped.proofs.NumberedLemmas.{numbered_get, numbered_length}
use Rattle.step_objects.specs.declared.clock.ClockKind.{ClockKind}
use Rattle.step_objects.specs.declared.clock.TickClock.{TickClock}
use Rattle.step_objects.specs.declared.cpu.CpuTable.{CpuTable}
use Rattle.step_objects.specs.declared.out.OutLog.{OutLog}
use Rattle.step_objects.specs.declared.shared.PartKind.{PartKind}
use Rattle.step_objects.specs.declared.shared.SharedPart.{SharedPart}
use Rattle.step_objects.specs.Clocks.{clock_kind, ClockStands}
use Rattle.step_objects.specs.CpuTables.{map_at}
use Rattle.step_objects.specs.Objects.{shared_kind, SharedStands, cpu_kind, CpuStands}
use Rattle.map_ops.specs.Parts.{part_count}
use Rattle.map_ops.proofs.PartLaws.{shared_has_part}
use Rattle.shared_maps.specs.Parts.{part_at, parts_from}
use Rattle.side_locks.specs.Steps.{own_of_clock, reply_of_clock, own_of_out, reply_of_out}
use Rattle.weave.specs.Order.{InOrder}
use Rattle.weave.specs.Traces.{all_steps, AreTraces, IsHistory, HaveHistories}
use Rattle.weave.specs.Closed.{OwnRows, AreFull, Answer, paired, id_in, history_in, is_among, AreAmong}
use Rattle.weave.proofs.Closing.{one_history, histories, have_histories, all_stand}
use Rattle.weave.proofs.EndedTraces.{each_both}
use Rattle.cpu_worker.specs.declared.world.SharedWorld.{SharedWorld}
use Rattle.cpu_worker.specs.Worlds.{world_cpus, maps_in, setting_in}
use Rattle.thread_actors.specs.Acts.{CanMake}
use Rattle.thread_run.specs.Closed.{part_id, part_kind, PartsStand, TablesStand}

-- ---- which objects there are

or_true : (b : Bool) → (b || true) ≡ true
or_true true = refl
or_true false = refl

left_by : (b c d : Bool) → (b || c) ≡ true → (c ≡ true → d ≡ true) → (b || d) ≡ true
left_by true c d e f = refl
left_by false c d e f = f e

among_left : (xs ys : List ObjectId) (o : ObjectId) → is_among xs o ≡ true → is_among (xs ++ ys) o ≡ true
among_left [] ys o e = absurd (let t : ⊥ = cc in t)
among_left (x ∷ xs) ys o e = left_by (is_same_object x o) (is_among xs o) (is_among (xs ++ ys) o) e (among_left xs ys o)

among_right : (xs ys : List ObjectId) (o : ObjectId) → is_among ys o ≡ true → is_among (xs ++ ys) o ≡ true
among_right [] ys o e = e
among_right (x ∷ xs) ys o e = ap (λ c. is_same_object x o || c) (among_right xs ys o e) ∙ or_true (is_same_object x o)

among_get : (xs : List ObjectId) (k : ℕ) (o : ObjectId) → slice_get xs k ≡ Some o → is_among xs o ≡ true
among_get [] k o e = absurd (let t : ⊥ = cc in t)
among_get (x ∷ xs) zero o e = let q : x ≡ o = cc in ap (λ c. c || is_among xs o) (ap (λ y. is_same_object y o) q ∙ is_same_object-refl o)
among_get (x ∷ xs) (suc k) o e = ap (λ c. is_same_object x o || c) (among_get xs k o e) ∙ or_true (is_same_object x o)

some_is : (P : MapDecl → Type 0) (o : Option MapDecl) → IsSomeAnd o P → (d : MapDecl) × (o ≡ Some d) × P d
some_is P None h = absurd h
some_is P (Some d) h = (d, refl, h)

pub ids_map : (m : ℕ) (d : MapDecl) (ds : List MapDecl) → map part_id (parts_from m (d ∷ ds)) ≡ map part_id (numbered (part_at m d) 0 (part_count d.kind)) ++ map part_id (parts_from (m + 1) ds)
ids_map m d ds = map-append part_id (numbered (part_at m d) 0 (part_count d.kind)) (parts_from (m + 1) ds)

pub kinds_map : (m : ℕ) (d : MapDecl) (ds : List MapDecl) → map part_kind (parts_from m (d ∷ ds)) ≡ map part_kind (numbered (part_at m d) 0 (part_count d.kind)) ++ map part_kind (parts_from (m + 1) ds)
kinds_map m d ds = map-append part_kind (numbered (part_at m d) 0 (part_count d.kind)) (parts_from (m + 1) ds)

get_part : (m : ℕ) (d : MapDecl) (k n p : ℕ) → p < n → slice_get (map part_id (numbered (part_at m d) k n)) p ≡ Some (Shared (map_at m) (k + p))
get_part m d k zero p lt = absurd (omega (arith, lt))
get_part m d k (suc n) zero lt = ap (λ q. Some (Shared (map_at m) q)) (let e : k ≡ k + 0 = omega arith in e)
get_part m d k (suc n) (suc p) lt = get_part m d (k + 1) n p (omega (arith, lt)) ∙ ap (λ q. Some (Shared (map_at m) q)) (let e : k + 1 + p ≡ k + suc p = omega arith in e)

among_parts : (m : ℕ) (ds : List MapDecl) (j p : ℕ) (d : MapDecl) → slice_get ds j ≡ Some d → p < part_count d.kind → is_among (map part_id (parts_from m ds)) (Shared (map_at (m + j)) p) ≡ true
among_parts m [] j p d e lt = absurd (let t : ⊥ = cc in t)
among_parts m (c ∷ ds) zero p d e lt =
    let same : d ≡ c = cc in
    let here : slice_get (map part_id (numbered (part_at m c) 0 (part_count c.kind))) p ≡ Some (Shared (map_at (m + 0)) p) =
    get_part m c 0 (part_count c.kind) p (subst (λ (x : MapDecl). p < part_count x.kind) same lt)
    ∙ (λ i. Some (Shared (map_at ((let q : m ≡ m + 0 = omega arith in q) i)) ((let q : 0 + p ≡ p = omega arith in q) i))) in
    ap (λ l. is_among l (Shared (map_at (m + 0)) p)) (ids_map m c ds)
    ∙ among_left (map part_id (numbered (part_at m c) 0 (part_count c.kind))) (map part_id (parts_from (m + 1) ds)) (Shared (map_at (m + 0)) p)
    (among_get (map part_id (numbered (part_at m c) 0 (part_count c.kind))) p (Shared (map_at (m + 0)) p) here)
among_parts m (c ∷ ds) (suc j) p d e lt =
    ap (λ l. is_among l (Shared (map_at (m + suc j)) p)) (ids_map m c ds)
    ∙ among_right (map part_id (numbered (part_at m c) 0 (part_count c.kind))) (map part_id (parts_from (m + 1) ds)) (Shared (map_at (m + suc j)) p)
    (ap (λ k. is_among (map part_id (parts_from (m + 1) ds)) (Shared (map_at k) p)) (let q : m + suc j ≡ m + 1 + j = omega arith in q) ∙ among_parts (m + 1) ds j p d e lt)

-- the objects of so many actors and these maps
abbrev pub all_ids : List MapDecl → ℕ → List ObjectId
all_ids maps actors = map part_id (parts_from 0 maps) ++ (numbered Cpu 0 actors ++ Clock ∷ Out ∷ [])

known : (world : SharedWorld) (o : ObjectId) (op : Op) → CanStep (setting_in world 0) o op → is_among (all_ids (maps_in world) (world_cpus world + 1)) o ≡ true
known world (Shared m p) op h =
    let d = some_is _ (slice_get (maps_in world) m.0) h.1 in
    among_left (map part_id (parts_from 0 (maps_in world))) (numbered Cpu 0 (world_cpus world + 1) ++ Clock ∷ Out ∷ []) (Shared m p)
    (ap (λ k. is_among (map part_id (parts_from 0 (maps_in world))) (Shared (map_at k) p)) (let q : m.0 ≡ 0 + m.0 = omega arith in q)
    ∙ among_parts 0 (maps_in world) m.0 p d.0 d.1 (shared_has_part d.0.kind p d.2.0 h.0))
known world (Cpu a) op h =
    among_right (map part_id (parts_from 0 (maps_in world))) (numbered Cpu 0 (world_cpus world + 1) ++ Clock ∷ Out ∷ []) (Cpu a)
    (among_left (numbered Cpu 0 (world_cpus world + 1)) (Clock ∷ Out ∷ []) (Cpu a)
    (among_get (numbered Cpu 0 (world_cpus world + 1)) a (Cpu a) (numbered_get Cpu 0 (world_cpus world + 1) a h.0 ∙ ap (λ k. Some (Cpu k)) (let q : 0 + a ≡ a = omega arith in q))))
known world Clock op h = among_right (map part_id (parts_from 0 (maps_in world))) (numbered Cpu 0 (world_cpus world + 1) ++ Clock ∷ Out ∷ []) Clock
    (among_right (numbered Cpu 0 (world_cpus world + 1)) (Clock ∷ Out ∷ []) Clock refl)
known world Out op h = among_right (map part_id (parts_from 0 (maps_in world))) (numbered Cpu 0 (world_cpus world + 1) ++ Clock ∷ Out ∷ []) Out
    (among_right (numbered Cpu 0 (world_cpus world + 1)) (Clock ∷ Out ∷ []) Out refl)

known_steps : (world : SharedWorld) (ss : List Step) → Each (λ (s : Step). CanStep (setting_in world 0) s.object s.op) ss → Each (λ (s : Step). is_among (all_ids (maps_in world) (world_cpus world + 1)) s.object ≡ true) ss
known_steps world [] h = tt
known_steps world (s ∷ ss) h = (known world s.object s.op h.0, known_steps world ss h.1)

all_known : (world : SharedWorld) (ts : List Trace) → Each (CanMake world) ts → AreAmong (all_ids (maps_in world) (world_cpus world + 1)) ts
all_known world [] h = tt
all_known world (t ∷ ts) h = (known_steps world (steps_of t) h.0, all_known world ts h.1)

-- ---- what they answer

answer_both : {Kind : Type 0} (reply_after : Kind → List Op → Op → Reply) (ans : ObjectId → List Op → Op → Reply) (os ps : List ObjectId) (ks ls : List Kind)
    → Answer reply_after ans os ks → Answer reply_after ans ps ls → Answer reply_after ans (os ++ ps) (ks ++ ls)
answer_both reply_after ans [] ps [] ls h g = g
answer_both reply_after ans [] ps (k ∷ ks) ls h g = absurd h
answer_both reply_after ans (o ∷ os) ps [] ls h g = absurd h
answer_both reply_after ans (o ∷ os) ps (k ∷ ks) ls h g = (h.0, answer_both reply_after ans os ps ks ls h.1 g)

abbrev pub reply_of_part : PartKind → List Op → Op → Reply
reply_of_part of = shared_answer of.decl.kind

module _ (maps : List MapDecl) (cpus : ℕ) where
  map_answers : (m : ℕ) (d : MapDecl) (k n : ℕ) → slice_get maps m ≡ Some d → Answer reply_of_part (answer maps cpus) (map part_id (numbered (part_at m d) k n)) (map part_kind (numbered (part_at m d) k n))
  map_answers m d k zero e = tt
  map_answers m d k (suc n) e = ((λ before op. ap (λ o. shared_answer (kind_of_decl o) before op) (sym e)), map_answers m d (k + 1) n e)

  part_answers : (m : ℕ) (ds : List MapDecl) → ((k : ℕ) (d : MapDecl) → slice_get ds k ≡ Some d → slice_get maps (m + k) ≡ Some d)
      → Answer reply_of_part (answer maps cpus) (map part_id (parts_from m ds)) (map part_kind (parts_from m ds))
  part_answers m [] h = tt
  part_answers m (d ∷ ds) h = subst (λ (z : List ObjectId × List PartKind). Answer reply_of_part (answer maps cpus) z.0 z.1) (λ i. (sym (ids_map m d ds) i, sym (kinds_map m d ds) i))
      (answer_both reply_of_part (answer maps cpus) (map part_id (numbered (part_at m d) 0 (part_count d.kind))) (map part_id (parts_from (m + 1) ds))
      (map part_kind (numbered (part_at m d) 0 (part_count d.kind))) (map part_kind (parts_from (m + 1) ds))
      (map_answers m d 0 (part_count d.kind) (ap (slice_get maps) (let q : m ≡ m + 0 = omega arith in q) ∙ h 0 d refl))
      (part_answers (m + 1) ds (λ k c e. ap (slice_get maps) (let q : m + 1 + k ≡ m + suc k = omega arith in q) ∙ h (suc k) c e)))

  table_answers : (k n : ℕ) → Answer table_answer (answer maps cpus) (numbered Cpu k n) (numbered (λ _. maps) k n)
  table_answers k zero = tt
  table_answers k (suc n) = ((λ before op. refl), table_answers (k + 1) n)

-- ---- the histories of all of them

closed_long : {O Kind : Type 0} (kind_of : O → Kind) (is_own : Kind → Op → Type 0) (reply_after : Kind → List Op → Op → Reply) (stands_for : O → List Op → Type 0) (n : ℕ)
    (ks : List Kind) (rows : List Row) (cs : List (O × List Entry)) → AreClosed kind_of is_own reply_after stands_for n ks rows cs → length cs ≡ length ks
closed_long kind_of is_own reply_after stands_for n [] rows [] h = refl
closed_long kind_of is_own reply_after stands_for n [] rows (c ∷ cs) h = absurd h
closed_long kind_of is_own reply_after stands_for n (k ∷ ks) rows [] h = absurd h
closed_long kind_of is_own reply_after stands_for n (k ∷ ks) rows (c ∷ cs) h = ap suc (closed_long kind_of is_own reply_after stands_for n ks _ cs h.1)

paired_ids : {O : Type 0} (os : List ObjectId) (cs : List (O × List Entry)) → length cs ≡ length os → map id_in (paired os cs) ≡ os
paired_ids [] cs e = refl
paired_ids (o ∷ os) [] e = absurd (omega (arith, e))
paired_ids (o ∷ os) (c ∷ cs) e = ap (λ l. o ∷ l) (paired_ids os cs (omega (arith, e)))

abbrev pub out_kind : OutLog → Unit {0}
out_kind out = tt

abbrev pub out_stands : OutLog → List Op → Type 0
out_stands out ops = Unit {0}

abbrev pub own_of_part : PartKind → Op → Type 0
own_of_part of = IsSharedOp of.decl

module _ (world : SharedWorld) (ts : List Trace) (actors : AreTraces 0 ts) (many : world_cpus world + 1 ≡ length ts) (can : Each (CanMake world) ts)
    (map_rows table_rows clock_rows out_rows : List Row) (maps : List (SharedPart × List Entry)) (tables : List (CpuTable × List Entry)) (clock : TickClock × List Entry) (out : OutLog × List Entry) where
  abbrev ms : List MapDecl
  ms = maps_in world

  abbrev n : ℕ
  n = world_cpus world + 1

  abbrev part_ids : List ObjectId
  part_ids = map part_id (parts_from 0 ms)

  abbrev part_kinds : List PartKind
  part_kinds = map part_kind (parts_from 0 ms)

  abbrev clock_of_world : ClockKind
  clock_of_world = record { cpus = world_cpus world; ticks = length world.attached.now.ticks }

  -- what the rows, the traces and the closed objects of the sets are
  pub record AreShut : Type 0 where
    pub maps_full : AreFull part_ids map_rows
    pub maps_own : OwnRows part_ids map_rows ts
    pub maps_shut : AreClosed shared_kind own_of_part reply_of_part SharedStands n part_kinds map_rows maps
    pub tables_full : AreFull (numbered Cpu 0 n) table_rows
    pub tables_own : OwnRows (numbered Cpu 0 n) table_rows ts
    pub tables_shut : AreClosed cpu_kind IsTableOp table_answer CpuStands n (numbered (λ _. ms) 0 n) table_rows tables
    pub clock_full : AreFull (Clock ∷ []) clock_rows
    pub clock_own : OwnRows (Clock ∷ []) clock_rows ts
    pub clock_shut : IsClosed clock_kind own_of_clock reply_of_clock ClockStands n clock_of_world (firsts clock_rows) clock.0 clock.1
    pub out_full : AreFull (Out ∷ []) out_rows
    pub out_own : OwnRows (Out ∷ []) out_rows ts
    pub out_shut : IsClosed out_kind own_of_out reply_of_out out_stands n tt (firsts out_rows) out.0 out.1

  module _ (shut : AreShut) where
    abbrev ans : ObjectId → List Op → Op → Reply
    ans = answer ms (world_cpus world)

    abbrev same_parts : Answer reply_of_part ans part_ids part_kinds
    same_parts = part_answers ms (world_cpus world) 0 ms (λ k d e. ap (slice_get ms) (let q : 0 + k ≡ k = omega arith in q) ∙ e)

    map_histories : Each (λ p. IsHistory ans ts p.0 p.1) (paired part_ids maps)
    map_histories = histories shared_kind own_of_part reply_of_part SharedStands ans ts actors part_ids part_kinds map_rows maps n many shut.maps_full shut.maps_own same_parts shut.maps_shut

    table_histories : Each (λ p. IsHistory ans ts p.0 p.1) (paired (numbered Cpu 0 n) tables)
    table_histories = histories cpu_kind IsTableOp table_answer CpuStands ans ts actors (numbered Cpu 0 n) (numbered (λ _. ms) 0 n) table_rows tables n many shut.tables_full shut.tables_own
        (table_answers ms (world_cpus world) 0 n) shut.tables_shut

    clock_history : IsHistory ans ts Clock clock.1
    clock_history = one_history clock_kind own_of_clock reply_of_clock ClockStands ans ts actors Clock [] clock_of_world clock_rows clock.0 clock.1 n many shut.clock_full shut.clock_own (λ before op. refl) shut.clock_shut

    out_history : IsHistory ans ts Out out.1
    out_history = one_history out_kind own_of_out reply_of_out out_stands ans ts actors Out [] tt out_rows out.0 out.1 n many shut.out_full shut.out_own (λ before op. refl) shut.out_shut

    abbrev pub pairs : List (ObjectId × List Entry)
    pairs = paired part_ids maps ++ (paired (numbered Cpu 0 n) tables ++ (Clock, clock.1) ∷ (Out, out.1) ∷ [])

    all_histories : Each (λ p. IsHistory ans ts p.0 p.1) pairs
    all_histories = each_both (λ p. IsHistory ans ts p.0 p.1) (paired part_ids maps) (paired (numbered Cpu 0 n) tables ++ (Clock, clock.1) ∷ (Out, out.1) ∷ []) map_histories
        (each_both (λ p. IsHistory ans ts p.0 p.1) (paired (numbered Cpu 0 n) tables) ((Clock, clock.1) ∷ (Out, out.1) ∷ []) table_histories (clock_history, (out_history, tt)))

    maps_long : length maps ≡ length part_ids
    maps_long = closed_long shared_kind own_of_part reply_of_part SharedStands n part_kinds map_rows maps shut.maps_shut ∙ length-map (parts_from 0 ms) part_kind ∙ sym (length-map (parts_from 0 ms) part_id)

    tables_long : length tables ≡ length (numbered Cpu 0 n)
    tables_long = closed_long cpu_kind IsTableOp table_answer CpuStands n (numbered (λ _. ms) 0 n) table_rows tables shut.tables_shut ∙ numbered_length (λ _. ms) 0 n ∙ sym (numbered_length Cpu 0 n)

    ids_are : map id_in pairs ≡ all_ids ms n
    ids_are = map-append id_in (paired part_ids maps) (paired (numbered Cpu 0 n) tables ++ (Clock, clock.1) ∷ (Out, out.1) ∷ [])
        ∙ (λ i. paired_ids part_ids maps maps_long i ++ map-append id_in (paired (numbered Cpu 0 n) tables) ((Clock, clock.1) ∷ (Out, out.1) ∷ []) i)
        ∙ ap (λ l. part_ids ++ (l ++ Clock ∷ Out ∷ [])) (paired_ids (numbered Cpu 0 n) tables tables_long)

    pub given : HaveHistories ans ts (history_in pairs)
    given = have_histories ans ts pairs (subst (λ os. AreAmong os ts) (sym ids_are) (all_known world ts can)) all_histories actors

    module _ (steps : List Step) (moved : IsPermutation (all_steps ts) steps) (order : InOrder steps) where
      pub maps_stand : PartsStand steps (parts_from 0 ms) maps
      maps_stand = all_stand ans ts (history_in pairs) given steps moved order shared_kind own_of_part reply_of_part SharedStands part_ids part_kinds map_rows maps n same_parts shut.maps_shut map_histories

      pub tables_stand : TablesStand ms steps n tables
      tables_stand = all_stand ans ts (history_in pairs) given steps moved order cpu_kind IsTableOp table_answer CpuStands (numbered Cpu 0 n) (numbered (λ _. ms) 0 n) table_rows tables n
          (table_answers ms (world_cpus world) 0 n) shut.tables_shut table_histories
