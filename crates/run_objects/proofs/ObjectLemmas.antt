-- One step more at one of the objects.
use Rattle.std.proofs.Common.{◌≡◌, ◌≢◌, ℕ, suc, max, ◌+◌, ◌<◌, ◌≤◌, Bool, true, false, cond, List, [], ◌∷◌, ◌++◌, length, get_or, slice_set, Result, Ok, Err, IfOk, OnErr, sym, refl, ap, ◌∙◌, subst, arith, ne_eqb}
use Rattle.std.specs.Prelude.{slice_get, slice_index_or, Option, Some, None, IsSomeAnd}
use Rattle.std.proofs.lemmas.List.{append-nil, get_or-set_same, get_or-set_other, length-set}
use Rattle.std.proofs.lemmas.Option.{slice_get_within}
use Rattle.std.proofs.Common.{◌==◌, ◌&&◌}
use mathlib.Core.Logic.{dite}
use native.Mathlib.Decide.{ℕ_discrete}
use Rattle.bt_core.specs.declared.map.MapDecl.{MapDecl}
use Rattle.bt_core.specs.declared.map.MapId.{MapId}
use Rattle.bt_core.specs.declared.memory.Memory.{Memory}
use Rattle.bt_core.specs.declared.step.ObjectId.{ObjectId}
use Rattle.bt_core.specs.declared.step.ObjectId.TheVariants.{Shared, Cpu, Clock, Out}
use Rattle.bt_core.specs.declared.step.Op.{Op}
use Rattle.bt_core.specs.declared.step.Reply.{Reply}
use Rattle.bt_core.specs.declared.step.Reply.TheVariants.{Done}
use Rattle.bt_core.specs.declared.step.Step.{Step}
use Rattle.bt_core.specs.Kinds.{IsShared}
use Rattle.bt_core.specs.Ports.{IsSharedOp}
use Rattle.bt_core.specs.Steps.{is_same_object, on_object, operations}
use Rattle.bt_core.proofs.StepLists.{is_same_object-refl, on_object-append, operations-append}
use Rattle.agg_core.specs.Answers.{shared_answer, table_answer, clock_answer, kind_of_decl}
use Rattle.map_ops.proofs.PartLaws.{shared_has_part}
use Rattle.step_objects.specs.declared.clock.ClockKind.{ClockKind}
use Rattle.step_objects.specs.declared.clock.TickClock.{TickClock}
use Rattle.step_objects.specs.declared.out.OutLog.{OutLog}
use Rattle.step_objects.specs.declared.shared.PartKind.{PartKind}
use Rattle.step_objects.specs.declared.shared.SharedPart.{SharedPart}
use Rattle.step_objects.specs.Clocks.{clock_kind, ClockStands}
use Rattle.step_objects.specs.CpuTables.{map_at}
use Rattle.step_objects.specs.Objects.{shared_kind, SharedStands, cpu_kind, CpuStands}
use Rattle.weave.specs.Lists.{greatest}
use Rattle.run_objects.specs.declared.own.OwnObject.{OwnObject}
use Rattle.run_objects.specs.declared.objects.MapParts.{MapParts}
use Rattle.run_objects.specs.declared.objects.Objects.{Objects}
use Rattle.run_objects.specs.Took.{Took, TookAt}
use Rattle.run_objects.proofs.ReadLemmas.{same_decl}
use Rattle.run_objects.specs.Worlds.{World, IsOwn}
use Rattle.run_objects.specs.Objects.{OwnStands, AllStand, IsPartOf, PartsStand, Stand, IsAnswer}

greatest_snoc : (ss : List Step) (s : Step) → greatest ss ≤ s.stamp → greatest (ss ++ s ∷ []) ≡ s.stamp
greatest_snoc [] s le = omega arith
greatest_snoc (x ∷ xs) s le = let r = greatest_snoc xs s (omega arith) in omega arith

pub on_more : (object : ObjectId) (steps : List Step) (s : Step) → is_same_object s.object object ≡ true → on_object object (steps ++ s ∷ []) ≡ on_object object steps ++ s ∷ []
on_more object steps s e = on_object-append object steps (s ∷ []) ∙ ap (λ (b : Bool). on_object object steps ++ cond b (s ∷ []) []) e

pub on_same : (object : ObjectId) (steps : List Step) (s : Step) → is_same_object s.object object ≡ false → on_object object (steps ++ s ∷ []) ≡ on_object object steps
on_same object steps s e = on_object-append object steps (s ∷ []) ∙ ap (λ (b : Bool). on_object object steps ++ cond b (s ∷ []) []) e ∙ append-nil (on_object object steps)

and_false : (b : Bool) → (b && false) ≡ false
and_false true = refl
and_false false = refl

-- what holds of each place of a list, after another is set at one place
pub at_place : {X : Type 0} (P : ℕ → X → Type 0) (list : List X) (place : ℕ) (x : X) → place < length list → P place x
    → ((k : ℕ) (d : X) → place ≢ k → k < length list → P k (get_or list k d)) → (k : ℕ) (d : X) → k < length (slice_set list place x) → P k (get_or (slice_set list place x) k d)
at_place P list place x within here else k d lt = let long = length-set list place x in dite (ℕ_discrete place k)
    (λ e. subst (λ (n : ℕ). P n (get_or (slice_set list place x) n d)) e (subst (P place) (sym (get_or-set_same list place x d within)) here))
    (λ ne. subst (P k) (sym (get_or-set_other list place k x d (λ e. ne (sym e)))) (else k d ne (omega arith)))

-- the step that was made
abbrev pub step_of : ℕ → ObjectId → Op → Reply × ℕ → Step
step_of actor object op r = record { actor = actor; object = object; stamp = r.1; op = op; reply = r.0 }

module _ {O K : Type 0} (kind_of : O → K) (holds : O → List Op → Type 0) (replies_to : K → List Op → Op → Reply) (fits : K → Type 0) (steps : List Step) where
  -- an object that was not asked
  pub own_else : (s : Step) (object : ObjectId) (own : OwnObject O) → is_same_object s.object object ≡ false
      → OwnStands kind_of holds fits steps object own → OwnStands kind_of holds fits (steps ++ s ∷ []) object own
  own_else s object own e h = let q = on_same object steps s e in record {
    stands = record { fit = h.stands.fit; stood = subst (λ (l : List Step). holds own.object (operations l)) (sym q) h.stands.stood };
    clock = h.clock ∙ sym (ap greatest q);
  }

  pub all_else : (s : Step) (id : ℕ → ObjectId) (list : List (OwnObject O)) → ((k : ℕ) → is_same_object s.object (id k) ≡ false)
      → AllStand kind_of holds fits steps id list → AllStand kind_of holds fits (steps ++ s ∷ []) id list
  all_else s id list e all k d lt = own_else s (id k) (get_or list k d) (e k) (all k d lt)

  module _ (op : Op) (floor : ℕ) (old new : OwnObject O) (object : ObjectId) (h : OwnStands kind_of holds fits steps object old) where
    pub took_reply : (r : Reply × ℕ) → Took kind_of holds replies_to op floor old new r.0 (Ok r.1)
        → r.0 ≡ replies_to (kind_of old.object) (operations (on_object object steps)) op
    took_reply r t = t.replies (operations (on_object object steps)) h.stands.stood

    pub took_stamp : (r : Reply × ℕ) → Took kind_of holds replies_to op floor old new r.0 (Ok r.1) → r.1 ≡ suc (max floor (greatest (on_object object steps)))
    took_stamp r t = t.stamp ∙ ap (λ n. suc (max floor n)) h.clock

    pub took_stands : (r : Reply × ℕ) (actor : ℕ) → Took kind_of holds replies_to op floor old new r.0 (Ok r.1)
        → OwnStands kind_of holds fits (steps ++ step_of actor object op r ∷ []) object new
    took_stands r actor t =
        let s = step_of actor object op r in
        let q = on_more object steps s (is_same_object-refl object) in
        let stamp = took_stamp r t in record {
          stands = record {
            fit = subst fits (sym t.kind) h.stands.fit;
            stood = subst (λ (l : List Op). holds new.object l) (sym (ap operations q ∙ operations-append (on_object object steps) (s ∷ []))) (t.taken (operations (on_object object steps)) h.stands.stood);
          };
          clock = t.clock ∙ sym (ap greatest q ∙ greatest_snoc (on_object object steps) s (omega arith));
        }

    pub took_kept : (reply : Reply) (m : Memory) → Took kind_of holds replies_to op floor old new reply (Err m) → OwnStands kind_of holds fits steps object new
    took_kept reply m t = record {
      stands = record { fit = subst fits (sym t.kind) h.stands.fit; stood = t.memory (operations (on_object object steps)) h.stands.stood };
      clock = t.same ∙ h.clock;
    }

  module _ (op : Op) (floor place : ℕ) (old new : List (OwnObject O)) (id : ℕ → ObjectId) (lt : place < length old) (all : AllStand kind_of holds fits steps id old) where
    pub one_stands : (one : OwnObject O) → slice_index_or old place one ≡ one → OwnStands kind_of holds fits steps (id place) one
    one_stands one e = subst (OwnStands kind_of holds fits steps (id place)) e (all place one lt)

    pub all_took : (apart : (a b : ℕ) → a ≢ b → is_same_object (id a) (id b) ≡ false) (r : Reply × ℕ) (actor : ℕ)
        → TookAt kind_of holds replies_to op floor place old new r.0 (Ok r.1)
        → AllStand kind_of holds fits (steps ++ step_of actor (id place) op r ∷ []) id new
    all_took apart r actor t = let s = step_of actor (id place) op r in
        subst (AllStand kind_of holds fits (steps ++ s ∷ []) id) (sym t.now)
        (at_place (λ k own. OwnStands kind_of holds fits (steps ++ s ∷ []) (id k) own) old place t.other lt
        (took_stands op floor t.one t.other (id place) (one_stands t.one t.was) r actor t.took)
        (λ k d ne below. own_else s (id k) (get_or old k d) (apart place k ne) (all k d below)))

    pub all_kept : (reply : Reply) (m : Memory) → TookAt kind_of holds replies_to op floor place old new reply (Err m)
        → AllStand kind_of holds fits steps id new
    all_kept reply m t = subst (AllStand kind_of holds fits steps id) (sym t.now)
        (at_place (λ k own. OwnStands kind_of holds fits steps (id k) own) old place t.other lt
        (took_kept op floor t.one t.other (id place) (one_stands t.one t.was) reply m t.took)
        (λ k d ne below. all k d below))

-- the output has no kind, keeps nothing, and replies to nothing
abbrev pub no_kind : OutLog → Unit {0}
no_kind o = tt

abbrev pub no_marks : OutLog → List Op → Type 0
no_marks o ops = Unit {0}

abbrev pub any_kind : Unit {0} → Type 0
any_kind of = Unit {0}

abbrev pub no_answer : Unit {0} → List Op → Op → Reply
no_answer of before op = Done

tables_apart : (a b : ℕ) → a ≢ b → is_same_object (Cpu a) (Cpu b) ≡ false
tables_apart a b ne = ne_eqb a b ne

-- the answer, and the objects after want of memory
abbrev pub Answers : Objects → ObjectId → Op → ℕ → Reply → Result ℕ Memory → Objects → Type 0
Answers objects object op floor reply result new =
    IfOk result (λ stamp. (w : World) (steps : List Step) → Stand w steps objects → IsOwn w object op → IsAnswer w steps new object op floor (reply, stamp))

abbrev pub Keeps : Objects → ObjectId → Op → Result ℕ Memory → Objects → Type 0
Keeps objects object op result new = OnErr result ((w : World) (steps : List Step) → Stand w steps objects → IsOwn w object op → Stand w steps new)

module _ (objects : Objects) (op : Op) (floor : ℕ) where
  -- the parts of the maps, where another object was asked
  shared_else : (w : World) (steps : List Step) (s : Step) → ((m : MapId) (p : ℕ) → is_same_object s.object (Shared m p) ≡ false) → Stand w steps objects
      → (m : ℕ) (d : MapParts) → m < length objects.shared.items → PartsStand w (steps ++ s ∷ []) m (slice_index_or objects.shared.items m d)
  shared_else w steps s e st m d lt = let parts = st.shared m d lt in record {
    count = parts.count;
    each = all_else shared_kind SharedStands (λ of. shared_answer of.decl.kind) (IsPartOf w.maps m) steps s (Shared (map_at m)) (slice_index_or objects.shared.items m d).parts.items (e (map_at m)) parts.each;
  }

  tables_else : (w : World) (steps : List Step) (s : Step) → ((a : ℕ) → is_same_object s.object (Cpu a) ≡ false) → Stand w steps objects
      → AllStand cpu_kind CpuStands (λ maps. maps ≡ w.maps) (steps ++ s ∷ []) Cpu objects.tables.items
  tables_else w steps s e st = all_else cpu_kind CpuStands table_answer (λ maps. maps ≡ w.maps) steps s Cpu objects.tables.items e st.tables

  ticks_else : (w : World) (steps : List Step) (s : Step) → is_same_object s.object Clock ≡ false → Stand w steps objects
      → OwnStands clock_kind ClockStands (λ of. of ≡ record { cpus = w.cpus; ticks = w.ticks }) (steps ++ s ∷ []) Clock objects.ticks
  ticks_else w steps s e st = own_else clock_kind ClockStands (λ of. clock_answer of.cpus) (λ of. of ≡ record { cpus = w.cpus; ticks = w.ticks }) steps s Clock objects.ticks e st.ticks

  out_else : (w : World) (steps : List Step) (s : Step) → is_same_object s.object Out ≡ false → Stand w steps objects → objects.out.clock ≡ greatest (on_object Out (steps ++ s ∷ []))
  out_else w steps s e st = st.out ∙ sym (ap greatest (on_same Out steps s e))

  -- ---- the clock
  module _ (object : ObjectId) (new : OwnObject TickClock) (is : object ≡ Clock) where
    abbrev with_ticks : Objects
    with_ticks = record { shared = objects.shared; tables = objects.tables; ticks = new; out = objects.out }

    pub ticks_answer : (reply : Reply) (result : Result ℕ Memory)
        → Took clock_kind ClockStands (λ of. clock_answer of.cpus) op floor objects.ticks new reply result
        → Answers objects object op floor reply result with_ticks
    ticks_answer reply (Err m) t = tt
    ticks_answer reply (Ok stamp) t =
        subst (λ o. Answers objects o op floor reply (Ok stamp) with_ticks) (sym is) (λ w steps st own. let r : Reply × ℕ = (reply, stamp) in
        let fits = λ (of : ClockKind). of ≡ record { cpus = w.cpus; ticks = w.ticks } in
        record {
          reply = took_reply clock_kind ClockStands (λ of. clock_answer of.cpus) fits steps op floor objects.ticks new Clock st.ticks r t
              ∙ ap (λ (of : ClockKind). clock_answer of.cpus (operations (on_object Clock steps)) op) st.ticks.stands.fit;
          stamp = took_stamp clock_kind ClockStands (λ of. clock_answer of.cpus) fits steps op floor objects.ticks new Clock st.ticks r t;
          stand = λ actor. let s = step_of actor Clock op r in record {
            map_count = st.map_count;
            shared = shared_else w steps s (λ m p. refl) st;
            table_count = st.table_count;
            tables = tables_else w steps s (λ a. refl) st;
            ticks = took_stands clock_kind ClockStands (λ of. clock_answer of.cpus) fits steps op floor objects.ticks new Clock st.ticks r actor t;
            out = out_else w steps s refl st;
          };
        })

    pub ticks_kept : (reply : Reply) (result : Result ℕ Memory)
        → Took clock_kind ClockStands (λ of. clock_answer of.cpus) op floor objects.ticks new reply result
        → Keeps objects object op result with_ticks
    ticks_kept reply (Ok stamp) t = tt
    ticks_kept reply (Err m) t = λ w steps st own. record {
      map_count = st.map_count;
      shared = st.shared;
      table_count = st.table_count;
      tables = st.tables;
      ticks = took_kept clock_kind ClockStands (λ of. clock_answer of.cpus) (λ (of : ClockKind). of ≡ record { cpus = w.cpus; ticks = w.ticks })
          steps op floor objects.ticks new Clock st.ticks reply m t;
      out = st.out;
    }

  -- ---- the output
  module _ (object : ObjectId) (new : OwnObject OutLog) (is : object ≡ Out) where
    abbrev with_out : Objects
    with_out = record { shared = objects.shared; tables = objects.tables; ticks = objects.ticks; out = new }

    out_stands : (w : World) (steps : List Step) → Stand w steps objects → OwnStands no_kind no_marks any_kind steps Out objects.out
    out_stands w steps st = record { stands = record { fit = tt; stood = tt }; clock = st.out }

    pub out_answer : (reply : Reply) (result : Result ℕ Memory) → Took no_kind no_marks no_answer op floor objects.out new reply result
        → Answers objects object op floor reply result with_out
    out_answer reply (Err m) t = tt
    out_answer reply (Ok stamp) t =
        subst (λ o. Answers objects o op floor reply (Ok stamp) with_out) (sym is) (λ w steps st own. let r : Reply × ℕ = (reply, stamp) in
        let was = out_stands w steps st in
        record {
          reply = took_reply no_kind no_marks no_answer any_kind steps op floor objects.out new Out was r t;
          stamp = took_stamp no_kind no_marks no_answer any_kind steps op floor objects.out new Out was r t;
          stand = λ actor. let s = step_of actor Out op r in record {
            map_count = st.map_count;
            shared = shared_else w steps s (λ m p. refl) st;
            table_count = st.table_count;
            tables = tables_else w steps s (λ a. refl) st;
            ticks = ticks_else w steps s refl st;
            out = (took_stands no_kind no_marks no_answer any_kind steps op floor objects.out new Out was r actor t).clock;
          };
        })

    pub out_kept : (result : Result ℕ Memory) → OnErr result (new.clock ≡ objects.out.clock) → Keeps objects object op result with_out
    out_kept (Ok stamp) t = tt
    out_kept (Err m) t = λ w steps st own. record {
      map_count = st.map_count;
      shared = st.shared;
      table_count = st.table_count;
      tables = st.tables;
      ticks = st.ticks;
      out = t ∙ st.out;
    }

  -- ---- the tables of an actor
  module _ (object : ObjectId) (actor : ℕ) (next : Objects) (is : object ≡ Cpu actor) (sh : next.shared ≡ objects.shared) (tk : next.ticks ≡ objects.ticks) (ot : next.out ≡ objects.out) where
    table_within : (w : World) (steps : List Step) → Stand w steps objects → actor < w.cpus + 1 → actor < length objects.tables.items
    table_within w steps st lt = let c = st.table_count in omega arith

    pub table_answers : (reply : Reply) (result : Result ℕ Memory)
        → TookAt cpu_kind CpuStands table_answer op floor actor objects.tables.items next.tables.items reply result
        → Answers objects object op floor reply result next
    table_answers reply (Err m) t = tt
    table_answers reply (Ok stamp) t =
        subst (λ o. Answers objects o op floor reply (Ok stamp) next) (sym is) (λ w steps st own. let r : Reply × ℕ = (reply, stamp) in
        let lt = table_within w steps st own.0 in
        let fits = λ (maps : List MapDecl). maps ≡ w.maps in
        let was = one_stands cpu_kind CpuStands table_answer fits steps op floor actor objects.tables.items next.tables.items Cpu lt st.tables t.one t.was in
        record {
          reply = took_reply cpu_kind CpuStands table_answer fits steps op floor t.one t.other (Cpu actor) was r t.took
              ∙ ap (λ maps. table_answer maps (operations (on_object (Cpu actor) steps)) op) was.stands.fit;
          stamp = took_stamp cpu_kind CpuStands table_answer fits steps op floor t.one t.other (Cpu actor) was r t.took;
          stand = λ by. let s = step_of by (Cpu actor) op r in record {
            map_count = ap (λ v. length v.items) sh ∙ st.map_count;
            shared = subst (λ v. (m : ℕ) (d : MapParts) → m < length v.items → PartsStand w (steps ++ s ∷ []) m (slice_index_or v.items m d)) (sym sh) (shared_else w steps s (λ m p. refl) st);
            table_count = ap length t.now ∙ length-set objects.tables.items actor t.other ∙ st.table_count;
            tables = all_took cpu_kind CpuStands table_answer fits steps op floor actor objects.tables.items next.tables.items Cpu lt st.tables tables_apart r by t;
            ticks = subst (OwnStands clock_kind ClockStands (λ (of : ClockKind). of ≡ record { cpus = w.cpus; ticks = w.ticks }) (steps ++ s ∷ []) Clock) (sym tk) (ticks_else w steps s refl st);
            out = ap (λ o. o.clock) ot ∙ out_else w steps s refl st;
          };
        })

    pub table_kept : (reply : Reply) (result : Result ℕ Memory)
        → TookAt cpu_kind CpuStands table_answer op floor actor objects.tables.items next.tables.items reply result
        → Keeps objects object op result next
    table_kept reply (Ok stamp) t = tt
    table_kept reply (Err m) t = subst (λ o. Keeps objects o op (Err m) next) (sym is) (λ w steps st own. let lt = table_within w steps st own.0 in record {
      map_count = ap (λ v. length v.items) sh ∙ st.map_count;
      shared = subst (λ v. (m : ℕ) (d : MapParts) → m < length v.items → PartsStand w steps m (slice_index_or v.items m d)) (sym sh) st.shared;
      table_count = ap length t.now ∙ length-set objects.tables.items actor t.other ∙ st.table_count;
      tables = all_kept cpu_kind CpuStands table_answer (λ (maps : List MapDecl). maps ≡ w.maps)
          steps op floor actor objects.tables.items next.tables.items Cpu lt st.tables reply m t;
      ticks = subst (OwnStands clock_kind ClockStands (λ (of : ClockKind). of ≡ record { cpus = w.cpus; ticks = w.ticks }) steps Clock) (sym tk) st.ticks;
      out = ap (λ o. o.clock) ot ∙ st.out;
    })

  -- ---- a part of a shared map
  abbrev pub part_answer : PartKind → List Op → Op → Reply
  part_answer of = shared_answer of.decl.kind

  module _ (object : ObjectId) (m : MapId) (p : ℕ) (one other : MapParts) (next : Objects) (is : object ≡ Shared m p) (at : one ≡ slice_index_or objects.shared.items m.0 one)
      (set : next.shared.items ≡ slice_set objects.shared.items m.0 other) (tb : next.tables ≡ objects.tables) (tk : next.ticks ≡ objects.ticks) (ot : next.out ≡ objects.out) where
    declared : (w : World) (steps : List Step) → Stand w steps objects → (o : Option MapDecl) → slice_get w.maps m.0 ≡ o → IsSomeAnd o (λ decl. IsShared decl.kind × IsSharedOp decl op)
        → (decl : MapDecl) × (slice_get w.maps m.0 ≡ Some decl) × IsShared decl.kind × IsSharedOp decl op
    declared w steps st None e h = absurd h
    declared w steps st (Some decl) e h = (decl, e, h.0, h.1)

    decl_there : (w : World) (steps : List Step) → Stand w steps objects → IsOwn w (Shared m p) op → (decl : MapDecl) × (slice_get w.maps m.0 ≡ Some decl) × IsShared decl.kind × IsSharedOp decl op
    decl_there w steps st own = declared w steps st (slice_get w.maps m.0) refl own.1

    map_within : (w : World) (steps : List Step) → Stand w steps objects → IsOwn w (Shared m p) op → m.0 < length objects.shared.items
    map_within w steps st own = let c = st.map_count in let lt = slice_get_within w.maps m.0 (decl_there w steps st own).0 (decl_there w steps st own).1 in omega arith

    parts_of : (w : World) (steps : List Step) → Stand w steps objects → IsOwn w (Shared m p) op → PartsStand w steps m.0 one
    parts_of w steps st own = subst (PartsStand w steps m.0) (sym at) (st.shared m.0 one (map_within w steps st own))

    part_within : (w : World) (steps : List Step) (st : Stand w steps objects) (own : IsOwn w (Shared m p) op) → p < length one.parts.items
    part_within w steps st own = let d = decl_there w steps st own in let c = (parts_of w steps st own).count d.0 d.1 in let lt = shared_has_part d.0.kind _ d.2 own.0 in omega arith

    map_count_next : (w : World) (steps : List Step) → Stand w steps objects → length next.shared.items ≡ length w.maps
    map_count_next w steps st = ap length set ∙ length-set objects.shared.items m.0 other ∙ st.map_count

    map_is : map_at m.0 ≡ m
    map_is = refl

    parts_apart : (a b : ℕ) → a ≢ b → is_same_object (Shared m a) (Shared m b) ≡ false
    parts_apart a b ne = ap (λ x. (m.0 == m.0) && x) (ne_eqb a b ne) ∙ and_false (m.0 == m.0)

    maps_apart : (k : ℕ) (q : ℕ) → m.0 ≢ k → is_same_object (Shared m p) (Shared (map_at k) q) ≡ false
    maps_apart k q ne = ap (λ x. x && (p == q)) (ne_eqb m.0 k ne)

    pub shared_answers : (reply : Reply) (result : Result ℕ Memory)
        → TookAt shared_kind SharedStands part_answer op floor p one.parts.items other.parts.items reply result
        → Answers objects object op floor reply result next
    shared_answers reply (Err x) t = tt
    shared_answers reply (Ok stamp) t =
        subst (λ o. Answers objects o op floor reply (Ok stamp) next) (sym is) (λ w steps st own. let r : Reply × ℕ = (reply, stamp) in
        let lt = part_within w steps st own in
        let parts = parts_of w steps st own in
        let fits = IsPartOf w.maps m.0 in
        let was = one_stands shared_kind SharedStands part_answer fits steps op floor p one.parts.items other.parts.items (Shared m) lt parts.each t.one t.was in
        record {
          reply = took_reply shared_kind SharedStands part_answer fits steps op floor t.one t.other (Shared m p) was r t.took
              ∙ ap (λ (o : Option MapDecl). shared_answer (kind_of_decl o) (operations (on_object (Shared m p) steps)) op) (sym was.stands.fit.declared);
          stamp = took_stamp shared_kind SharedStands part_answer fits steps op floor t.one t.other (Shared m p) was r t.took;
          stand = λ by. let s = step_of by (Shared m p) op r in record {
            map_count = map_count_next w steps st;
            shared = subst (λ (l : List MapParts). (k : ℕ) (d : MapParts) → k < length l → PartsStand w (steps ++ s ∷ []) k (slice_index_or l k d)) (sym set)
                (at_place (λ k x. PartsStand w (steps ++ s ∷ []) k x) objects.shared.items m.0 other (map_within w steps st own)
                (record {
                  count = λ decl e. ap length t.now ∙ length-set one.parts.items p t.other ∙ parts.count decl e;
                  each = all_took shared_kind SharedStands part_answer fits steps op floor p one.parts.items other.parts.items (Shared m) lt parts.each parts_apart r by t;
                })
                (λ k d ne below. let those = st.shared k d below in record {
                  count = those.count;
                  each = all_else shared_kind SharedStands part_answer (IsPartOf w.maps k) steps s (Shared (map_at k)) (slice_index_or objects.shared.items k d).parts.items (λ q. maps_apart k q ne) those.each;
                }));
            table_count = ap (λ v. length v.items) tb ∙ st.table_count;
            tables = subst (λ v. AllStand cpu_kind CpuStands (λ maps. maps ≡ w.maps) (steps ++ s ∷ []) Cpu v.items) (sym tb) (tables_else w steps s (λ a. refl) st);
            ticks = subst (OwnStands clock_kind ClockStands (λ (of : ClockKind). of ≡ record { cpus = w.cpus; ticks = w.ticks }) (steps ++ s ∷ []) Clock) (sym tk) (ticks_else w steps s refl st);
            out = ap (λ o. o.clock) ot ∙ out_else w steps s refl st;
          };
        })

    pub shared_kept : (reply : Reply) (result : Result ℕ Memory)
        → TookAt shared_kind SharedStands part_answer op floor p one.parts.items other.parts.items reply result
        → Keeps objects object op result next
    shared_kept reply (Ok stamp) t = tt
    shared_kept reply (Err x) t = subst (λ o. Keeps objects o op (Err x) next) (sym is) (λ w steps st own.
        let lt = part_within w steps st own in
        let parts = parts_of w steps st own in record {
          map_count = map_count_next w steps st;
          shared = subst (λ (l : List MapParts). (k : ℕ) (d : MapParts) → k < length l → PartsStand w steps k (slice_index_or l k d)) (sym set)
              (at_place (λ k x. PartsStand w steps k x) objects.shared.items m.0 other (map_within w steps st own)
              (record {
                count = λ decl e. ap length t.now ∙ length-set one.parts.items p t.other ∙ parts.count decl e;
                each = all_kept shared_kind SharedStands part_answer (IsPartOf w.maps m.0) steps op floor
                    p one.parts.items other.parts.items (Shared m) lt parts.each reply x t;
              })
              (λ k d ne below. st.shared k d below));
          table_count = ap (λ v. length v.items) tb ∙ st.table_count;
          tables = subst (λ v. AllStand cpu_kind CpuStands (λ maps. maps ≡ w.maps) steps Cpu v.items) (sym tb) st.tables;
          ticks = subst (OwnStands clock_kind ClockStands (λ (of : ClockKind). of ≡ record { cpus = w.cpus; ticks = w.ticks }) steps Clock) (sym tk) st.ticks;
          out = ap (λ o. o.clock) ot ∙ st.out;
        })

    pub part_there : (w : World) × (steps : List Step) × Stand w steps objects × IsOwn w object op → p < length one.parts.items
    part_there h = part_within h.0 h.1 h.2 (subst (λ o. IsOwn h.0 o op) is h.3)

    pub part_own : (w : World) × (steps : List Step) × Stand w steps objects × IsOwn w object op → (d : OwnObject SharedPart) → IsSharedOp (shared_kind (slice_index_or one.parts.items p d).object).decl op
    part_own h d = let own = subst (λ o. IsOwn h.0 o op) is h.3 in let decl = decl_there h.0 h.1 h.2 own in
        let part = (parts_of h.0 h.1 h.2 own).each p d (part_within h.0 h.1 h.2 own) in
        subst (λ x. IsSharedOp x op) (same_decl decl.0 (shared_kind (slice_index_or one.parts.items p d).object).decl (slice_get h.0.maps m.0) decl.1 part.stands.fit.declared) decl.3
