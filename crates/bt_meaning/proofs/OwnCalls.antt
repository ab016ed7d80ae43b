-- Each step of an interleaving is one that can be made, emits an item of the script, and has a reply of its operation's kind.
use Rattle.std.proofs.Common.{◌≡◌, ℕ, zero, suc, cond, eq-eqb, ◌+◌, ◌<◌, ◌≤◌, Bool, true, false, List, [], ◌∷◌, ◌++◌, map, length, All, Option, Some, None, slice_get, slice_index, refl, sym, ap, ◌∙◌, subst, arith, append_assoc, append-nil}
use Rattle.std.proofs.lemmas.Bool.{and_parts}
use Rattle.std.specs.List.{AllByRecursion, list_all}
use Rattle.std.proofs.lemmas.List.{length-map}
use Rattle.std.proofs.lemmas.List.Elements.{All-from_recursion, recursion_from_All, filter-append}
use Rattle.std.proofs.lemmas.Option.{get_or_from_slice_get}
use Rattle.bt_ast.specs.declared.attached.Attached.{Attached}
use Rattle.bt_core.specs.declared.ending.Ending.{Ending}
use Rattle.bt_core.specs.declared.map.MapDecl.{MapDecl}
use Rattle.bt_core.specs.declared.map.MapId.{MapId}
use Rattle.fmt_text.specs.declared.piece.Piece.{Piece}
use Rattle.bt_core.specs.declared.step.ObjectId.{ObjectId}
use Rattle.bt_core.specs.declared.step.ObjectId.TheVariants.{Shared, Cpu, Clock, Out}
use Rattle.bt_core.specs.declared.step.Op.{Op}
use Rattle.bt_core.specs.declared.step.Reply.{Reply}
use Rattle.bt_core.specs.declared.step.Step.{Step}
use Rattle.bt_core.specs.Interaction.{Call, Interaction, Ended, Asks, Runs, and_then}
use Rattle.bt_core.specs.Kinds.{IsFineDecl}
use Rattle.bt_core.specs.Ports.{CanStep, IsReplyOf}
use Rattle.bt_core.specs.Steps.{is_of, of_actor, is_on, on_object, operations, RepliesFollow}
use Rattle.bt_core.proofs.StepLists.{is_same_object-true}
use Rattle.recordings.specs.declared.recording.Recording.{Recording}
use Rattle.typed_tree.specs.declared.body.TypedBody.{TypedBody}
use Rattle.typed_tree.specs.declared.script.Typed.{Typed}
use Rattle.typed_tree.specs.Scope.{is_fine_decl}
use Rattle.typed_tree.proofs.Same.{decl_fine}
use Rattle.agg_core.specs.Answers.{answer}
use Rattle.agg_core.proofs.KindLaws.{answer-kind}
use Rattle.map_rows.specs.Fits.{IsReadReply, IsRowOf}
use Rattle.map_rows.specs.Items.{IsItemOf}
use Rattle.map_rows.specs.Merged.{merged}
use Rattle.actor_plan.specs.Plans.{Plan, AsksOf, BodiesAsk}
use Rattle.actor_plan.proofs.AskLaws.{begin_asks, end_asks, cpu_asks}
use Rattle.walk_meaning.specs.Admits.{AdmitsOf}
use Rattle.walk_meaning.specs.Walk.{walk}
use Rattle.walk_meaning.specs.Served.{least_length}
use Rattle.walk_meaning.proofs.Asking.{IsFineCall}
use Rattle.walk_meaning.proofs.OwnItems.{own-calls}
use Rattle.bt_meaning.specs.Interleavings.{IsInterleaving}
use Rattle.bt_meaning.specs.Jobs.{IsJob}
use Rattle.bt_meaning.specs.OwnSteps.{setting_of, IsOwnCall, IsOwnStep}
use Rattle.bt_meaning.specs.Replays.{Replay, cpus_of, begin_of, cpu_of, end_of, answers_of}
use Rattle.bt_meaning.specs.Walks.{walked, walking, replay_of}
use Rattle.bt_meaning.proofs.Eachs.{each_so, each_both, each_back, each_kept}
use Rattle.bt_meaning.proofs.Placed.{maps_placed, formats_placed}

-- a step that can be made, and what it emits is fine
abbrev IsFine : (ObjectId → Op → Type 0) → List MapDecl → Step → Type 0
IsFine calls maps s = calls s.object s.op × IsReplyOf maps s.object s.op s.reply

-- ---- a step of a run whose earlier replies are of their kinds

asks_at : {A : Type 0} (calls : ObjectId → Op → Type 0) (maps : List MapDecl) (t : Interaction A) (front : List Step) (s : Step) (back : List Step) (v : A)
    → AsksOf calls maps t → Runs t (front ++ s ∷ back) v → AllByRecursion (IsFine calls maps) front → calls s.object s.op
asks_at calls maps (Ended a) [] s back v asks runs fine = absurd runs
asks_at calls maps (Asks c f) [] s back v asks runs fine = subst (λ (d : Call). calls d.object d.op) (sym runs.0) asks.0
asks_at calls maps (Ended a) (e ∷ front) s back v asks runs fine = absurd runs
asks_at calls maps (Asks c f) (e ∷ front) s back v asks runs fine =
    asks_at calls maps (f e.reply) front s back v (asks.1 e.reply (subst (λ (d : Call). IsReplyOf maps d.object d.op e.reply) runs.0 fine.0.1)) runs.1 fine.1

-- ---- a part of a list, each of whose steps follows from those before it

module _ (p : Replay) (calls : ObjectId → Op → Type 0) (kinds : (object : ObjectId) (before : List Op) (op : Op) → AllByRecursion (calls object) before → calls object op → IsReplyOf p.maps object op (answers_of p object before op)) where
  at_object : (o : ObjectId) (steps : List Step) → AllByRecursion (IsFine calls p.maps) steps → AllByRecursion (calls o) (operations (on_object o steps))
  at_object o [] h = tt
  at_object o (s ∷ ss) h = by (at_object o ss h.1) (is_on o s) refl
    where
      by : AllByRecursion (calls o) (operations (on_object o ss)) → (b : Bool) → is_on o s ≡ b → AllByRecursion (calls o) (operations (cond b (s ∷ on_object o ss) (on_object o ss)))
      by rest true e = (subst (λ (x : ObjectId). calls x s.op) (is_same_object-true s.object o e) h.0.0, rest)
      by rest false e = rest

  module _ (prior part more : List Step) (follow : RepliesFollow (answers_of p) (prior ++ (part ++ more))) (early : AllByRecursion (IsFine calls p.maps) prior)
      (next : (front : List Step) (s : Step) (back : List Step) → part ≡ front ++ s ∷ back → AllByRecursion (IsFine calls p.maps) front → calls s.object s.op) where
    part_go : (front rest : List Step) → part ≡ front ++ rest → AllByRecursion (IsFine calls p.maps) front → AllByRecursion (IsFine calls p.maps) rest
    part_go front [] e fine = tt
    part_go front (s ∷ rest) e fine =
        let can = next front s rest e fine in
        let cut : prior ++ (part ++ more) ≡ (prior ++ front) ++ s ∷ (rest ++ more) =
        ap (λ (l : List Step). prior ++ (l ++ more)) e ∙ ap (λ (l : List Step). prior ++ l) (append_assoc front (s ∷ rest) more) ∙ sym (append_assoc prior front (s ∷ (rest ++ more))) in
        let before = each_both (IsFine calls p.maps) prior front early fine in
        let kind : IsReplyOf p.maps s.object s.op s.reply =
        subst (λ (r : Reply). IsReplyOf p.maps s.object s.op r) (sym (follow (prior ++ front) s (rest ++ more) cut))
        (kinds s.object (operations (on_object s.object (prior ++ front))) s.op (at_object s.object (prior ++ front) before) can) in
        ((can, kind), part_go (front ++ s ∷ []) rest (e ∙ sym (append_assoc front (s ∷ []) rest)) (each_both (IsFine calls p.maps) front (s ∷ []) fine ((can, kind), tt)))

    part_fine : AllByRecursion (IsFine calls p.maps) part
    part_fine = part_go [] part refl tt

  -- ---- an interleaving

  module _ (begin : AsksOf calls p.maps (begin_of p)) (cpu : (a : ℕ) → a < cpus_of p → AsksOf calls p.maps (cpu_of p a)) (end : AsksOf calls p.maps (end_of p)) where
    pub steps_are_fine : (steps : List Step) → IsInterleaving p steps → AllByRecursion (IsFine calls p.maps) steps
    steps_are_fine steps i = subst (λ (l : List Step). AllByRecursion (IsFine calls p.maps) l) (sym i.parts) (each_both (IsFine calls p.maps) i.first (i.middle ++ i.last) first_fine (each_both (IsFine calls p.maps) i.middle i.last middle_fine last_fine))
      where
        whole : RepliesFollow (answers_of p) (i.first ++ (i.middle ++ i.last))
        whole = subst (λ (l : List Step). RepliesFollow (answers_of p) l) i.parts i.replies

        first_fine : AllByRecursion (IsFine calls p.maps) i.first
        first_fine = part_fine [] i.first (i.middle ++ i.last) whole tt
            (λ front s back e fine. asks_at calls p.maps (begin_of p) front s back i.begin.value begin (subst (λ (l : List Step). Runs (begin_of p) l i.begin.value) e i.begin.runs) fine)

        at_cpu : (front : List Step) (s : Step) (back : List Step) → i.middle ≡ front ++ s ∷ back → of_actor s.actor i.middle ≡ of_actor s.actor front ++ s ∷ of_actor s.actor back
        at_cpu front s back e =
            ap (of_actor s.actor) e ∙ filter-append (is_of s.actor) front (s ∷ back) ∙ ap (λ (b : Bool). of_actor s.actor front ++ cond b (s ∷ of_actor s.actor back) (of_actor s.actor back)) (eq-eqb s.actor s.actor refl)

        middle_fine : AllByRecursion (IsFine calls p.maps) i.middle
        middle_fine = part_fine i.first i.middle i.last whole first_fine (λ front s back e fine.
            let low : s.actor < cpus_of p = (each_back (λ (t : Step). t.actor < cpus_of p) front (s ∷ back) (subst (λ (l : List Step). AllByRecursion (λ (t : Step). t.actor < cpus_of p) l) e (recursion_from_All (λ (t : Step). t.actor < cpus_of p) i.middle i.middle_is_cpus))).0 in
            let own = i.each_cpu s.actor low in
            asks_at calls p.maps (cpu_of p s.actor) (of_actor s.actor front) s (of_actor s.actor back) own.value (cpu s.actor low)
            (subst (λ (l : List Step). Runs (cpu_of p s.actor) l own.value) (at_cpu front s back e) own.runs)
            (each_kept (IsFine calls p.maps) (is_of s.actor) front fine))

        last_fine : AllByRecursion (IsFine calls p.maps) i.last
        last_fine = part_fine (i.first ++ i.middle) i.last [] end_whole (each_both (IsFine calls p.maps) i.first i.middle first_fine middle_fine)
            (λ front s back e fine. asks_at calls p.maps (end_of p) front s back i.end.value end (subst (λ (l : List Step). Runs (end_of p) l i.end.value) e i.end.runs) fine)
          where
            end_whole : RepliesFollow (answers_of p) ((i.first ++ i.middle) ++ (i.last ++ []))
            end_whole = subst (λ (l : List Step). RepliesFollow (answers_of p) l) (sym (append_assoc i.first i.middle i.last) ∙ ap (λ (l : List Step). (i.first ++ i.middle) ++ l) (sym (append-nil i.last))) whole

-- ---- scripts

pub size_at : (bodies : List TypedBody) (i : ℕ) (b : TypedBody) → slice_get bodies i ≡ Some b → slice_index (map (λ (x : TypedBody). least_length x.layout) bodies) i ≡ least_length b.layout
size_at [] i b e = cc
size_at (x ∷ xs) zero b e = ap (λ (y : TypedBody). least_length y.layout) (same x b e)
  where
    same : (x y : TypedBody) → Some x ≡ Some y → x ≡ y
    same x y q = cc
size_at (x ∷ xs) (suc i) b e = size_at xs i b e

pub all_fine : (decls : List MapDecl) → list_all is_fine_decl decls ≡ true → AllByRecursion IsFineDecl decls
all_fine [] h = tt
all_fine (d ∷ ds) h =
    let p = and_parts (is_fine_decl d) (list_all is_fine_decl ds) h in
    ((decl_fine d p.0).0, all_fine ds p.1)

any_actor : (script : Typed) (attached : Attached) (r : Recording) (actor : ℕ) (object : ObjectId) (op : Op) → IsFineCall (setting_of script attached r actor) (IsItemOf script.formats script.maps) object op → IsOwnCall script attached r object op
any_actor script attached r actor (Shared m n) op p = p
any_actor script attached r actor (Cpu a) op p = p
any_actor script attached r actor Clock op p = p
any_actor script attached r actor Out op p = p

asks_walked : (calls others : ObjectId → Op → Type 0) (maps : List MapDecl) (t : Interaction Ending) → ((object : ObjectId) (op : Op) → calls object op → others object op)
    → AdmitsOf calls maps (λ ending. Unit {0}) t → AsksOf {A = ℕ} others maps (and_then t (λ ending. Ended 0))
asks_walked calls others maps (Ended e) so h = tt
asks_walked calls others maps (Asks c f) so h = (so c.object c.op h.0, λ reply kind. asks_walked calls others maps (f reply) so (h.1 reply kind))

module _ (script : Typed) (attached : Attached) (r : Recording) (job : IsJob script attached r)
    (fit : (decl : MapDecl) (rs : List Reply) → All (IsReadReply decl) rs → All (IsRowOf decl) (merged decl.kind rs)) where
  abbrev own_plan : ℕ → Plan
  own_plan actor = walking script (length r.cpus + 1) actor

  runs_ask : (actor : ℕ) → actor < length r.cpus + 1 → BodiesAsk (IsOwnCall script attached r) script.maps (own_plan actor)
  runs_ask actor low body context payload can = found (slice_get script.bodies body) refl
    where
      within : body < length script.bodies
      within = let long = length-map script.bodies (λ (b : TypedBody). least_length b.layout) in let known = can.known in omega (arith, long, known)

      found : (o : Option TypedBody) → slice_get script.bodies body ≡ o → AsksOf (IsOwnCall script attached r) script.maps (walked o context payload actor (length r.cpus + 1))
      found None e = tt
      found (Some b) e =
          let same = get_or_from_slice_get script.bodies body b b e in
          let long : least_length b.layout ≤ length payload = size_is b e in
          asks_walked (IsFineCall (setting_of script attached r actor) (IsItemOf script.formats script.maps)) (IsOwnCall script attached r) script.maps (walk b context payload actor (length r.cpus + 1)) (any_actor script attached r actor)
          (own-calls (setting_of script attached r actor) script.formats b context payload actor (length r.cpus + 1)
          (record {
            payload_is_long = long;
            length_is_named = can.counted;
            maps_are_served = subst (λ (x : TypedBody). All (λ (m : MapId × MapDecl). slice_get script.maps m.0.0 ≡ Some m.1) x.maps) same (maps_placed script body b within);
            actor_is_the_ports = refl;
            actor_is_below = low;
            actors_are_the_ports = refl;
          })
          (subst (λ (x : TypedBody). All (λ (f : ℕ × List Piece). slice_get script.formats f.0 ≡ Some f.1) x.formats) same (formats_placed script body b within)) fit)
        where
          size_is : (b : TypedBody) → slice_get script.bodies body ≡ Some b → least_length b.layout ≤ length payload
          size_is b e = subst (λ n. n ≤ length payload) (size_at script.bodies body b e) can.long

  kinds_are : (object : ObjectId) (before : List Op) (op : Op) → AllByRecursion (IsOwnCall script attached r object) before → IsOwnCall script attached r object op
      → IsReplyOf script.maps object op (answer script.maps (length r.cpus) object before op)
  kinds_are object before op h own =
      answer-kind (setting_of script attached r 0) (length r.cpus) object before op decls_fine
      (All-from_recursion (CanStep (setting_of script attached r 0) object) before (each_so (IsOwnCall script attached r object) (CanStep (setting_of script attached r 0) object) (λ o p. p.0) before h)) own.0
    where
      decls_fine : All IsFineDecl script.maps
      decls_fine = All-from_recursion IsFineDecl script.maps (all_fine script.maps script.fine)

  -- each step can be made, emits an item of the script, and has a reply of its operation's kind
  pub script_steps : (steps : List Step) → IsInterleaving (replay_of script attached r) steps
      → AllByRecursion (IsOwnStep script attached r) steps
  script_steps steps i =
      steps_are_fine (replay_of script attached r) (IsOwnCall script attached r) kinds_are
      (begin_asks (IsOwnCall script attached r) script.maps (own_plan (length r.cpus)) r attached job.valid (job.bodies (length r.cpus)) (tt, tt) (λ tick low. (low, tt)) (λ number count. (tt, tt)) (runs_ask (length r.cpus) (omega arith)))
      (λ a low. cpu_asks (IsOwnCall script attached r) script.maps (own_plan a) r attached job.valid (job.bodies a) (tt, tt) (λ tick low. (low, tt)) (λ number count. (tt, tt)) (runs_ask a (omega (arith, low))) script.uses_exit)
      (end_asks (IsOwnCall script attached r) script.maps (own_plan (length r.cpus)) r attached job.valid (job.bodies (length r.cpus)) (tt, tt) (λ tick low. (low, tt)) (λ number count. (tt, tt)) (runs_ask (length r.cpus) (omega arith)))
      steps i
