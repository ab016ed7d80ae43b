-- One step more of the actor whose turn it is.
use Rattle.std.proofs.Common.{◌≡◌, ◌≢◌, ℕ, suc, max, ◌<◌, ◌≤◌, Bool, true, false, cond, List, [], ◌∷◌, ◌++◌, length, drop, take, slice_index_or, slice_set, sym, refl, ap, ◌∙◌, subst, inl, arith, eq-eqb, ne_eqb}
use Rattle.std.proofs.lemmas.List.{append-nil, get_or-set_same, get_or-set_other, length-set, length-append, drop-append-le}
use Rattle.std.proofs.lemmas.List.Elements.{filter-append}
use mathlib.Core.Logic.{dite}
use native.Mathlib.Decide.{ℕ_discrete}
use Rattle.bt_core.specs.declared.step.ObjectId.{ObjectId}
use Rattle.bt_core.specs.declared.step.Op.{Op}
use Rattle.bt_core.specs.declared.step.Reply.{Reply}
use Rattle.bt_core.specs.declared.step.Step.{Step}
use Rattle.turn_lock.specs.History.{Each}
use Rattle.bt_core.specs.Steps.{is_of, of_actor, on_object, operations, RepliesFollow}
use Rattle.weave.specs.Lists.{greatest}
use Rattle.weave.specs.Woven.{begin_steps, main_clock, actor_clock, StampsFollow, StandsBetween}
use Rattle.bt_core.proofs.StepLists.{AtEach-snoc}
use Rattle.weave.proofs.Growth.{stamps_snoc}
use Rattle.weave.proofs.Less.{not_less}
use Rattle.run_objects.specs.declared.objects.Objects.{Objects}
use Rattle.bt_run.specs.declared.port.Turn.{Turn}
use Rattle.run_objects.specs.Worlds.{World, answers, IsOwn}
use Rattle.run_objects.specs.Objects.{Stand, IsAnswer}
use Rattle.bt_run.specs.Runs.{IsTurnBy, IsTurn, IsRunOf}

pub each_snoc : {A : Type 0} (P : A → Type 0) (xs : List A) (x : A) → Each P xs → P x → Each P (xs ++ x ∷ [])
each_snoc P [] x e p = (p, tt)
each_snoc P (y ∷ ys) x e p = (e.0, each_snoc P ys x e.1 p)

pub greatest_more : (ss : List Step) (s : Step) → greatest (ss ++ s ∷ []) ≡ max (greatest ss) s.stamp
greatest_more [] s = omega arith
greatest_more (x ∷ xs) s = let r = greatest_more xs s in omega arith

pub of_more : (a : ℕ) (steps : List Step) (s : Step) → s.actor ≡ a → of_actor a (steps ++ s ∷ []) ≡ of_actor a steps ++ s ∷ []
of_more a steps s e = filter-append (is_of a) steps (s ∷ []) ∙ ap (λ (b : Bool). of_actor a steps ++ cond b (s ∷ []) []) (eq-eqb s.actor a e)

pub of_same : (a : ℕ) (steps : List Step) (s : Step) → s.actor ≢ a → of_actor a (steps ++ s ∷ []) ≡ of_actor a steps
of_same a steps s ne = filter-append (is_of a) steps (s ∷ []) ∙ ap (λ (b : Bool). of_actor a steps ++ cond b (s ∷ []) []) (ne_eqb s.actor a ne) ∙ append-nil (of_actor a steps)

module _ (cpus : ℕ) (t : Turn) (steps : List Step) (s : Step) (last : ℕ) (mine : s.actor ≡ t.actor) (is_last : last ≡ greatest (of_actor s.actor steps)) where
  abbrev more : List Step
  more = steps ++ s ∷ []

  -- the actor's clock is the greater of its last stamp and the floor
  clock_is : (b : Bool) → IsTurnBy b cpus t steps → actor_clock cpus t.begun more steps s ≡ max last t.floor
  clock_is true by = let ne : s.actor ≢ cpus = λ e. absurd (let l = by.actor in omega arith) in
      let same : begin_steps cpus t.begun more ≡ begin_steps cpus t.begun steps = ap (take t.begun) (of_same cpus steps s ne) in
      ap (λ (b : Bool). cond b (main_clock cpus t.begun steps) (max (greatest (begin_steps cpus t.begun more)) (greatest (of_actor s.actor steps)))) (ne_eqb s.actor cpus ne)
      ∙ (λ i. max (greatest (same i)) (sym is_last i)) ∙ (let f = by.floor in omega arith)
  clock_is false by = let e : s.actor ≡ cpus = mine ∙ by.actor in
      ap (λ (b : Bool). cond b (main_clock cpus t.begun steps) (max (greatest (begin_steps cpus t.begun more)) (greatest (of_actor s.actor steps)))) (eq-eqb s.actor cpus e)
      ∙ ap (λ (b : Bool). cond b (greatest (of_actor cpus steps)) (greatest steps)) (not_less (length (of_actor cpus steps)) t.begun by.begun)
      ∙ by.floor ∙ (let l : last ≡ greatest (of_actor cpus steps) = is_last ∙ ap (λ n. greatest (of_actor n steps)) e in omega arith)

  done : (b : Bool) → IsTurnBy b cpus t steps → t.begun ≤ length (of_actor cpus steps)
  done true by = let e = by.begun in omega arith
  done false by = by.begun

  pub stamps_more : IsTurn cpus t steps → StampsFollow cpus t.begun steps → s.stamp ≡ suc (max (max last t.floor) (greatest (on_object s.object steps))) → StampsFollow cpus t.begun more
  stamps_more turn follow e = stamps_snoc cpus t.begun steps s follow (e ∙ ap (λ n. suc (max n (greatest (on_object s.object steps)))) (sym (clock_is t.among turn.by))) (inl (done t.among turn.by))

  stands : (b : Bool) → IsTurnBy b cpus t steps → s.actor ≢ cpus → length (of_actor cpus steps) ≡ t.begun
  stands true by ne = by.begun
  stands false by ne = absurd (ne (mine ∙ by.actor))

  pub between_more : IsTurn cpus t steps → StandsBetween cpus t.begun steps → StandsBetween cpus t.begun more
  between_more turn between = AtEach-snoc (λ before s. s.actor ≢ cpus → length (of_actor cpus before) ≡ t.begun) steps s between (stands t.among turn.by)

  by_more : (b : Bool) → IsTurnBy b cpus t steps → IsTurnBy b cpus t more
  by_more true by = let ne : s.actor ≢ cpus = λ e. absurd (let l = by.actor in omega arith) in let q = of_same cpus steps s ne in
      record { actor = by.actor; floor = by.floor ∙ sym (ap (λ l. greatest (take t.begun l)) q); begun = ap length q ∙ by.begun }
  by_more false by = let q = of_more cpus steps s (mine ∙ by.actor) in let f = by.floor in let b = by.begun in
      let g : greatest (of_actor cpus more) ≡ max (greatest (of_actor cpus steps)) s.stamp = ap greatest q ∙ greatest_more (of_actor cpus steps) s in
      let h = greatest_more steps s in
      let l : length (of_actor cpus more) ≡ length (of_actor cpus steps ++ s ∷ []) = ap length q in let m = length-append (of_actor cpus steps) (s ∷ []) in
      record { actor = by.actor; floor = omega arith; begun = omega arith }

  pub turn_more : IsTurn cpus t steps → IsTurn cpus t more
  turn_more turn = let m = length-append steps (s ∷ []) in let st = turn.start in record {
    start = omega arith;
    own = subst (Each (λ x. x.actor ≡ t.actor)) (sym (drop-append-le t.start steps (s ∷ []) turn.start)) (each_snoc (λ x. x.actor ≡ t.actor) (drop t.start steps) s turn.own mine);
    by = by_more t.among turn.by;
  }

  actor_small : (b : Bool) → IsTurnBy b cpus t steps → t.actor ≤ cpus
  actor_small true by = let l = by.actor in omega arith
  actor_small false by = let l = by.actor in omega arith

  pub actors_more : IsTurn cpus t steps → Each (λ x. x.actor ≤ cpus) steps → Each (λ x. x.actor ≤ cpus) more
  actors_more turn each = each_snoc (λ x. x.actor ≤ cpus) steps s each (let l = actor_small t.among turn.by in omega arith)

  pub replies_more : (answer : ObjectId → List Op → Op → Reply) → RepliesFollow answer steps → s.reply ≡ answer s.object (operations (on_object s.object steps)) s.op → RepliesFollow answer more
  replies_more answer follow e = AtEach-snoc (λ before s. s.reply ≡ answer s.object (operations (on_object s.object before)) s.op) steps s follow e

  pub lasts_more : (lasts : List ℕ) → ((a : ℕ) (d : ℕ) → a < length lasts → slice_index_or lasts a d ≡ greatest (of_actor a steps)) → last < s.stamp → s.actor < length lasts
      → (a : ℕ) (d : ℕ) → a < length (slice_set lasts s.actor s.stamp) → slice_index_or (slice_set lasts s.actor s.stamp) a d ≡ greatest (of_actor a more)
  lasts_more lasts was above within a d lt = let long = length-set lasts s.actor s.stamp in dite (ℕ_discrete s.actor a)
      (λ e. ap (λ n. slice_index_or (slice_set lasts s.actor s.stamp) n d) (sym e) ∙ get_or-set_same lasts s.actor s.stamp d within
      ∙ (let g = greatest_more (of_actor a steps) s in let l : last ≡ greatest (of_actor a steps) = is_last ∙ ap (λ n. greatest (of_actor n steps)) e in omega arith) ∙ ap greatest (sym (of_more a steps s e)))
      (λ ne. get_or-set_other lasts s.actor a s.stamp d (λ e. ne (sym e)) ∙ was a d (omega arith) ∙ ap greatest (sym (of_same a steps s ne)))

pub actor_within : (cpus : ℕ) (t : Turn) (steps : List Step) → IsTurn cpus t steps → t.actor ≤ cpus
actor_within cpus t steps turn = within t.among turn.by
  where
    within : (b : Bool) → IsTurnBy b cpus t steps → t.actor ≤ cpus
    within true by = let l = by.actor in omega arith
    within false by = let l = by.actor in omega arith

-- the run after one step more
pub run_more : (world : World) (objects new : Objects) (lasts : List ℕ) (top : ℕ) (steps : List Step) (turn : Turn) (object : ObjectId) (op : Op) (clock : ℕ) (r : Reply × ℕ) (d : ℕ) → IsRunOf world objects lasts top steps turn → IsOwn world object op
    → clock ≡ max (slice_index_or lasts turn.actor d) turn.floor → IsAnswer world steps new object op clock r
    → IsRunOf world new (slice_set lasts turn.actor r.1) (max top r.1) (steps ++ record { actor = turn.actor; object = object; stamp = r.1; op = op; reply = r.0 } ∷ []) turn
run_more world objects new lasts top steps turn object op clock r d run own is_clock a =
    let s : Step = record { actor = turn.actor; object = object; stamp = r.1; op = op; reply = r.0 } in
    let small = actor_within world.cpus turn steps run.turn_is in
    let within : turn.actor < length lasts = (let c = run.count in omega arith) in
    let last = slice_index_or lasts turn.actor d in let is_last = run.lasts_are turn.actor d within in
    let stamp : r.1 ≡ suc (max (max (slice_index_or lasts turn.actor d) turn.floor) (greatest (on_object object steps))) = a.stamp ∙ ap (λ n. suc (max n (greatest (on_object object steps)))) is_clock in record {
      fine = run.fine;
      stand = a.stand turn.actor;
      possible = each_snoc (λ (x : Step). IsOwn world x.object x.op) steps s run.possible own;
      count = length-set lasts turn.actor r.1 ∙ run.count;
      lasts_are = lasts_more world.cpus turn steps s last refl is_last lasts run.lasts_are (omega arith) within;
      top_is = (let g = greatest_more steps s in let t = run.top_is in omega arith);
      actors = actors_more world.cpus turn steps s last refl is_last run.turn_is run.actors;
      replies = replies_more world.cpus turn steps s last refl is_last (answers world) run.replies a.reply;
      stamps = stamps_more world.cpus turn steps s last refl is_last run.turn_is run.stamps stamp;
      between = between_more world.cpus turn steps s last refl is_last run.turn_is run.between;
      turn_is = turn_more world.cpus turn steps s last refl is_last run.turn_is;
    }

pub run_kept : (world : World) (objects new : Objects) (lasts : List ℕ) (top : ℕ) (steps : List Step) (turn : Turn) → IsRunOf world objects lasts top steps turn → Stand world steps new → IsRunOf world new lasts top steps turn
run_kept world objects new lasts top steps turn run st = record { fine = run.fine; stand = st; possible = run.possible; count = run.count; lasts_are = run.lasts_are; top_is = run.top_is; actors = run.actors; replies = run.replies; stamps = run.stamps; between = run.between; turn_is = run.turn_is }
