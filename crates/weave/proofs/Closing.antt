-- From closed objects to the histories of all objects, and to what each stands for in the woven list.
use Rattle.std.proofs.Common.{◌≡◌, ℕ, suc, ◌+◌, ◌||◌, Bool, true, false, cond, List, [], ◌∷◌, ◌++◌, length, map, refl, sym, ap, ◌∙◌, subst, arith}
use Rattle.std.specs.List.Sorted.{IsPermutation}
use Rattle.bt_core.specs.declared.step.ObjectId.{ObjectId}
use Rattle.bt_core.specs.declared.step.Op.{Op}
use Rattle.bt_core.specs.declared.step.Reply.{Reply}
use Rattle.bt_core.specs.declared.step.Step.{Step}
use Rattle.bt_core.specs.Steps.{is_same_object, on_object, operations}
use Rattle.bt_core.proofs.StepLists.{is_same_object-refl, is_same_object-true}
use Rattle.turn_lock.specs.declared.entry.Entry.{Entry}
use Rattle.turn_lock.specs.declared.lock.TurnLock.{TurnLock}
use Rattle.turn_lock.specs.declared.turn.Turn.{Turn}
use Rattle.turn_lock.specs.History.{Law, IsLegalAfter, Each, made_by, ops}
use Rattle.stamped.specs.declared.trace.Trace.{Trace}
use Rattle.stamped.specs.Rows.{Row, firsts, rests}
use Rattle.stamped.specs.SetEnds.{law_for, HaveParts, IsClosed, AreClosed}
use Rattle.stamped.specs.SetSteps.{AreOwn}
use Rattle.stamped.specs.SetTurns.{AreAt, AreRows}
use Rattle.stamped.specs.Traces.{actor_of, steps_of, floors_of, at_object, entries_at, entry_of}
use Rattle.weave.specs.Order.{InOrder}
use Rattle.weave.specs.Traces.{all_steps, AreTraces, replying, IsHistory, HaveHistories}
use Rattle.weave.proofs.Histories.{ops_same}
use Rattle.weave.proofs.Orders.{level}
use Rattle.weave.proofs.Weaving.{weaves}
use Rattle.weave.specs.Closed.{OwnRows, AreFull, Answer, paired, id_in, history_in, is_among, AreAmong, StandsAt, AllStand}

-- ---- rows

at_length : {O Kind : Type 0} (ls : List (TurnLock O Kind)) (a : ℕ) (ts : List Turn) → AreAt ls a ts → length ts ≡ length ls
at_length [] a [] h = refl
at_length [] a (t ∷ ts) h = absurd h
at_length (l ∷ ls) a [] h = absurd h
at_length (l ∷ ls) a (t ∷ ts) h = ap suc (at_length ls a ts h.2)

pub full_rows : {O Kind : Type 0} (ls : List (TurnLock O Kind)) (os : List ObjectId) (a : ℕ) (rows : List Row) → length os ≡ length ls → AreRows ls a rows → AreFull os rows
full_rows ls os a [] e h = tt
full_rows ls os a (row ∷ rows) e h = (at_length ls a row.1 h.1 ∙ sym e, full_rows ls os (a + 1) rows e h.2)

full_rests : (o : ObjectId) (os : List ObjectId) (rows : List Row) → AreFull (o ∷ os) rows → AreFull os (rests rows)
full_rests o os [] h = tt
full_rests o os ((a, []) ∷ rows) h = absurd (let e = h.0 in omega (arith, e))
full_rests o os ((a, t ∷ ts) ∷ rows) h = ((let e = h.0 in omega (arith, e)), full_rests o os rows h.1)

own_rests : (o : ObjectId) (os : List ObjectId) (rows : List Row) (ts : List Trace) → AreFull (o ∷ os) rows → OwnRows (o ∷ os) rows ts → OwnRows os (rests rows) ts
own_rests o os [] [] h own = tt
own_rests o os [] (t ∷ ts) h own = absurd own
own_rests o os ((a, us) ∷ rows) [] h own = absurd own
own_rests o os ((a, []) ∷ rows) (t ∷ ts) h own = absurd (let e = h.0 in omega (arith, e))
own_rests o os ((a, u ∷ us) ∷ rows) (t ∷ ts) h own = (own.0.1, own_rests o os rows ts h.1 own.1)

-- one actor more
pub own_more : (os : List ObjectId) (rows : List Row) (ts : List Trace) (row : Row) (t : Trace) → OwnRows os rows ts → AreOwn os row.1 t → OwnRows os (rows ++ row ∷ []) (ts ++ t ∷ [])
own_more os [] [] row t h own = (own, tt)
own_more os [] (u ∷ ts) row t h own = absurd h
own_more os (r ∷ rows) [] row t h own = absurd h
own_more os (r ∷ rows) (u ∷ ts) row t h own = (h.0, own_more os rows ts row t h.1 own)

pub full_more : (os : List ObjectId) (rows : List Row) (row : Row) → AreFull os rows → length row.1 ≡ length os → AreFull os (rows ++ row ∷ [])
full_more os [] row h e = (e, tt)
full_more os (r ∷ rows) row h e = (h.0, full_more os rows row h.1 e)

-- ---- histories

-- a legal history, with other words for its replies
plain : (l : Law) (callers : ℕ) (reply : List Op → Op → Reply) → l.callers ≡ callers → ((before : List Op) (op : Op) → l.reply before op ≡ reply before op)
    → (before : List Op) (last : ℕ) (es : List Entry) → IsLegalAfter l before last es → IsLegalAfter (replying callers reply) before last es
plain l callers reply many same before last [] h = tt
plain l callers reply many same before last (e ∷ es) h = (
  record { caller = (let c = h.0.caller in omega (arith, c, many)); own = tt; reply = h.0.reply ∙ same before e.op; stamp = h.0.stamp },
  plain l callers reply many same (before ++ e.op ∷ []) e.stamp es h.1,
)

parts_of : (o : ObjectId) (os : List ObjectId) (a : ℕ) (rows : List Row) (ts : List Trace) (h : List Entry) → AreFull (o ∷ os) rows → OwnRows (o ∷ os) rows ts → AreTraces a ts → HaveParts h a (firsts rows)
    → Each (λ t. made_by (actor_of t) h ≡ at_object o t) ts
parts_of o os a [] [] h full own by parts = tt
parts_of o os a [] (t ∷ ts) h full own by parts = absurd own
parts_of o os a ((b, us) ∷ rows) [] h full own by parts = absurd own
parts_of o os a ((b, []) ∷ rows) (t ∷ ts) h full own by parts = absurd (let e = full.0 in omega (arith, e))
parts_of o os a ((b, u ∷ us) ∷ rows) (t ∷ ts) h full own by parts =
    (ap (λ c. made_by c h) by.0 ∙ parts.0 ∙ own.0.0, parts_of o os (a + 1) rows ts h full.1 own.1 by.1 parts.2)

module _ {O Kind : Type 0} (kind_of : O → Kind) (is_own : Kind → Op → Type 0) (reply_after : Kind → List Op → Op → Reply) (stands_for : O → List Op → Type 0)
    (answer : ObjectId → List Op → Op → Reply) (ts : List Trace) (by : AreTraces 0 ts) where
  -- a closed object's
  pub one_history : (o : ObjectId) (os : List ObjectId) (kind : Kind) (rows : List Row) (object : O) (history : List Entry) (n : ℕ) → n ≡ length ts → AreFull (o ∷ os) rows → OwnRows (o ∷ os) rows ts
      → ((before : List Op) (op : Op) → reply_after kind before op ≡ answer o before op) → IsClosed kind_of is_own reply_after stands_for n kind (firsts rows) object history → IsHistory answer ts o history
  one_history o os kind rows object history n long full own same closed = record {
    legal = plain (law_for is_own reply_after n kind) (length ts) (answer o) long same [] 0 history closed.legal;
    parts = parts_of o os 0 rows ts history full own by closed.parts;
  }

  -- those of a set
  pub histories : (os : List ObjectId) (ks : List Kind) (rows : List Row) (cs : List (O × List Entry)) (n : ℕ) → n ≡ length ts → AreFull os rows → OwnRows os rows ts → Answer reply_after answer os ks
      → AreClosed kind_of is_own reply_after stands_for n ks rows cs → Each (λ p. IsHistory answer ts p.0 p.1) (paired os cs)
  histories [] ks rows cs n long full own same closed = tt
  histories (o ∷ os) [] rows cs n long full own same closed = absurd same
  histories (o ∷ os) (k ∷ ks) rows [] n long full own same closed = tt
  histories (o ∷ os) (k ∷ ks) rows (c ∷ cs) n long full own same closed = (
    one_history o os k rows c.0 c.1 n long full own same.0 closed.0,
    histories os ks (rests rows) cs n long (full_rests o os rows full) (own_rests o os rows ts full own) same.1 closed.1,
  )

-- ---- of all objects

-- steps at other objects alone have no entries
skip : (o : ObjectId) (os : List ObjectId) (s : Step) (b : Bool) (e : Entry) (es : List Entry) → is_same_object s.object o ≡ b → is_among os s.object ≡ true → is_among os o ≡ false → es ≡ [] → cond b (e ∷ es) es ≡ []
skip o os s true e es q here out z = absurd (let t : true ≡ false = sym here ∙ ap (is_among os) (is_same_object-true s.object o q) ∙ out in let f : ⊥ = cc in f)
skip o os s false e es q here out z = z

nothing : (o : ObjectId) (os : List ObjectId) (ss : List Step) (fs : List ℕ) → Each (λ (s : Step). is_among os s.object ≡ true) ss → is_among os o ≡ false → entries_at o ss fs ≡ []
nothing o os [] fs h out = refl
nothing o os (s ∷ ss) [] h out = refl
nothing o os (s ∷ ss) (f ∷ fs) h out = skip o os s (is_same_object s.object o) (entry_of s f) (entries_at o ss fs) refl h.0 out (nothing o os ss fs h.1 out)

all_nothing : (o : ObjectId) (os : List ObjectId) (ts : List Trace) → AreAmong os ts → is_among os o ≡ false → Each (λ t. made_by (actor_of t) [] ≡ at_object o t) ts
all_nothing o os [] h out = tt
all_nothing o os (t ∷ ts) h out = (sym (nothing o os (steps_of t) (floors_of t) h.0 out), all_nothing o os ts h.1 out)

not_both : {A : Type 0} (b : Bool) → b ≡ true → b ≡ false → A
not_both true h k = absurd (let f : ⊥ = cc in f)
not_both false h k = absurd (let f : ⊥ = cc in f)

module _ (answer : ObjectId → List Op → Op → Reply) (ts : List Trace) where
  first_or : (p : ObjectId × List Entry) (o : ObjectId) (rest : List Entry) (b : Bool) → is_same_object p.0 o ≡ b → IsHistory answer ts p.0 p.1 → (b ≡ false → IsHistory answer ts o rest) → IsHistory answer ts o (cond b p.1 rest)
  first_or p o rest true e h k = subst (λ q. IsHistory answer ts q p.1) (is_same_object-true p.0 o e) h
  first_or p o rest false e h k = k refl

  or_false : (b c : Bool) → b ≡ false → (b || c) ≡ c
  or_false true c e = not_both true refl e
  or_false false c e = refl

  found : (ps : List (ObjectId × List Entry)) (o : ObjectId) → Each (λ p. IsHistory answer ts p.0 p.1) ps → is_among (map id_in ps) o ≡ true → IsHistory answer ts o (history_in ps o)
  found [] o h e = not_both false e refl
  found (p ∷ ps) o h e = first_or p o (history_in ps o) (is_same_object p.0 o) refl h.0
      (λ f. found ps o h.1 (sym (or_false (is_same_object p.0 o) (is_among (map id_in ps) o) f) ∙ e))

  none_in : (p : ObjectId × List Entry) (ps : List (ObjectId × List Entry)) (o : ObjectId) (b : Bool) → is_same_object p.0 o ≡ b → (b || is_among (map id_in ps) o) ≡ false
      → (is_among (map id_in ps) o ≡ false → history_in ps o ≡ []) → cond b p.1 (history_in ps o) ≡ []
  none_in p ps o true e f k = not_both true refl f
  none_in p ps o false e f k = k f

  missing : (ps : List (ObjectId × List Entry)) (o : ObjectId) → is_among (map id_in ps) o ≡ false → history_in ps o ≡ []
  missing [] o e = refl
  missing (p ∷ ps) o e = none_in p ps o (is_same_object p.0 o) refl e (missing ps o)

  -- the histories of all objects, where each step is at one of those that were closed
  module _ (ps : List (ObjectId × List Entry)) (known : AreAmong (map id_in ps) ts) (all : Each (λ p. IsHistory answer ts p.0 p.1) ps) where
    by_known : (o : ObjectId) (b : Bool) → is_among (map id_in ps) o ≡ b → IsHistory answer ts o (history_in ps o)
    by_known o true e = found ps o all e
    by_known o false e = subst (IsHistory answer ts o) (sym (missing ps o e)) (record { legal = tt; parts = all_nothing o (map id_in ps) ts known e })

    pub have_histories : AreTraces 0 ts → HaveHistories answer ts (history_in ps)
    have_histories by = record { actors = by; each = λ o. by_known o (is_among (map id_in ps) o) refl }

  -- ---- in the woven list

  module _ (history : ObjectId → List Entry) (given : HaveHistories answer ts history) (steps : List Step) (moved : IsPermutation (all_steps ts) steps) (order : InOrder steps) where
    -- one history put in the place of another
    abbrev put : ObjectId → List Entry → ObjectId → List Entry
    put o es x = cond (is_same_object o x) es (history x)

    put_given : (o : ObjectId) (es : List Entry) (x : ObjectId) (b : Bool) → is_same_object o x ≡ b → IsHistory answer ts o es → IsHistory answer ts x (cond b es (history x))
    put_given o es x true e h = subst (λ q. IsHistory answer ts q es) (is_same_object-true o x e) h
    put_given o es x false e h = given.each x

    pub operations_are : (o : ObjectId) (es : List Entry) → IsHistory answer ts o es → operations (on_object o steps) ≡ ops es
    operations_are o es h =
        let other : HaveHistories answer ts (put o es) = record { actors = given.actors; each = λ x. put_given o es x (is_same_object o x) refl h } in
        ap operations ((weaves answer ts (put o es) other steps moved (level steps order)).objects o)
        ∙ ops_same o (put o es o) ∙ ap (λ b. ops (cond b es (history o))) (is_same_object-refl o)

    module _ {O Kind : Type 0} (kind_of : O → Kind) (is_own : Kind → Op → Type 0) (reply_after : Kind → List Op → Op → Reply) (stands_for : O → List Op → Type 0) where
      pub stands_at : (o : ObjectId) (kind : Kind) (turns : List Turn) (object : O) (es : List Entry) (n : ℕ) → IsClosed kind_of is_own reply_after stands_for n kind turns object es
          → IsHistory answer ts o es → StandsAt kind_of stands_for steps o kind object
      stands_at o kind turns object es n closed h = record { of_kind = closed.of_kind; stands = subst (stands_for object) (sym (operations_are o es h)) closed.stands }

      pub all_stand : (os : List ObjectId) (ks : List Kind) (rows : List Row) (cs : List (O × List Entry)) (n : ℕ) → Answer reply_after answer os ks → AreClosed kind_of is_own reply_after stands_for n ks rows cs
          → Each (λ p. IsHistory answer ts p.0 p.1) (paired os cs) → AllStand kind_of stands_for steps os ks cs
      all_stand [] [] rows [] n same closed h = tt
      all_stand [] [] rows (c ∷ cs) n same closed h = absurd closed
      all_stand [] (k ∷ ks) rows cs n same closed h = absurd same
      all_stand (o ∷ os) [] rows cs n same closed h = absurd same
      all_stand (o ∷ os) (k ∷ ks) rows [] n same closed h = absurd closed
      all_stand (o ∷ os) (k ∷ ks) rows (c ∷ cs) n same closed h = (stands_at o k (firsts rows) c.0 c.1 n closed.0 h.0, all_stand os ks (rests rows) cs n same.1 closed.1 h.1)
