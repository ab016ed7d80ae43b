-- The turns of all actors, at each set and together.
use Rattle.std.proofs.Common.{◌≡◌, ℕ, zero, suc, ◌+◌, ◌<◌, List, [], ◌∷◌, ◌++◌, length, get_or, map, refl, sym, ap, ◌∙◌, subst, arith}
use Rattle.std.specs.List.{remove}
use Rattle.std.specs.Prelude.{sum}
use Rattle.std.proofs.lemmas.List.Sums.{sum_by-append}
use Rattle.bt_core.specs.declared.step.ObjectId.{ObjectId}
use Rattle.bt_core.specs.declared.step.ObjectId.TheVariants.{Clock, Out}
use Rattle.turn_lock.specs.declared.turn.Turn.{Turn}
use Rattle.turn_lock.specs.Calls.{IsNew}
use Rattle.turn_lock.specs.History.{Each}
use Rattle.stamped.specs.declared.trace.Trace.{Trace}
use Rattle.stamped.specs.SetSteps.{AreOwn}
use Rattle.stamped.specs.SetTurns.{AreAt, AreNew, AreRows}
use Rattle.stamped.specs.Sets.{locks_of}
use Rattle.stamped.specs.Traces.{steps_of, floors_of, entries_at}
use Rattle.percpu_tables.specs.Tables.{table_ids}
use Rattle.shared_maps.specs.Maps.{part_ids}
use Rattle.side_locks.specs.Turns.{clocks, outs}
use Rattle.weave.specs.Closed.{OwnRows}
use Rattle.cpu_worker.specs.declared.world.WorkerTurns.{WorkerTurns}
use Rattle.cpu_worker.specs.Worlds.{Sets, AreBy, AreTurnsOf, AreOwnIn, KeepsOwn}
use Rattle.thread_actors.specs.Turns.{at_maps, at_tables, at_sides, AreOneActors, AreUnused, AreTurnsFrom, AllOwn}

-- ---- lists

pub sum_first : (x : ℕ) (xs : List ℕ) → sum (x ∷ xs) ≡ x + sum xs
sum_first x xs = sum_by-append (λ y. y) (x ∷ []) xs ∙ omega arith

pub last_out : {A : Type 0} (n : ℕ) (xs : List A) (x : A) → length xs ≡ n + 1 → x ≡ get_or xs n x → xs ≡ remove xs n ++ x ∷ []
last_out n [] x e at = absurd (omega (arith, e))
last_out zero (y ∷ []) x e at = ap (λ z. z ∷ []) (sym at)
last_out zero (y ∷ z ∷ xs) x e at = absurd (omega (arith, e))
last_out (suc n) (y ∷ xs) x e at = ap (λ l. y ∷ l) (last_out n xs x (omega (arith, e)) at)

pub less_long : {A : Type 0} (n : ℕ) (xs : List A) → length xs ≡ n + 1 → length (remove xs n) ≡ n
less_long n [] e = absurd (omega (arith, e))
less_long zero (y ∷ []) e = refl
less_long zero (y ∷ z ∷ xs) e = absurd (omega (arith, e))
less_long (suc n) (y ∷ xs) e = ap suc (less_long n xs (omega (arith, e)))

pub get_front : {A : Type 0} (n : ℕ) (xs : List A) (i : ℕ) (d : A) → length xs ≡ n + 1 → i < n → get_or (remove xs n) i d ≡ get_or xs i d
get_front n [] i d e lt = absurd (omega (arith, e))
get_front zero (y ∷ xs) i d e lt = absurd (omega (arith, lt))
get_front (suc n) (y ∷ xs) zero d e lt = refl
get_front (suc n) (y ∷ xs) (suc i) d e lt = get_front n xs i d (omega (arith, e)) (omega (arith, lt))

pub each_front : {A : Type 0} (P : A → Type 0) (xs ys : List A) → Each P (xs ++ ys) → Each P xs
each_front P [] ys h = tt
each_front P (x ∷ xs) ys h = (h.0, each_front P xs ys h.1)

pub each_last : {A : Type 0} (P : A → Type 0) (xs : List A) (x : A) → Each P (xs ++ x ∷ []) → P x
each_last P [] x h = h.0
each_last P (y ∷ xs) x h = each_last P xs x h.1

pub each_so : {A : Type 0} (P Q : A → Type 0) → ((x : A) → P x → Q x) → (xs : List A) → Each P xs → Each Q xs
each_so P Q f [] h = tt
each_so P Q f (x ∷ xs) h = (f x h.0, each_so P Q f xs h.1)

pub all_unused : (ws : List WorkerTurns) → AreNew (map at_maps ws) → AreNew (map at_tables ws) → AreNew (clocks (map at_sides ws)) → AreNew (outs (map at_sides ws)) → Each AreUnused ws
all_unused [] m t c o = tt
all_unused (w ∷ ws) m t c o = (record { maps = m.0; tables = t.0; clock = c.0; out = o.0 }, all_unused ws m.1 t.1 c.1 o.1)

-- ---- turns of the actors from one on

module _ (sets : Sets) where
  pub from_rows : (k : ℕ) (ws : List WorkerTurns) → AreRows (locks_of sets.maps.set) k (map at_maps ws) → AreRows (locks_of sets.tables.set) k (map at_tables ws)
      → AreRows (locks_of sets.sides.clock) k (clocks (map at_sides ws)) → AreRows (locks_of sets.sides.out) k (outs (map at_sides ws)) → AreTurnsFrom sets k ws
  from_rows k [] m t c o = tt
  from_rows k (w ∷ ws) m t c o = (
    record {
      maps = subst (λ a. AreAt (locks_of sets.maps.set) a w.maps.1) (sym m.0) m.1;
      tables = subst (λ a. AreAt (locks_of sets.tables.set) a w.tables.1) (sym t.0) t.1;
      sides = record {
        clock = subst (λ a. AreAt (locks_of sets.sides.clock) a w.sides.clock.1) (sym c.0) c.1;
        out = subst (λ a. AreAt (locks_of sets.sides.out) a w.sides.out.1) (sym o.0) o.1;
      };
      by = record { maps = m.0; tables = t.0; sides = record { clock = c.0; out = o.0 } };
    },
    from_rows (k + 1) ws m.2 t.2 c.2 o.2,
  )

  pub maps_rows : (k : ℕ) (ws : List WorkerTurns) → AreTurnsFrom sets k ws → AreRows (locks_of sets.maps.set) k (map at_maps ws)
  maps_rows k [] h = tt
  maps_rows k (w ∷ ws) h = (h.0.by.maps, subst (λ a. AreAt (locks_of sets.maps.set) a w.maps.1) h.0.by.maps h.0.maps, maps_rows (k + 1) ws h.1)

  pub tables_rows : (k : ℕ) (ws : List WorkerTurns) → AreTurnsFrom sets k ws → AreRows (locks_of sets.tables.set) k (map at_tables ws)
  tables_rows k [] h = tt
  tables_rows k (w ∷ ws) h = (h.0.by.tables, subst (λ a. AreAt (locks_of sets.tables.set) a w.tables.1) h.0.by.tables h.0.tables, tables_rows (k + 1) ws h.1)

  pub clock_rows : (k : ℕ) (ws : List WorkerTurns) → AreTurnsFrom sets k ws → AreRows (locks_of sets.sides.clock) k (clocks (map at_sides ws))
  clock_rows k [] h = tt
  clock_rows k (w ∷ ws) h = (h.0.by.sides.clock, subst (λ a. AreAt (locks_of sets.sides.clock) a w.sides.clock.1) h.0.by.sides.clock h.0.sides.clock, clock_rows (k + 1) ws h.1)

  pub out_rows : (k : ℕ) (ws : List WorkerTurns) → AreTurnsFrom sets k ws → AreRows (locks_of sets.sides.out) k (outs (map at_sides ws))
  out_rows k [] h = tt
  out_rows k (w ∷ ws) h = (h.0.by.sides.out, subst (λ a. AreAt (locks_of sets.sides.out) a w.sides.out.1) h.0.by.sides.out h.0.sides.out, out_rows (k + 1) ws h.1)

  pub turns_more : (k n : ℕ) (ws : List WorkerTurns) (w : WorkerTurns) → k + length ws ≡ n → AreTurnsFrom sets k ws → AreTurnsOf sets n w → AreTurnsFrom sets k (ws ++ w ∷ [])
  turns_more k n [] w e h own = (subst (λ a. AreTurnsOf sets a w) (let q : n ≡ k = omega (arith, e) in q) own, tt)
  turns_more k n (v ∷ ws) w e h own = (h.0, turns_more (k + 1) n ws w (omega (arith, e)) h.1 own)

  pub turns_front : (k : ℕ) (ws vs : List WorkerTurns) → AreTurnsFrom sets k (ws ++ vs) → AreTurnsFrom sets k ws
  turns_front k [] vs h = tt
  turns_front k (w ∷ ws) vs h = (h.0, turns_front (k + 1) ws vs h.1)

  pub turns_last : (k n : ℕ) (ws : List WorkerTurns) (w : WorkerTurns) → k + length ws ≡ n → AreTurnsFrom sets k (ws ++ w ∷ []) → AreTurnsOf sets n w
  turns_last k n [] w e h = subst (λ a. AreTurnsOf sets a w) (let q : k ≡ n = omega (arith, e) in q) h.0
  turns_last k n (v ∷ ws) w e h = turns_last (k + 1) n ws w (omega (arith, e)) h.1

  pub one_actors : (k : ℕ) (ws : List WorkerTurns) → AreTurnsFrom sets k ws → Each AreOneActors ws
  one_actors k [] h = tt
  one_actors k (w ∷ ws) h = (subst (λ a. AreBy a w) (sym h.0.by.tables) h.0.by, one_actors (k + 1) ws h.1)

  -- ---- what of the traces is at the objects

  pub own_both : (ws : List WorkerTurns) (ts : List Trace) (w : WorkerTurns) (t : Trace) → AllOwn sets ws ts → AreOwnIn sets w t → AllOwn sets (ws ++ w ∷ []) (ts ++ t ∷ [])
  own_both [] [] w t h own = (own, tt)
  own_both [] (u ∷ ts) w t h own = absurd h
  own_both (v ∷ ws) [] w t h own = absurd h
  own_both (v ∷ ws) (u ∷ ts) w t h own = (h.0, own_both ws ts w t h.1 own)

  pub own_long : (ws : List WorkerTurns) (ts : List Trace) → AllOwn sets ws ts → length ws ≡ length ts
  own_long [] [] h = refl
  own_long [] (t ∷ ts) h = absurd h
  own_long (w ∷ ws) [] h = absurd h
  own_long (w ∷ ws) (t ∷ ts) h = ap suc (own_long ws ts h.1)

  pub maps_own : (ws : List WorkerTurns) (ts : List Trace) → AllOwn sets ws ts → OwnRows (part_ids sets.maps) (map at_maps ws) ts
  maps_own [] [] h = tt
  maps_own [] (t ∷ ts) h = absurd h
  maps_own (w ∷ ws) [] h = absurd h
  maps_own (w ∷ ws) (t ∷ ts) h = (h.0.maps, maps_own ws ts h.1)

  pub tables_own : (ws : List WorkerTurns) (ts : List Trace) → AllOwn sets ws ts → OwnRows (table_ids sets.tables) (map at_tables ws) ts
  tables_own [] [] h = tt
  tables_own [] (t ∷ ts) h = absurd h
  tables_own (w ∷ ws) [] h = absurd h
  tables_own (w ∷ ws) (t ∷ ts) h = (h.0.tables, tables_own ws ts h.1)

  pub clock_own : (ws : List WorkerTurns) (ts : List Trace) → AllOwn sets ws ts → OwnRows (Clock ∷ []) (clocks (map at_sides ws)) ts
  clock_own [] [] h = tt
  clock_own [] (t ∷ ts) h = absurd h
  clock_own (w ∷ ws) [] h = absurd h
  clock_own (w ∷ ws) (t ∷ ts) h = (h.0.sides.clock, clock_own ws ts h.1)

  pub out_own : (ws : List WorkerTurns) (ts : List Trace) → AllOwn sets ws ts → OwnRows (Out ∷ []) (outs (map at_sides ws)) ts
  out_own [] [] h = tt
  out_own [] (t ∷ ts) h = absurd h
  out_own (w ∷ ws) [] h = absurd h
  out_own (w ∷ ws) (t ∷ ts) h = (h.0.sides.out, out_own ws ts h.1)

  -- of an empty trace nothing is anywhere, and unused turns have no entries
  pub own_new : (w : WorkerTurns) (t : Trace) → AreUnused w → steps_of t ≡ [] → AreOwnIn sets w t
  own_new w t unused none = record {
    maps = nothing (part_ids sets.maps) w.maps.1 unused.maps;
    tables = nothing (table_ids sets.tables) w.tables.1 unused.tables;
    sides = record { clock = nothing (Clock ∷ []) w.sides.clock.1 unused.clock; out = nothing (Out ∷ []) w.sides.out.1 unused.out };
  }
    where
      nothing : (os : List ObjectId) (ts : List Turn) → Each IsNew ts → AreOwn os ts t
      nothing [] ts new = tt
      nothing (o ∷ os) [] new = tt
      nothing (o ∷ os) (u ∷ ts) new = (new.0.1 ∙ sym (ap (λ z. entries_at o z (floors_of t)) none), nothing os ts new.1)

  pub own_kept : (v w : WorkerTurns) (s t : Trace) → KeepsOwn sets v s w t → AreOwnIn sets v s → AreOwnIn sets w t
  own_kept v w s t keeps own = record { maps = keeps.maps own.maps; tables = keeps.tables own.tables; sides = keeps.sides own.sides }

  -- a trace with other clocks
  pub own_same : (w : WorkerTurns) (s t : Trace) → steps_of t ≡ steps_of s → floors_of t ≡ floors_of s → AreOwnIn sets w s → AreOwnIn sets w t
  own_same w s t steps floors own = record {
    maps = moved (part_ids sets.maps) w.maps.1 own.maps;
    tables = moved (table_ids sets.tables) w.tables.1 own.tables;
    sides = record { clock = moved (Clock ∷ []) w.sides.clock.1 own.sides.clock; out = moved (Out ∷ []) w.sides.out.1 own.sides.out };
  }
    where
      moved : (os : List ObjectId) (ts : List Turn) → AreOwn os ts s → AreOwn os ts t
      moved [] ts h = tt
      moved (o ∷ os) [] h = tt
      moved (o ∷ os) (u ∷ ts) h = (h.0 ∙ sym (λ i. entries_at o (steps i) (floors i)), moved os ts h.1)

  -- ---- the last turns are the main actor's

  module _ (n : ℕ) (ws : List WorkerTurns) (w : WorkerTurns) (long : length ws ≡ n + 1) (at : w ≡ get_or ws n w) where
    split : ws ≡ remove ws n ++ w ∷ []
    split = last_out n ws w long at

    pub main_turns : AreTurnsFrom sets 0 ws → AreTurnsOf sets n w
    main_turns h = turns_last 0 n (remove ws n) w (let e = less_long n ws long in omega (arith, e)) (subst (AreTurnsFrom sets 0) split h)

    pub cpu_turns : AreTurnsFrom sets 0 ws → AreTurnsFrom sets 0 (remove ws n)
    cpu_turns h = turns_front 0 (remove ws n) (w ∷ []) (subst (AreTurnsFrom sets 0) split h)

    pub main_unused : Each AreUnused ws → AreUnused w
    main_unused h = each_last AreUnused (remove ws n) w (subst (Each AreUnused) split h)

    pub cpu_unused : Each AreUnused ws → Each AreUnused (remove ws n)
    cpu_unused h = each_front AreUnused (remove ws n) (w ∷ []) (subst (Each AreUnused) split h)
