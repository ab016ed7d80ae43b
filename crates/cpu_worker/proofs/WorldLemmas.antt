-- The objects of a world, and what of a trace stays at all but the one that a step is at.
use Rattle.std.proofs.Common.{◌≡◌, ◌≢◌, ℕ, zero, suc, ◌+◌, List, [], ◌∷◌, ◌++◌, refl, sym, subst}
use Rattle.std.specs.Prelude.{map}
use Rattle.bt_core.specs.declared.map.MapDecl.{MapDecl}
use Rattle.bt_core.specs.declared.map.MapId.{MapId}
use Rattle.bt_core.specs.declared.step.ObjectId.{ObjectId}
use Rattle.bt_core.specs.declared.step.ObjectId.TheVariants.{Shared, Cpu, Clock, Out}
use Rattle.turn_lock.specs.declared.turn.Turn.{Turn}
use Rattle.turn_lock.specs.History.{Each}
use Rattle.stamped.specs.declared.trace.Trace.{Trace}
use Rattle.stamped.specs.Numbered.{numbered}
use Rattle.stamped.specs.Rows.{Row}
use Rattle.stamped.specs.SetSteps.{AreOwn}
use Rattle.stamped.specs.Traces.{at_object}
use Rattle.stamped.proofs.OwnLemmas.{own_elsewhere}
use Rattle.actor_plan.specs.Plans.{Plan}
use Rattle.actor_plan.specs.Ready as actors
use Rattle.percpu_tables.specs.Tables.{table_actors, table_ids}
use Rattle.shared_maps.specs.Maps.{part_maps, part_ids}
use Rattle.map_ops.specs.Parts.{part_count}
use Rattle.shared_maps.specs.Parts.{Part, part_at, parts_from}
use Rattle.side_locks.specs.Steps.{OwnBoth}
use Rattle.side_locks.specs.Turns.{Both}
use Rattle.cpu_worker.specs.declared.world.SharedWorld.{SharedWorld}
use Rattle.cpu_worker.specs.declared.world.WorkerTurns.{WorkerTurns}
use Rattle.cpu_worker.specs.Worlds.{Sets, setting_in, KeepsOwn, IsReplayable, IsPlanIn}

-- ---- what of the trace stays at the objects of the other sets

numbered_apart : (o : ObjectId) → ((m : MapId) (p : ℕ) → o ≢ Shared m p) → (m : ℕ) (decl : MapDecl) (k n : ℕ) (rest : List Part)
    → Each (λ p. o ≢ p) (map (λ (part : Part). part.0) rest) → Each (λ p. o ≢ p) (map (λ (part : Part). part.0) (numbered (part_at m decl) k n ++ rest))
numbered_apart o ne m decl k zero rest h = h
numbered_apart o ne m decl k (suc n) rest h = (ne (part_at m decl k).1.map k, numbered_apart o ne m decl (k + 1) n rest h)

parts_apart : (o : ObjectId) → ((m : MapId) (p : ℕ) → o ≢ Shared m p) → (k : ℕ) (maps : List MapDecl) → Each (λ p. o ≢ p) (map (λ (part : Part). part.0) (parts_from k maps))
parts_apart o ne k [] = tt
parts_apart o ne k (decl ∷ decls) = numbered_apart o ne k decl 0 (part_count decl.kind) (parts_from (k + 1) decls) (parts_apart o ne (k + 1) decls)

tables_apart : (o : ObjectId) → ((a : ℕ) → o ≢ Cpu a) → (k n : ℕ) → Each (λ p. o ≢ p) (numbered Cpu k n)
tables_apart o ne k zero = tt
tables_apart o ne k (suc n) = (ne k, tables_apart o ne (k + 1) n)

module _ (sets : Sets) (old new : Trace) (object : ObjectId) (elsewhere : (o : ObjectId) → o ≢ object → at_object o new ≡ at_object o old) where
  pub parts_stay : ((m : MapId) (p : ℕ) → object ≢ Shared m p) → (ts : List Turn) → AreOwn (part_ids sets.maps) ts old → AreOwn (part_ids sets.maps) ts new
  parts_stay ne ts h = own_elsewhere (part_ids sets.maps) ts object old new (parts_apart object ne 0 (part_maps sets.maps)) elsewhere h

  pub tables_stay : ((a : ℕ) → object ≢ Cpu a) → (ts : List Turn) → AreOwn (table_ids sets.tables) ts old → AreOwn (table_ids sets.tables) ts new
  tables_stay ne ts h = own_elsewhere (table_ids sets.tables) ts object old new (tables_apart object ne 0 (table_actors sets.tables)) elsewhere h

  pub sides_stay : object ≢ Clock → object ≢ Out → (both : Both) → OwnBoth both old → OwnBoth both new
  sides_stay no_clock no_out both h = record {
    clock = own_elsewhere (Clock ∷ []) both.clock.1 object old new (no_clock, tt) elsewhere h.clock;
    out = own_elsewhere (Out ∷ []) both.out.1 object old new (no_out, tt) elsewhere h.out;
  }

  -- a step at one set, which keeps its own: the other two keep theirs
  module _ (t u : WorkerTurns) where
    pub keeps_at_part : (m : MapId) (p : ℕ) → object ≡ Shared m p → (AreOwn (part_ids sets.maps) t.maps.1 old → AreOwn (part_ids sets.maps) u.maps.1 new)
        → u.tables ≡ t.tables → u.sides ≡ t.sides → KeepsOwn sets t old u new
    keeps_at_part m p is own tables_same sides_same = record {
      maps = own;
      tables = λ h. subst (λ (row : Row). AreOwn (table_ids sets.tables) row.1 new) (sym tables_same) (tables_stay (λ a e. let no : ⊥ = cc in no) t.tables.1 h);
      sides = λ h. subst (λ (both : Both). OwnBoth both new) (sym sides_same) (sides_stay (λ e. let no : ⊥ = cc in no) (λ e. let no : ⊥ = cc in no) t.sides h);
    }

    pub keeps_at_tables : (a : ℕ) → object ≡ Cpu a → (AreOwn (table_ids sets.tables) t.tables.1 old → AreOwn (table_ids sets.tables) u.tables.1 new)
        → u.maps ≡ t.maps → u.sides ≡ t.sides → KeepsOwn sets t old u new
    keeps_at_tables a is own maps_same sides_same = record {
      maps = λ h. subst (λ (row : Row). AreOwn (part_ids sets.maps) row.1 new) (sym maps_same) (parts_stay (λ m p e. let no : ⊥ = cc in no) t.maps.1 h);
      tables = own;
      sides = λ h. subst (λ (both : Both). OwnBoth both new) (sym sides_same) (sides_stay (λ e. let no : ⊥ = cc in no) (λ e. let no : ⊥ = cc in no) t.sides h);
    }

    pub keeps_at_clock : object ≡ Clock → (OwnBoth t.sides old → OwnBoth u.sides new) → u.maps ≡ t.maps → u.tables ≡ t.tables → KeepsOwn sets t old u new
    keeps_at_clock is own maps_same tables_same = record {
      maps = λ h. subst (λ (row : Row). AreOwn (part_ids sets.maps) row.1 new) (sym maps_same) (parts_stay (λ m p e. let no : ⊥ = cc in no) t.maps.1 h);
      tables = λ h. subst (λ (row : Row). AreOwn (table_ids sets.tables) row.1 new) (sym tables_same) (tables_stay (λ a e. let no : ⊥ = cc in no) t.tables.1 h);
      sides = own;
    }

    pub keeps_at_out : object ≡ Out → (OwnBoth t.sides old → OwnBoth u.sides new) → u.maps ≡ t.maps → u.tables ≡ t.tables → KeepsOwn sets t old u new
    keeps_at_out is own maps_same tables_same = record {
      maps = λ h. subst (λ (row : Row). AreOwn (part_ids sets.maps) row.1 new) (sym maps_same) (parts_stay (λ m p e. let no : ⊥ = cc in no) t.maps.1 h);
      tables = λ h. subst (λ (row : Row). AreOwn (table_ids sets.tables) row.1 new) (sym tables_same) (tables_stay (λ a e. let no : ⊥ = cc in no) t.tables.1 h);
      sides = own;
    }

pub keeps_same : (sets : Sets) (turns : WorkerTurns) (trace : Trace) → KeepsOwn sets turns trace turns trace
keeps_same sets turns trace = record { maps = λ h. h; tables = λ h. h; sides = λ h. h }

pub keeps_more : (sets : Sets) (t : WorkerTurns) (a : Trace) (u : WorkerTurns) (b : Trace) (v : WorkerTurns) (c : Trace)
    → KeepsOwn sets t a u b → KeepsOwn sets u b v c → KeepsOwn sets t a v c
keeps_more sets t a u b v c h k = record { maps = λ own. k.maps (h.maps own); tables = λ own. k.tables (h.tables own); sides = λ own. k.sides (h.sides own) }

-- ---- bodies that are made for an actor of a world can be run over it

pub ready : (world : SharedWorld) (actor : ℕ) (plan : Plan) → IsReplayable world → IsPlanIn world actor plan
    → actors.IsReady plan world.recording.now world.attached.now (setting_in world actor)
ready world actor plan can is = record {
  valid = can.valid;
  bodies = is.bodies;
  served = record { actor = sym is.actor_is; actors = sym is.actors; maps = is.served };
  ticks = refl;
  takes_few = is.takes_few;
  few_at_events = can.few_at_events;
  few_begin = can.few_begin;
  few_end = can.few_end;
}
