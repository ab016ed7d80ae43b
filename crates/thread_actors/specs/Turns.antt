-- The turns of all actors. No public contract speaks of it.
use Rattle.std.specs.Prelude.{ℕ, ◌+◌, List, [], ◌∷◌}
use Rattle.turn_lock.specs.Calls.{IsNew}
use Rattle.turn_lock.specs.History.{Each}
use Rattle.stamped.specs.declared.trace.Trace.{Trace}
use Rattle.stamped.specs.Rows.{Row}
use Rattle.side_locks.specs.Turns.{Both}
use Rattle.cpu_worker.specs.declared.world.WorkerTurns.{WorkerTurns}
use Rattle.cpu_worker.specs.Worlds.{Sets, AreBy, AreTurnsOf, AreOwnIn}

-- an actor's turns at each set
abbrev pub at_maps : WorkerTurns → Row
at_maps turns = turns.maps

abbrev pub at_tables : WorkerTurns → Row
at_tables turns = turns.tables

abbrev pub at_sides : WorkerTurns → Both
at_sides turns = turns.sides

-- the turns are one actor's at all sets
abbrev pub AreOneActors : WorkerTurns → Type 0
AreOneActors turns = AreBy turns.tables.0 turns

-- none of them has an entry
pub record AreUnused (turns : WorkerTurns) : Type 0 where
  pub maps : Each IsNew turns.maps.1
  pub tables : Each IsNew turns.tables.1
  pub clock : Each IsNew turns.sides.clock.1
  pub out : Each IsNew turns.sides.out.1

module _ (sets : Sets) where
  -- these are the turns of the actors from this one on
  abbrev pub AreTurnsFrom : ℕ → List WorkerTurns → Type 0
  AreTurnsFrom actor [] = Unit {0}
  AreTurnsFrom actor (w ∷ ws) = AreTurnsOf sets actor w × AreTurnsFrom (actor + 1) ws

  -- what of each trace is at each object is the own list of its actor's turn there
  abbrev pub AllOwn : List WorkerTurns → List Trace → Type 0
  AllOwn [] [] = Unit {0}
  AllOwn [] (t ∷ ts) = ⊥
  AllOwn (w ∷ ws) [] = ⊥
  AllOwn (w ∷ ws) (t ∷ ts) = AreOwnIn sets w t × AllOwn ws ts
