-- What a clause says of what all actors share, and of an actor's turns at it.
use Rattle.std.specs.Prelude.{◌≡◌, ℕ, ◌+◌, List, length}
use Rattle.bt_core.specs.declared.map.MapDecl.{MapDecl}
use Rattle.bt_core.specs.Ports.{Setting}
use Rattle.actor_plan.specs.Plans.{Plan}
use Rattle.actor_plan.specs.Ready as ready
use Rattle.stamped.specs.declared.trace.Trace.{Trace}
use Rattle.stamped.specs.SetSteps.{AreOwn}
use Rattle.percpu_tables.specs.declared.tables.Tables.{Tables}
use Rattle.percpu_tables.specs.Tables.{AreTableTurns, table_ids}
use Rattle.shared_maps.specs.declared.maps.SharedMaps.{SharedMaps}
use Rattle.shared_maps.specs.Maps.{ArePartTurns, part_ids}
use Rattle.side_locks.specs.declared.sides.SideLocks.{SideLocks}
use Rattle.side_locks.specs.Sides.{AreSideTurns}
use Rattle.side_locks.specs.Steps as side_steps
use Rattle.side_locks.specs.Steps.{OwnBoth}
use Rattle.cpu_worker.specs.declared.world.SharedWorld.{SharedWorld}
use Rattle.cpu_worker.specs.declared.world.WorkerTurns.{WorkerTurns}

-- how many CPUs there are, which is also the main actor's number
abbrev pub world_cpus : SharedWorld → ℕ
world_cpus world = length world.recording.now.cpus

-- the maps of the script
abbrev pub maps_in : SharedWorld → List MapDecl
maps_in world = world.typed.now.maps

-- for an actor: there are the CPUs and the main actor, the attached ticks, and the script's maps
abbrev pub setting_in : SharedWorld → ℕ → Setting
setting_in world actor = record { actor = actor; actors = world_cpus world + 1; ticks = length world.attached.now.ticks; maps = maps_in world }

-- the three sets of locks
pub record Sets : Type 0 where
  pub maps : SharedMaps
  pub tables : Tables
  pub sides : SideLocks

abbrev pub sets_in : SharedWorld → Sets
sets_in world = record { maps = world.maps.now; tables = world.tables.now; sides = world.sides.now }

-- the turns are this actor's
pub record AreBy (actor : ℕ) (turns : WorkerTurns) : Type 0 where
  pub maps : turns.maps.0 ≡ actor
  pub tables : turns.tables.0 ≡ actor
  pub sides : side_steps.AreBy actor turns.sides

-- the turns are this actor's, at these sets
pub record AreTurnsOf (sets : Sets) (actor : ℕ) (turns : WorkerTurns) : Type 0 where
  pub maps : ArePartTurns sets.maps turns.maps
  pub tables : AreTableTurns sets.tables turns.tables
  pub sides : AreSideTurns sets.sides turns.sides
  pub by : AreBy actor turns

-- what of the trace is at each object of the sets is the turn's own list there
pub record AreOwnIn (sets : Sets) (turns : WorkerTurns) (trace : Trace) : Type 0 where
  pub maps : AreOwn (part_ids sets.maps) turns.maps.1 trace
  pub tables : AreOwn (table_ids sets.tables) turns.tables.1 trace
  pub sides : OwnBoth turns.sides trace

-- at each set, what of the trace is at its objects is the turns' own lists there, if it was so before
pub record KeepsOwn (sets : Sets) (old_turns : WorkerTurns) (old : Trace) (new_turns : WorkerTurns) (new : Trace) : Type 0 where
  pub maps : AreOwn (part_ids sets.maps) old_turns.maps.1 old → AreOwn (part_ids sets.maps) new_turns.maps.1 new
  pub tables : AreOwn (table_ids sets.tables) old_turns.tables.1 old → AreOwn (table_ids sets.tables) new_turns.tables.1 new
  pub sides : OwnBoth old_turns.sides old → OwnBoth new_turns.sides new

-- the world's recording can be replayed with what is attached
abbrev pub IsReplayable : SharedWorld → Type 0
IsReplayable world = ready.CanReplay world.recording.now world.attached.now

-- bodies with this plan are made for this actor of the world
abbrev pub IsPlanIn : SharedWorld → ℕ → Plan → Type 0
IsPlanIn world = ready.IsPlanFor world.recording.now world.attached.now (maps_in world)
