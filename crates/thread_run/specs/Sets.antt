-- The sets of locks of a run. No public contract speaks of it.
use Rattle.std.specs.Prelude.{◌≡◌, ◌+◌, List, length, map}
use Rattle.percpu_tables.specs.Tables.{AreAllTableTurns, table_actors, table_maps}
use Rattle.shared_maps.specs.Maps.{AreAllPartTurns, part_actors, part_maps}
use Rattle.side_locks.specs.Sides.{AreAllSideTurns, side_kind}
use Rattle.run_output.specs.declared.job.Job.{Job}
use Rattle.run_output.specs.Jobs.{cpus_in}
use Rattle.cpu_worker.specs.declared.world.WorkerTurns.{WorkerTurns}
use Rattle.thread_run.specs.declared.sets.Sets.{Sets}
use Rattle.thread_actors.specs.Turns.{at_maps, at_tables, at_sides}

-- the sets are those of the job's maps and ticks, for its CPUs and the main actor
pub record AreFor (job : Job) (sets : Sets) : Type 0 where
  pub maps : part_maps sets.maps ≡ job.typed.maps
  pub maps_actors : part_actors sets.maps ≡ cpus_in job + 1
  pub tables : table_maps sets.tables ≡ job.typed.maps
  pub tables_actors : table_actors sets.tables ≡ cpus_in job + 1
  pub sides : side_kind sets.sides ≡ record { cpus = cpus_in job; ticks = length job.attached.ticks }

-- these are the turns of all actors at all sets
pub record AreAllTurns (sets : Sets) (turns : List WorkerTurns) : Type 0 where
  pub maps : AreAllPartTurns sets.maps (map at_maps turns)
  pub tables : AreAllTableTurns sets.tables (map at_tables turns)
  pub sides : AreAllSideTurns sets.sides (map at_sides turns)
