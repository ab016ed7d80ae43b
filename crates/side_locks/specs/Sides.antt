-- What a clause says of the clock's lock and the output's.
use Rattle.std.specs.Prelude.{ℕ, ◌+◌, List}
use Rattle.stamped.specs.Sets.{AreSetTurns, AreAllSetTurns}
use Rattle.step_objects.specs.declared.clock.ClockKind.{ClockKind}
use Rattle.side_locks.specs.declared.sides.SideLocks.{SideLocks}
use Rattle.side_locks.specs.Turns.{Both, clocks, outs}

-- how many CPUs cross how many ticks
abbrev pub side_kind : SideLocks → ClockKind
side_kind sides = record { cpus = sides.cpus; ticks = sides.ticks }

-- the CPUs and the main actor
abbrev pub side_actors : SideLocks → ℕ
side_actors sides = sides.cpus + 1

-- the turns are those of one actor at the clock and at the output
pub record AreSideTurns (sides : SideLocks) (both : Both) : Type 0 where
  pub clock : AreSetTurns sides.clock both.clock
  pub out : AreSetTurns sides.out both.out

-- these are the turns of all actors at both, in the order of the actors
pub record AreAllSideTurns (sides : SideLocks) (all : List Both) : Type 0 where
  pub clock : AreAllSetTurns sides.clock (clocks all)
  pub out : AreAllSetTurns sides.out (outs all)
