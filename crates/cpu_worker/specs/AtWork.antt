-- An actor at work at sets of locks. Of a port this holds at each moment.
use Rattle.std.specs.Prelude.{◌≡◌}
use Rattle.bt_core.specs.Ports.{Setting}
use Rattle.stamped.specs.declared.trace.Trace.{Trace}
use Rattle.stamped.specs.Traces.{actor_of}
use Rattle.cpu_worker.specs.declared.world.WorkerTurns.{WorkerTurns}
use Rattle.cpu_worker.specs.Chains.{Since}
use Rattle.cpu_worker.specs.Worlds.{Sets, AreTurnsOf, KeepsOwn}

-- the sets, the setting, the actor's turns and trace at the start, and both now
pub record AtWork : Type 0 where
  pub sets : Sets
  pub setting : Setting
  pub first_turns : WorkerTurns
  pub first_trace : Trace
  pub turns : WorkerTurns
  pub trace : Trace

-- the turns and the trace are still the actor's, each step since the start is one that the actor can make, and what of the trace is
-- at an object is the turn's own list there, if it was so at the start
pub record IsAtWork (p : AtWork) : Type 0 where
  pub actor : actor_of p.trace ≡ p.setting.actor
  pub turns_are : AreTurnsOf p.sets p.setting.actor p.turns
  pub own : KeepsOwn p.sets p.first_turns p.first_trace p.turns p.trace
  pub since : Since p.setting p.first_trace p.trace
