-- Steps at the clock and at the output.
use Rattle.std.specs.Prelude.{◌≡◌, ℕ, ◌+◌, List, [], ◌∷◌, map}
use Rattle.bt_core.specs.declared.step.ObjectId.{ObjectId}
use Rattle.bt_core.specs.declared.step.ObjectId.TheVariants.{Clock, Out}
use Rattle.bt_core.specs.declared.step.Op.{Op}
use Rattle.bt_core.specs.declared.step.Reply.{Reply}
use Rattle.bt_core.specs.declared.step.Reply.TheVariants.{Done}
use Rattle.bt_core.specs.Ports.{IsClockOp, IsOutOp}
use Rattle.agg_core.specs.Answers.{clock_answer}
use Rattle.turn_lock.specs.History.{Law}
use Rattle.turn_lock.specs.Calls.{mine}
use Rattle.stamped.specs.declared.trace.Trace.{Trace}
use Rattle.stamped.specs.SetEnds.{law_for}
use Rattle.stamped.specs.SetSteps.{AreOwn, IsRefused, AtPlace}
use Rattle.step_objects.specs.declared.clock.ClockKind.{ClockKind}
use Rattle.side_locks.specs.Turns.{Both}

-- the clock or the output, with an operation of its own
abbrev pub IsSideStep : ℕ → ObjectId → Op → Type 0
IsSideStep ticks Clock op = IsClockOp ticks op
IsSideStep ticks Out op = IsOutOp op
IsSideStep ticks object op = ⊥

-- the turns at both are this actor's
pub record AreBy (actor : ℕ) (both : Both) : Type 0 where
  pub clock : both.clock.0 ≡ actor
  pub out : both.out.0 ≡ actor

-- what of the trace is at the clock and at the output is the turns' own lists there
pub record OwnBoth (both : Both) (trace : Trace) : Type 0 where
  pub clock : AreOwn (Clock ∷ []) both.clock.1 trace
  pub out : AreOwn (Out ∷ []) both.out.1 trace

-- the own lists at both are as before
pub record SameOwn (old new : Both) : Type 0 where
  pub clock : map mine new.clock.1 ≡ map mine old.clock.1
  pub out : map mine new.out.1 ≡ map mine old.out.1

-- a clock's operations and replies, and those of the output
abbrev pub own_of_clock : ClockKind → Op → Type 0
own_of_clock kind op = IsClockOp kind.ticks op

abbrev pub reply_of_clock : ClockKind → List Op → Op → Reply
reply_of_clock kind before op = clock_answer kind.cpus before op

abbrev pub own_of_out : Unit {0} → Op → Type 0
own_of_out kind op = IsOutOp op

abbrev pub reply_of_out : Unit {0} → List Op → Op → Reply
reply_of_out kind before op = Done

-- what makes a history of the clock legal, and one of the output, with this many CPUs and the main actor
abbrev pub clock_law : ClockKind → Law
clock_law kind = law_for own_of_clock reply_of_clock (kind.cpus + 1) kind

abbrev pub out_law : ℕ → Law
out_law cpus = law_for own_of_out reply_of_out (cpus + 1) tt

-- each operation is free
abbrev pub always : List Op → Op → Type 0
always before op = Unit {0}

-- the turn at the object has seen on in a legal history, and a clock stands at its end, since each operation is free
abbrev pub RefusesAt : ClockKind → ObjectId → ℕ → Op → Both → Both → Type 0
RefusesAt kind Clock floor op old new = AtPlace (IsRefused (clock_law kind) always floor op) 0 old.clock.1 new.clock.1
RefusesAt kind Out floor op old new = AtPlace (IsRefused (out_law kind.cpus) always floor op) 0 old.out.1 new.out.1
RefusesAt kind object floor op old new = ⊥
