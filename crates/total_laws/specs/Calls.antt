-- What calls the programs of a script's actors make.
use Rattle.std.specs.Prelude.{ℕ, ⊤}
use Rattle.bt_core.specs.declared.step.ObjectId.{ObjectId}
use Rattle.bt_core.specs.declared.step.ObjectId.TheVariants.{Clock}
use Rattle.bt_core.specs.declared.step.Op.{Op}
use Rattle.bt_core.specs.declared.step.Op.TheVariants.{Cross, Check}
use Rattle.bt_core.specs.declared.step.Step.{Step}
use Rattle.total_laws.specs.WalkCalls.{IsWalkCall}

-- those of walks; and the clock is asked whether to go on, and who is the last to cross a tick
abbrev pub IsProgramCall : ℕ → ObjectId → Op → Type 0
IsProgramCall actor Clock (Cross tick) = ⊤
IsProgramCall actor Clock Check = ⊤
IsProgramCall actor object op = IsWalkCall actor object op

-- so does a step of an actor
abbrev pub IsProgramStep : Step → Type 0
IsProgramStep s = IsProgramCall s.actor s.object s.op
