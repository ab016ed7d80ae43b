-- The tables of actors as objects of steps.
use Rattle.std.specs.Prelude.{ℕ, ◌<◌, List}
use Rattle.bt_core.specs.declared.map.MapDecl.{MapDecl}
use Rattle.bt_core.specs.declared.step.ObjectId.{ObjectId}
use Rattle.bt_core.specs.declared.step.ObjectId.TheVariants.{Cpu}
use Rattle.bt_core.specs.declared.step.Op.{Op}
use Rattle.bt_core.specs.Ports.{IsTableOp}

-- the tables of an actor below n, with an operation of their own
abbrev pub IsTableStep : List MapDecl → ℕ → ObjectId → Op → Type 0
IsTableStep maps n (Cpu actor) op = (actor < n) × IsTableOp maps op
IsTableStep maps n object op = ⊥
