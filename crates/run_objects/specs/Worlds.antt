-- The world that a run makes its steps in. No public contract speaks of it.
use Rattle.std.specs.Prelude.{ℕ, ◌+◌, List}
use Rattle.bt_core.specs.declared.map.MapDecl.{MapDecl}
use Rattle.bt_core.specs.declared.step.ObjectId.{ObjectId}
use Rattle.bt_core.specs.declared.step.Op.{Op}
use Rattle.bt_core.specs.declared.step.Reply.{Reply}
use Rattle.bt_core.specs.Ports.{Setting, CanStep}
use Rattle.agg_core.specs.Answers.{answer}

-- how many CPUs and ticks there are, and the maps
pub record World : Type 0 where
  pub cpus : ℕ
  pub ticks : ℕ
  pub maps : List MapDecl

-- for an actor of it, of which there is one more than CPUs
abbrev pub setting_in : World → ℕ → Setting
setting_in w actor = record { actor = actor; actors = w.cpus + 1; ticks = w.ticks; maps = w.maps }

-- what its objects answer
abbrev pub answers : World → ObjectId → List Op → Op → Reply
answers w = answer w.maps w.cpus

-- an operation that can be made in it, whoever makes it
abbrev pub IsOwn : World → ObjectId → Op → Type 0
IsOwn w = CanStep (setting_in w 0)
