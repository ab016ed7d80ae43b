-- Replays whose actors ask only what their objects take.
use Rattle.std.specs.Prelude.{ℕ, ◌+◌, ◌<◌, All, length}
use Rattle.bt_core.specs.Kinds.{IsFineDecl}
use Rattle.bt_core.specs.Ports.{Setting}
use Rattle.actor_plan.specs.Plans.{OnlyAsks}
use Rattle.bt_meaning.specs.Replays.{Replay, cpus_of, begin_of, cpu_of, end_of}

-- the objects of a replay; which actor asks is the same to them
abbrev pub objects_of : Replay → Setting
objects_of p = record { actor = 0; actors = cpus_of p + 1; ticks = length p.attached.ticks; maps = p.maps }

-- the maps are well declared, and as long as each reply is of the kind of its call, each call of an actor is one that its object takes
pub record AsksObjects (p : Replay) : Type 0 where
  pub fine : All IsFineDecl p.maps
  pub begin : OnlyAsks (objects_of p) (begin_of p)
  pub cpus : (cpu : ℕ) → cpu < cpus_of p → OnlyAsks (objects_of p) (cpu_of p cpu)
  pub end : OnlyAsks (objects_of p) (end_of p)
