-- The setting that a list is followed in for an actor.
use Rattle.std.specs.Prelude.{ℕ, ◌+◌, List, length}
use Rattle.bt_ast.specs.declared.attached.Attached.{Attached}
use Rattle.bt_core.specs.declared.map.MapDecl.{MapDecl}
use Rattle.bt_core.specs.Ports.{Setting}
use Rattle.recordings.specs.declared.recording.Recording.{Recording}

-- an actor among the recording's CPUs and the main actor, with the ticks that are attached and these maps
abbrev pub setting_for : Recording → Attached → List MapDecl → ℕ → Setting
setting_for r attached maps actor =
    record { actor = actor; actors = length r.cpus + 1; ticks = length attached.ticks; maps = maps }
