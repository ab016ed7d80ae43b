-- Tracks and ticks as a program holds them. No public contract speaks of it.
use Rattle.std.specs.Prelude.{◌<◌, ◌^◌}
use Rattle.std.specs.List.{AllByRecursion}
use Rattle.bt_ast.specs.declared.attached.Tick.{Tick}
use Rattle.recordings.specs.declared.recording.CpuTrack.{CpuTrack}
use Rattle.recordings.specs.Places.{IsHeldEntry}

abbrev pub IsHeldTrack : CpuTrack → Type 0
IsHeldTrack track = AllByRecursion IsHeldEntry track.entries

abbrev pub IsHeldTick : Tick → Type 0
IsHeldTick t = t.time < 2 ^ 64
