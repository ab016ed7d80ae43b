-- What owning or sharing the tracks and the ticks of a job tells of them, by their types.
use Rattle.std.proofs.Common.{List}
use Rattle.std.specs.List.{AllByRecursion}
use Rattle.std.proofs.lemmas.List.Elements.{recursion_from_All}
use mir.Syntax.{w32, w64}
use denote.Known.{All, Known, uint_known, declared_known}
use Rattle.run_output.proofs.EntriesKnown.{entries_known, entries_held}
use Rattle.recordings.specs.contracts.recording.CpuTrack as track
use Rattle.bt_ast.specs.contracts.attached.Tick as tick
use Rattle.recordings.specs.declared.recording.CpuTrack.{CpuTrack}
use Rattle.bt_ast.specs.declared.attached.Tick.{Tick}
use Rattle.run_output.specs.Held.{IsHeldTrack, IsHeldTick}

abbrev pub track_known : Known track.the_row
track_known = declared_known track.the_type (uint_known w32, (entries_known, tt))

abbrev pub tick_known : Known tick.the_row
tick_known = declared_known tick.the_type (uint_known w64, (uint_known w32, tt))

track_held : (t : CpuTrack) → track_known.Fact t → IsHeldTrack t
track_held t f = entries_held t.entries f.1.0

pub tracks_held : (tracks : List CpuTrack) → All track_known.Fact tracks → AllByRecursion IsHeldTrack tracks
tracks_held tracks f = recursion_from_All IsHeldTrack tracks (λ k d lt. track_held _ (f k d lt))

pub ticks_held : (ticks : List Tick) → All tick_known.Fact ticks → AllByRecursion IsHeldTick ticks
ticks_held ticks f = recursion_from_All IsHeldTick ticks (λ k d lt. (f k d lt).0)
