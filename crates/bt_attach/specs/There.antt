-- That what a body is made of is there.
use Rattle.std.specs.Prelude.{◌<◌, List, length}
use Rattle.bt_ast.specs.declared.attached.BodyId.{BodyId}
use Rattle.bt_ast.specs.declared.attached.BodyPoint.{BodyPoint}
use Rattle.bt_ast.specs.declared.attached.BodyPoint.TheVariants.{Begin, End, Interval, Event}
use Rattle.bt_ast.specs.declared.probe.Script.{Script}
use Rattle.event_layout.specs.declared.format.Format.{Format}

-- an event is that of one of the formats
abbrev pub IsEventThere : List Format → BodyPoint → Type 0
IsEventThere formats (Event place) = place < length formats
IsEventThere formats Begin = Unit {0}
IsEventThere formats End = Unit {0}
IsEventThere formats Interval = Unit {0}

-- a body's probe is one of the script's, and its event that of one of the formats
pub record IsThere (script : Script) (formats : List Format) (id : BodyId) : Type 0 where
  pub probe : id.probe < length script.probes
  pub event : IsEventThere formats id.point
