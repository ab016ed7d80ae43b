-- Bodies that are there have a probe and an event for their types.
use Rattle.std.specs.Prelude.{All, List}
use Rattle.std.proofs.lemmas.List.Elements.{All-weaker}
use Rattle.bt_ast.specs.declared.attached.BodyId.{BodyId}
use Rattle.bt_ast.specs.declared.attached.BodyPoint.{BodyPoint}
use Rattle.bt_ast.specs.declared.attached.BodyPoint.TheVariants.{Begin, End, Interval, Event}
use Rattle.bt_ast.specs.declared.probe.Script.{Script}
use Rattle.bt_attach.specs.There.{IsEventThere, IsThere}
use Rattle.bt_types.specs.Bodies.{IsEventOf, IsBodyOf}
use Rattle.event_layout.specs.declared.format.Format.{Format}

event_is_there : (formats : List Format) (point : BodyPoint) → IsEventThere formats point → IsEventOf formats point
event_is_there formats (Event place) there = there
event_is_there formats Begin there = tt
event_is_there formats End there = tt
event_is_there formats Interval there = tt

pub bodies_checked : (tree : Script) (formats : List Format) (bodies : List BodyId) → All (IsThere tree formats) bodies → All (IsBodyOf tree formats) bodies
bodies_checked tree formats bodies there =
    All-weaker (IsThere tree formats) (IsBodyOf tree formats) (λ id is. record { probe = is.probe; event = event_is_there formats id.point is.event }) bodies there
