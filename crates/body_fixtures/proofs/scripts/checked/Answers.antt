use Rattle.std.proofs.Common.{ℕ, ◌<◌, List, length, All}
use Rattle.bt_ast.specs.declared.attached.BodyId.{BodyId}
use Rattle.bt_ast.specs.declared.attached.BodyPoint.{BodyPoint}
use Rattle.bt_ast.specs.declared.attached.BodyPoint.TheVariants.{Begin, End, Interval, Event}
use Rattle.bt_ast.specs.declared.probe.Script.{Script}
use Rattle.event_layout.specs.declared.format.Format.{Format}
use Rattle.bt_attach.specs.There.{IsEventThere, IsThere}
use Rattle.bt_attach.proofs.BodyLemmas.{bodies_there}
use Rattle.bt_types.specs.Bodies.{IsEventOf, IsBodyOf}
use Rattle.body_fixtures.proofs.scripts.checked.Goals as goal

event_of : (formats : List Format) (point : BodyPoint) → IsEventThere formats point → IsEventOf formats point
event_of formats (Event place) h = h
event_of formats Begin h = tt
event_of formats End h = tt
event_of formats Interval h = tt

body_of : (script : Script) (formats : List Format) (id : BodyId) → IsThere script formats id → IsBodyOf script formats id
body_of script formats id h = record { probe = h.probe; event = event_of formats id.point h.event }

pub check-requires : goal.check-requires
check-requires c = λ (k : ℕ) (d : BodyId) h. body_of _ _ _ (bodies_there _ _ _ _ _ c.in_ok-attached.ensures.found k d h)
