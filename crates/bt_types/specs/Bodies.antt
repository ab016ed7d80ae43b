-- What is told of a body, and of all bodies of a script.
use Rattle.std.specs.Prelude.{◌<◌, false, List, [], map, length, Option, Some, None, slice_get, Result, Ok, Err}
use Rattle.std.specs.Option.{option_map}
use Rattle.bt_ast.specs.declared.attached.BodyId.{BodyId}
use Rattle.bt_ast.specs.declared.attached.BodyPoint.{BodyPoint}
use Rattle.bt_ast.specs.declared.attached.BodyPoint.TheVariants.{Begin, End, Interval, Event}
use Rattle.bt_ast.specs.declared.expr.Expr.{Expr}
use Rattle.bt_ast.specs.declared.probe.Probe.{Probe}
use Rattle.bt_ast.specs.declared.probe.Script.{Script}
use Rattle.event_layout.specs.declared.format.Format.{Format}
use Rattle.event_layout.specs.declared.layout.Layout.{Layout}
use Rattle.expr_types.specs.declared.fault.Fault.{Fault}
use Rattle.expr_types.specs.declared.known.Known.{Known}
use Rattle.expr_types.specs.Judge.{judged}
use Rattle.expr_types.specs.Mentions.{Begins, ElseWord, NoElseWord}
use Rattle.bt_types.specs.Told.{Told, told, next, told_in_turn, says, asks, condition_told, of_block}

abbrev pub predicate_told : Option Expr → Told
predicate_told None = says NoElseWord
predicate_told (Some e) = next (says ElseWord) (condition_told e)

-- the predicate, and the block outside of loops
abbrev pub body_told : Probe → Told
body_told p = next (predicate_told p.predicate) (of_block p.block false)

-- the layout of the event of a body
abbrev pub layout_at : List Format → BodyPoint → Option Layout
layout_at formats (Event place) = option_map (λ (f : Format). f.layout) (slice_get formats place)
layout_at formats Begin = None
layout_at formats End = None
layout_at formats Interval = None

-- the probe and the event of a body are there
abbrev pub IsEventOf : List Format → BodyPoint → Type 0
IsEventOf formats (Event place) = place < length formats
IsEventOf formats Begin = Unit {0}
IsEventOf formats End = Unit {0}
IsEventOf formats Interval = Unit {0}

pub record IsBodyOf (script : Script) (formats : List Format) (id : BodyId) : Type 0 where
  pub probe : id.probe < length script.probes
  pub event : IsEventOf formats id.point

-- a body: its beginning, its predicate and its block
abbrev pub begun_told : List Format → BodyPoint → Option Probe → Told
begun_told formats point None = told [] []
begun_told formats point (Some probe) = next (asks probe.place (Begins (layout_at formats point))) (body_told probe)

abbrev pub told_at : Script → List Format → BodyId → Told
told_at script formats id = begun_told formats id.point (slice_get script.probes id.probe)

-- all bodies in their order
abbrev pub script_told : Script → List Format → List BodyId → Told
script_told script formats bodies = told_in_turn (map (told_at script formats) bodies)

-- nothing is known before a script
abbrev pub nothing : Known
nothing = record { event = None; vars = []; named = []; calls = []; names = []; mentioned = []; decided = []; printed = [] }

abbrev pub fault_of : Result Known Fault → Option Fault
fault_of (Ok k) = None
fault_of (Err fault) = Some fault

-- the first fault of a script in walk order
unfoldable pub type_fault : Script → List Format → List BodyId → Option Fault
type_fault script formats bodies = fault_of (judged (script_told script formats bodies).points nothing)
