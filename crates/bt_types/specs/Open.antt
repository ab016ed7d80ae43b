-- Bodies that were checked, while their script is: definitions for the proof of the check alone.
use Rattle.std.specs.Prelude.{◌≡◌, true, List, map, Some, slice_get, Ok}
use Rattle.std.specs.List.{AllZip}
use Rattle.bt_ast.specs.declared.attached.BodyId.{BodyId}
use Rattle.bt_ast.specs.declared.attached.BodyPoint.{BodyPoint}
use Rattle.bt_ast.specs.declared.probe.Probe.{Probe}
use Rattle.bt_ast.specs.declared.probe.Script.{Script}
use Rattle.bt_core.specs.declared.map.MapDecl.{MapDecl}
use Rattle.fmt_text.specs.declared.piece.Piece.{Piece}
use Rattle.event_layout.specs.declared.format.Format.{Format}
use Rattle.typed_tree.specs.declared.body.TypedBody.{TypedBody}
use Rattle.typed_tree.specs.Bodies.{scope_of, tree_parts}
use Rattle.typed_tree.specs.Scope.{all_fit}
use Rattle.bt_types.specs.declared.body.OpenBody.{OpenBody}
use Rattle.expr_types.specs.declared.known.Known.{Known}
use Rattle.expr_types.specs.declared.known.Var.{Var}
use Rattle.bt_types.specs.Bodies.{body_told, layout_at, script_told}
use Rattle.bt_types.specs.Done.{Done}
use Rattle.bt_types.specs.Listed.{maps_at, formats_at}
use Rattle.bt_types.specs.Under.{AreBehind, AreUnder}
use Rattle.expr_types.specs.Grows.{Grows}
use Rattle.expr_types.specs.Judge.{judged}
use Rattle.expr_types.specs.Known.{begun}
use Rattle.expr_types.specs.Typing.{AllFit, titles_of, words_by}

-- a body keeps its event's layout, and what it has set and named
pub record Keeps (now : Known) (body : OpenBody) : Type 0 where
  pub event : now.event ≡ body.layout
  pub variables : body.tree.variables ≡ map (λ (v : Var). v.shape) now.vars
  pub named : body.named ≡ now.named
  pub calls : body.calls ≡ now.calls

-- a body that was just checked
pub record BodyDone (formats : List Format) (point : BodyPoint) (probe : Probe) (before now : Known) (body : OpenBody) : Type 0 where
  pub done : Done (body_told probe) (begun before (layout_at formats point)) now (tree_parts body.tree)
  pub layout : body.layout ≡ layout_at formats point
  pub keeps : Keeps now body

-- a body of a script that was just checked
pub record OneDone (script : Script) (formats : List Format) (id : BodyId) (before now : Known) (body : OpenBody) : Type 0 where
  pub probe : Probe
  pub of_probe : slice_get script.probes id.probe ≡ Some probe
  pub done : BodyDone formats id.point probe before now body

-- what a body knew, with the names, declarations and formats of later
abbrev pub again : Known → Known → Known
again past k = record k { event = past.event; vars = past.vars; named = past.named; calls = past.calls }

-- a body that was checked earlier
pub record IsOpen (script : Script) (formats : List Format) (k : Known) (id : BodyId) (body : OpenBody) : Type 0 where
  pub probe : Probe
  pub of_probe : slice_get script.probes id.probe ≡ Some probe
  pub past : Known
  pub grows : Grows past (again past k)
  pub fits : AllFit past (tree_parts body.tree)
  pub written : words_by (titles_of past) (tree_parts body.tree) ≡ (body_told probe).words
  pub layout : body.layout ≡ layout_at formats id.point
  pub keeps : Keeps past body

-- a body has the numbers of the maps and calls that it has named, where so much is known at its end
pub record HasNumbers (k : Known) (body : OpenBody) : Type 0 where
  pub named : body.named ≡ k.named
  pub calls : body.calls ≡ k.calls

pub record BodiesDone (script : Script) (formats : List Format) (bodies : List BodyId) (before now : Known) (opens : List OpenBody) : Type 0 where
  pub whole : judged (script_told script formats bodies).points before ≡ Ok now
  pub each : AllZip (IsOpen script formats now) bodies opens
  pub under : AreUnder script formats before bodies (map (λ (b : OpenBody). b.tree) opens)
  pub numbers : AreBehind (λ k id body. HasNumbers k body) script formats before bodies opens

-- what a body names is there, in its types, among these maps and formats
abbrev pub Closes : List MapDecl → List (List Piece) → OpenBody → Type 0
Closes maps formats body = all_fit (scope_of (maps_at maps body.named) (formats_at formats body.calls) body.layout body.tree.variables) (tree_parts body.tree) ≡ true

-- a typed body is made of a checked one
pub record IsClosed (maps : List MapDecl) (formats : List (List Piece)) (body : OpenBody) (typed : TypedBody) : Type 0 where
  pub tree : typed.tree ≡ body.tree
  pub layout : typed.layout ≡ body.layout
  pub maps_named : typed.maps ≡ maps_at maps body.named
  pub formats_called : typed.formats ≡ formats_at formats body.calls
