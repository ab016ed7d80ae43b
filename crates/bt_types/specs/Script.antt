-- What a typed script is: the script's maps, formats and bodies, with its types.
use Rattle.std.specs.Prelude.{◌≡◌, ℕ, List, [], ◌∷◌, map, Option, Some, None, slice_get, Ok}
use Rattle.bt_ast.specs.declared.attached.BodyId.{BodyId}
use Rattle.bt_ast.specs.declared.probe.Probe.{Probe}
use Rattle.bt_ast.specs.declared.probe.Script.{Script}
use Rattle.bt_core.specs.declared.map.MapDecl.{MapDecl}
use Rattle.bt_core.specs.declared.map.MapKind.TheVariants.{Ints}
use Rattle.event_layout.specs.declared.format.Format.{Format}
use Rattle.typed_tree.specs.declared.body.TypedBody.{TypedBody}
use Rattle.typed_tree.specs.declared.script.Typed.{Typed}
use Rattle.typed_tree.specs.Bodies.{tree_parts}
use Rattle.expr_types.specs.declared.known.Known.{Known}
use Rattle.expr_types.specs.declared.known.Printed.{Printed}
use Rattle.bt_types.specs.Bodies.{body_told, layout_at, nothing, script_told}
use Rattle.expr_types.specs.Judge.{judged}
use Rattle.expr_types.specs.Known.{decl_in}
use Rattle.bt_types.specs.Exits.{script_exits}
use Rattle.bt_types.specs.Listed.{IsListed}
use Rattle.bt_types.specs.Under.{AreBehind, AreUnder}
use Rattle.expr_types.specs.Typing.{format_of_call, words_by}

-- a map that is never decided holds whole numbers, and its keys have no parts
abbrev pub decl_or_none : List ℕ → Option MapDecl → MapDecl
decl_or_none name None = record { name = name; kind = Ints; key_shape = [] }
decl_or_none name (Some decl) = decl

-- the maps of a script in the order of their first tokens
abbrev pub maps_of : Known → List MapDecl
maps_of k = map (λ name. decl_or_none name (decl_in name k.decided)) k.names

-- a typed body is the probe's, over the event's layout: written back it has the probe's words
pub record IsTypedBody (script : Script) (formats : List Format) (k : Known) (id : BodyId) (body : TypedBody) : Type 0 where
  pub probe : Probe
  pub of_probe : slice_get script.probes id.probe ≡ Some probe
  pub layout : body.layout ≡ layout_at formats id.point
  pub variables : List (List ℕ)
  pub written : words_by (record { maps = k.names; variables = variables; formats = map format_of_call k.printed }) (tree_parts body.tree) ≡ (body_told probe).words

-- each body has its typed one
abbrev pub AreTypedBodies : Script → List Format → Known → List BodyId → List TypedBody → Type 0
AreTypedBodies script formats k [] [] = Unit {0}
AreTypedBodies script formats k [] (b ∷ bs) = ⊥
AreTypedBodies script formats k (id ∷ ids) [] = ⊥
AreTypedBodies script formats k (id ∷ ids) (b ∷ bs) = IsTypedBody script formats k id b × AreTypedBodies script formats k ids bs

-- No rule is broken, and what is known at the end is what was made of the script. Each body's tree is typed under what is known in it, and it lists
-- what it has named. There is one typed script at most.
pub record IsTypedScript (script : Script) (formats : List Format) (bodies : List BodyId) (typed : Typed) : Type 0 where
  pub known : Known
  pub whole : judged (script_told script formats bodies).points nothing ≡ Ok known
  pub maps : typed.maps ≡ maps_of known
  pub formats_read : typed.formats ≡ map (λ (p : Printed). p.pieces) known.printed
  pub exits : typed.uses_exit ≡ script_exits script
  pub each : AreTypedBodies script formats known bodies typed.bodies
  pub under : AreUnder script formats nothing bodies (map (λ (b : TypedBody). b.tree) typed.bodies)
  pub lists : AreBehind (λ k id body. IsListed typed.maps typed.formats k body) script formats nothing bodies typed.bodies
