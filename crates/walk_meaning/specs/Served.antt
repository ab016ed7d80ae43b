-- What is served and named where a body is walked, and what its parts fit.
use Rattle.std.specs.Prelude.{◌≡◌, ℕ, ◌<◌, ◌≤◌, IsTrue, Bool, List, All, length, Option, Some, None, slice_get, IsSomeAnd, map}
use Rattle.std.specs.List.{list_all}
use Rattle.bt_core.specs.declared.context.Context.{Context}
use Rattle.bt_core.specs.declared.map.MapDecl.{MapDecl}
use Rattle.bt_core.specs.declared.map.MapId.{MapId}
use Rattle.bt_core.specs.declared.map.MapKind.{MapKind}
use Rattle.bt_core.specs.declared.map.Shape.{Shape}
use Rattle.bt_core.specs.declared.value.Value.{Value}
use Rattle.bt_core.specs.Kinds.{IsShared, HasShape}
use Rattle.bt_core.specs.Ports.{Setting}
use Rattle.event_layout.specs.declared.layout.Layout.{Layout}
use Rattle.typed_tree.specs.declared.body.TypedBody.{TypedBody}
use Rattle.typed_tree.specs.declared.expr.AnyExpr.{AnyExpr}
use Rattle.typed_tree.specs.declared.stmt.TypedBlock.{TypedBlock}
use Rattle.typed_tree.specs.declared.stmt.TypedStmt.{TypedStmt}
use Rattle.typed_tree.specs.Bodies.{scope_of}
use Rattle.typed_tree.specs.Parts.{TreePart, Made, made_of, stmt_parts, block_parts}
use Rattle.typed_tree.specs.Scope.{Scope, all_fit, is_fine_decl, is_shared, decl_of}
use Rattle.walk_meaning.specs.declared.view.View.{View}
use Rattle.walk_meaning.specs.Does.{BodyScene}

-- how long a payload is at least
abbrev pub least_length : Option Layout → ℕ
least_length None = 0
least_length (Some layout) = layout.size

-- the conditions of a walk: the payload has the size of the body's layout and the context names its length, the port serves
-- the body's maps under their numbers, and the actor is the port's and below the number of its actors
pub record CanWalk (setting : Setting) (body : TypedBody) (context : Context) (payload : List ℕ) (actor actors : ℕ) : Type 0 where
  pub payload_is_long : least_length body.layout ≤ length payload
  pub length_is_named : context.payload_len ≡ length payload
  pub maps_are_served : All (λ (m : MapId × MapDecl). slice_get setting.maps m.0.0 ≡ Some m.1) body.maps
  pub actor_is_the_ports : setting.actor ≡ actor
  pub actor_is_below : actor < actors
  pub actors_are_the_ports : setting.actors ≡ actors

abbrev pub scene_in : View → BodyScene
scene_in v = record { context = v.context.now; payload = v.payload.now; actor = v.actor; actors = v.actors; maps = v.body.now.maps }

-- the conditions, and declarations that are well formed
pub record IsServed (v : View) (setting : Setting) : Type 0 where
  pub can : CanWalk setting v.body.now v.context.now v.payload.now v.actor v.actors
  pub fine : IsTrue (list_all (λ (m : MapId × MapDecl). is_fine_decl m.1) v.body.now.maps)

abbrev pub scope_in : View → Scope
scope_in v = scope_of v.body.now.maps v.body.now.formats v.body.now.layout v.body.now.tree.variables

-- parts that name what the body has
abbrev pub Fits : View → List TreePart → Type 0
Fits v parts = IsTrue (all_fit (scope_in v) parts)

-- the same of a statement and a block, inside a loop or outside
abbrev pub StmtFits : View → TypedStmt → Type 0
StmtFits v s = (inside : Bool) × Fits v (stmt_parts s inside)

abbrev pub BlockFits : View → TypedBlock → Type 0
BlockFits v b = (inside : Bool) × Fits v (block_parts b inside)

-- the body has a declaration of this map, of values and with these keys
abbrev pub NamesShared : View → MapId → List Shape → Type 0
NamesShared v m keys = IsTrue (is_shared (decl_of m.0 v.body.now.maps) keys)

-- a shared map of this kind is served, and the key is one of its keys
abbrev pub HoldsUnder : Setting → MapId → MapKind → List Value → Type 0
HoldsUnder setting m kind key = IsSomeAnd (slice_get setting.maps m.0) (λ decl. (decl.kind ≡ kind) × IsShared kind × HasShape decl.key_shape key)

-- the types and parts of expressions
abbrev pub all_made : List AnyExpr → List Made
all_made es = map made_of es
