-- What lowering does to bodies: the run of the blocks is the body's walk, and the two sums are carried.
use Rattle.std.specs.Prelude.{◌≡◌, ℕ, ◌+◌, ◌≤◌, ◌++◌, Bool, true, List, [], length, map, Option, Some, slice_get}
use Rattle.bt_core.specs.declared.context.Context.{Context}
use Rattle.bt_core.specs.declared.map.MapDecl.{MapDecl}
use Rattle.bt_core.specs.declared.map.Shape.{Shape}
use Rattle.bt_core.specs.Interaction.{Ended, and_then}
use Rattle.fmt_text.specs.Arguments.{argument_shapes}
use Rattle.typed_tree.specs.declared.body.TypedBody.{TypedBody}
use Rattle.typed_tree.specs.declared.body.TypedTree.{TypedTree}
use Rattle.typed_tree.specs.declared.expr.NumExpr.{NumExpr}
use Rattle.typed_tree.specs.declared.script.Typed.{Typed}
use Rattle.typed_tree.specs.declared.stmt.TypedBlock.{TypedBlock}
use Rattle.typed_tree.specs.Bodies.{predicate_parts, tree_parts}
use Rattle.typed_tree.specs.Parts.{TreePart, block_parts}
use Rattle.typed_tree.specs.Scope.{all_fit}
use Rattle.walk_meaning.specs.declared.flow.Frame.{Frame}
use Rattle.walk_meaning.specs.Does.{BodyScene}
use Rattle.walk_meaning.specs.Stmts.{block_does}
use Rattle.walk_meaning.specs.Walk.{guarded, tree_does, walk}
use Rattle.walk_meaning.specs.Served.{least_length}
use Rattle.ir_code.specs.declared.blocks.Block.{Block}
use Rattle.ir_code.specs.declared.probe.IrProbe.{IrProbe}
use Rattle.ir_code.specs.Figures.{blocks_slots}
use Rattle.ir_code.specs.Meaning.{blocks_run, ir_run}
use Rattle.ir_code.specs.Serving.{payload_need}
use Rattle.ir_code.specs.Typing.{are_typed}
use Rattle.ir_code.specs.Ways.{lead_forward}
use Rattle.bt_lower.specs.declared.code.Code.{Code}
use Rattle.bt_lower.specs.declared.code.Ways.{Ways}
use Rattle.bt_lower.specs.Lowers.{LowersStmt, seen_by, state}
use Rattle.bt_lower.specs.Needs.{Need, greater, predicate_need, block_need, tree_need}
use Rattle.bt_lower.specs.Sound.{Footing, ground_in, Site, HasRoom}

-- a predicate, and the statements that it guards
abbrev pub guarded_parts : Option NumExpr → TypedBlock → Bool → List TreePart
guarded_parts predicate block inside = predicate_parts predicate ++ block_parts block inside

abbrev pub guarded_need : Option NumExpr → TypedBlock → Need
guarded_need predicate block = greater (predicate_need predicate) (block_need block)

abbrev pub LowersGuarded : Option NumExpr → TypedBlock → Ways → Code → Code → Type 0
LowersGuarded predicate block way old new =
    LowersStmt (guarded_parts predicate block) (guarded predicate (block_does block)) (guarded_need predicate block) way old new

-- what the tree names is there, and there is room for its values
pub record HasPlace (tree : TypedTree) (t : Site) : Type 0 where
  pub named : all_fit t.scope (tree_parts tree) ≡ true
  pub room : HasRoom t.ground (guarded_need tree.predicate tree.block).frame

-- blocks that do a whole tree: where what it names is there, their run is its walk, and they pass the tests of bodies in typed
-- instructions
pub record LowersTree (tree : TypedTree) (bs : List Block) : Type 0 where
  pub runs : (t : Site) → all_fit t.scope (tree_parts tree) ≡ true → (w : BodyScene) → w.maps ≡ t.scope.maps → (frame : Frame)
      → blocks_run bs (seen_by t.ground.maps w) (state frame []) ≡ and_then (tree_does tree w frame) (λ p. Ended p.0)
  pub leads : (t : Site) → HasPlace tree t → lead_forward bs ≡ true
  pub typed : (t : Site) → HasPlace tree t → are_typed (ground_in t.ground) bs ≡ true
  pub reads : (t : Site) → HasPlace tree t → payload_need bs ≤ t.ground.payload
  pub slots : blocks_slots bs + 4 ≤ (tree_need tree).code

-- what the instructions of a body stand on: what they may name, the bytes of their frame, and the bytes of the payload that they may read
abbrev pub footing_of : List MapDecl → List (List Shape) → List Shape → ℕ → ℕ → Footing
footing_of maps formats variables frame payload = record { variables = variables; maps = maps; formats = formats; frame = frame; payload = payload }

-- a probe of a body of a script with these maps, and with formats that want arguments of these types
pub record IsLowered (maps : List MapDecl) (formats : List (List Shape)) (body : TypedBody) (probe : IrProbe) : Type 0 where
  -- its run asks for what the walk asks for, reply by reply, and ends as the walk does
  pub runs : (context : Context) (payload : List ℕ) (actor actors : ℕ) → ir_run probe context payload actor actors ≡ walk body context payload actor actors
  pub variables : probe.variables ≡ body.tree.variables
  pub maps_are : probe.maps ≡ maps
  pub formats_are : probe.formats ≡ formats
  -- it reads no more of the payload than the layout of the body's event has
  pub reads : payload_need probe.blocks.list ≤ least_length body.layout
  -- the two sums over the tree
  pub frame : probe.frame_need ≡ (tree_need body.tree).frame
  pub code : probe.code_need ≡ (tree_need body.tree).code

-- one probe for each of the first so many bodies, in their order
pub record LoweredSoFar (maps : List MapDecl) (formats : List (List Shape)) (bodies : List TypedBody) (many : ℕ) (probes : List IrProbe) : Type 0 where
  pub as_many : length probes ≡ many
  pub each : (n : ℕ) (body : TypedBody) (probe : IrProbe) → slice_get bodies n ≡ Some body → slice_get probes n ≡ Some probe → IsLowered maps formats body probe

-- one for each body of a script
abbrev pub LowersScript : Typed → List IrProbe → Type 0
LowersScript script probes = LoweredSoFar script.maps (map argument_shapes script.formats) script.bodies (length script.bodies) probes
