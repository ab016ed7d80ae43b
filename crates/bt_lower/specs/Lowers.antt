-- What lowering does to code: it then does a construct, and after it what it did before.
use Rattle.std.specs.Prelude.{◌≡◌, ℕ, ◌+◌, ◌*◌, ◌<◌, ◌≤◌, max, Bool, true, List, [], ◌∷◌, ◌++◌, length, reverse, Option, option_map, slice_get, map}
use Rattle.bt_core.specs.declared.ending.Ending.{Ending}
use Rattle.bt_core.specs.declared.map.MapDecl.{MapDecl}
use Rattle.bt_core.specs.declared.map.Shape.{Shape}
use Rattle.bt_core.specs.declared.map.Shape.TheVariants as shapes
use Rattle.bt_core.specs.declared.value.Value.{Value}
use Rattle.bt_core.specs.Interaction.{Interaction, Ended, and_then}
use Rattle.typed_tree.specs.declared.expr.AnyExpr.{AnyExpr}
use Rattle.typed_tree.specs.declared.expr.NumExpr.{NumExpr}
use Rattle.typed_tree.specs.declared.expr.StrExpr.{StrExpr}
use Rattle.typed_tree.specs.declared.stmt.TypedBlock.{TypedBlock}
use Rattle.typed_tree.specs.declared.stmt.TypedStmt.{TypedStmt}
use Rattle.typed_tree.specs.declared.stmt.TypedStmt.TheVariants as stmts
use Rattle.typed_tree.specs.Parts.{TreePart, Made, made_of, parts_in, key_shapes, stmt_parts}
use Rattle.typed_tree.specs.Parts.{block_parts, joined, arm_parts, otherwise_parts, option_inside, num_parts, str_parts}
use Rattle.typed_tree.specs.Scope.{all_fit}
use Rattle.walk_meaning.specs.declared.flow.Flow.{Flow}
use Rattle.walk_meaning.specs.declared.flow.Flow.TheVariants.{Next, Break, Continue, Stop}
use Rattle.walk_meaning.specs.declared.flow.Frame.{Frame}
use Rattle.walk_meaning.specs.Does.{Does, in_order}
use Rattle.walk_meaning.specs.Does.{BodyScene}
use Rattle.walk_meaning.specs.Exprs.{value_does, values_do, number_does, text_does, number_value, text_value}
use Rattle.walk_meaning.specs.Stmts.{stmt_does, block_does, first_arm, block_or_next}
use Rattle.ir_code.specs.declared.blocks.Block.{Block}
use Rattle.ir_code.specs.declared.state.State.{State}
use Rattle.ir_code.specs.Figures.{size_of, sizes_of, by_shape}
use Rattle.ir_code.specs.Meaning.{Scene, code_run, run_from}
use Rattle.map_ops.specs.Values.{shape_of}
use Rattle.bt_lower.specs.declared.code.Code.{Code}
use Rattle.bt_lower.specs.declared.code.Ways.{Ways}
use Rattle.bt_lower.specs.Code.{code_slots}
use Rattle.bt_lower.specs.Needs.{Need, need, value_need, values_need, number_need, text_need}
use Rattle.bt_lower.specs.Needs.{stmt_need, block_need, otherwise_need, list_frame, sizes_in, codes_in}
use Rattle.bt_lower.specs.Sound.{Site, HasRoom, Opens, Sound, Target, WaysStand}

-- the blocks of a list from this number on stand in the final one
pub record Stand (from : ℕ) (xs bs : List Block) : Type 0 where
  pub at : (b : ℕ) → from ≤ b → b < length xs → slice_get bs b ≡ slice_get xs b

-- one list of blocks begins with another
pub record Grew (xs ys : List Block) : Type 0 where
  pub more : List Block
  pub is : ys ≡ xs ++ more

-- where n blocks or more may follow, what is open does this from this state on
pub record Runs (bs : List Block) (c : Code) (n : ℕ) (scene : Scene) (s : State) (u : Interaction Ending) : Type 0 where
  pub by : (m : ℕ) → n ≤ m → code_run (run_from bs m scene) (reverse c.instrs) c.exit scene s ≡ u

-- with n blocks or more the run from this block does this from this state on
pub record Reaches (bs : List Block) (b : ℕ) (n : ℕ) (scene : Scene) (s : State) (u : Interaction Ending) : Type 0 where
  pub by : (m : ℕ) → n ≤ m → run_from bs m scene b s ≡ u

abbrev pub state : Frame → List Value → State
state frame stack = record { variables = frame.variables; turns = frame.turns; stack = stack }

-- what a run of the blocks sees, from what a walk sees
abbrev pub seen_by : List MapDecl → BodyScene → Scene
seen_by maps w = record { context = w.context; payload = w.payload; actor = w.actor; actors = w.actors; maps = maps }

abbrev pub all_made : List AnyExpr → List Made
all_made es = map made_of es

-- what a value that is known needs
abbrev pub known_need : Value → Need
known_need v = need (by_shape (shape_of v) 8 64) (by_shape (shape_of v) 4 32)

-- the new code evaluates from left to right, puts the values on the stack, and does what the old one did; it needs no more than this
pub record LowersParts (parts : List TreePart) (ds : List (Does Value)) (shapes : List Shape) (n : Need) (old new : Code) : Type 0 where
  pub grew : Grew old.blocks new.blocks
  pub depth : new.depth ≡ old.depth
  pub slots : code_slots new ≤ code_slots old + n.code
  pub sizes : sizes_of shapes ≤ n.frame
  pub stack : (rest : List Shape) → old.stack ≡ rest ++ shapes → new.stack ≡ rest
  pub does : (bs : List Block) → Stand (length old.blocks) new.blocks bs
      → (base : ℕ) (maps : List MapDecl) (w : BodyScene) (frame : Frame) (values : List Value) (k : (List Value × Frame) → Interaction Ending)
      → ((p : List Value × Frame) → length p.0 ≡ length shapes → p.1.turns ≡ frame.turns
      → Runs bs old (base + length old.blocks) (seen_by maps w) (state p.1 (values ++ p.0)) (k p))
      → Runs bs new (base + length new.blocks) (seen_by maps w) (state frame values) (and_then (in_order ds w frame) k)
  pub sound : (bs : List Block) → Stand (length old.blocks) new.blocks bs → (t : Site) → all_fit t.scope parts ≡ true
      → (rest : List Shape) → old.stack ≡ rest ++ shapes
      → HasRoom t.ground (sizes_of rest + n.frame) → Opens t.ground bs old → Opens t.ground bs new × Sound t.ground bs (length old.blocks) (length new.blocks)

abbrev pub LowersValue : List TreePart → Does Value → Shape → Need → Code → Code → Type 0
LowersValue parts d shape n old new = LowersParts parts (d ∷ []) (shape ∷ []) n old new

abbrev pub LowersNumber : NumExpr → Code → Code → Type 0
LowersNumber e old new = LowersValue (num_parts e) (number_value (number_does e)) shapes.Int (number_need e) old new

abbrev pub LowersText : StrExpr → Code → Code → Type 0
LowersText e old new = LowersValue (str_parts e) (text_value (text_does e)) shapes.Str (text_need e) old new

-- an expression of either type, whose value has the size of its type
pub record LowersAny (e : AnyExpr) (old new : Code) : Type 0 where
  pub lowered : LowersValue (made_of e).parts (value_does e) (made_of e).shape (value_need e).need old new
  pub sized : (value_need e).size ≡ size_of (made_of e).shape

-- expressions from left to right
pub record LowersList (es : List AnyExpr) (old new : Code) : Type 0 where
  pub lowered : LowersParts (parts_in (all_made es)) (values_do es) (key_shapes (all_made es))
      (need (list_frame (values_need es)) (codes_in (values_need es))) old new
  pub sized : sizes_in (values_need es) ≡ sizes_of (key_shapes (all_made es))

-- the new block evaluates, puts the value on the stack, and goes on to a block
pub record LowersArm (parts : List TreePart) (d : Does Value) (shape : Shape) (n : Need) (after : ℕ) (old new : Code) (b : ℕ) : Type 0 where
  pub grew : Grew old.blocks new.blocks
  pub depth : new.depth ≡ old.depth
  pub slots : code_slots new ≤ code_slots old + n.code
  pub sizes : sizes_of (shape ∷ []) ≤ n.frame
  pub stack : new.stack ≡ old.stack
  pub does : (bs : List Block) → Stand (length old.blocks) new.blocks bs
      → (base : ℕ) (maps : List MapDecl) (w : BodyScene) (frame : Frame) (values : List Value) (k : (Value × Frame) → Interaction Ending)
      → ((p : Value × Frame) → p.1.turns ≡ frame.turns → Reaches bs after (base + length old.blocks) (seen_by maps w) (state p.1 (values ++ p.0 ∷ [])) (k p))
      → Reaches bs b (base + length new.blocks) (seen_by maps w) (state frame values) (and_then (d w frame) k)
  pub sound : (bs : List Block) → Stand (length old.blocks) new.blocks bs → (t : Site) → all_fit t.scope parts ≡ true
      → HasRoom t.ground (sizes_of old.stack + n.frame) → Target bs (length old.blocks) old.depth (old.stack ++ shape ∷ []) after
      → Target bs (length new.blocks) old.depth old.stack b × Sound t.ground bs (length old.blocks) (length new.blocks)

-- the blocks that may follow: each turn that is left and each loop round it may need so many
abbrev pub fuel : ℕ → Code → ℕ → ℕ
fuel most c turns = (turns + c.depth) * most + length c.blocks

-- what may follow a statement, with as many turns or fewer: what is open, and the two ways out of a loop's block
pub record Follows (bs : List Block) (way : Ways) (c : Code) (most : ℕ) (scene : Scene) (turns : ℕ) (values : List Value)
    (k : (Flow × Frame) → Interaction Ending) : Type 0 where
  pub next : (st : Frame) → st.turns ≤ turns → Runs bs c (fuel most c st.turns) scene (state st values) (k (Next, st))
  pub leave : (st : Frame) → st.turns ≤ turns → Reaches bs way.leave (fuel most c st.turns) scene (state st values) (k (Break, st))
  pub again : (st : Frame) → st.turns ≤ turns → Reaches bs way.again (fuel most c st.turns) scene (state st values) (k (Continue, st))
  pub stop : (e : Ending) (st : Frame) → k (Stop e, st) ≡ Ended e

-- the new code does the statement, and then, by where it leads, what follows
pub record LowersStmt (parts : Bool → List TreePart) (d : Does Flow) (n : Need) (way : Ways) (old new : Code) : Type 0 where
  pub grew : Grew old.blocks new.blocks
  pub depth : new.depth ≡ old.depth
  pub slots : code_slots new ≤ code_slots old + n.code
  pub stack : new.stack ≡ old.stack
  pub does : (bs : List Block) → Stand (length old.blocks) new.blocks bs → (most : ℕ) → length new.blocks ≤ most
      → (t : Site) (inside : Bool) → all_fit t.scope (parts inside) ≡ true
      → (w : BodyScene) → w.maps ≡ t.scope.maps → (frame : Frame) (values : List Value) (k : (Flow × Frame) → Interaction Ending)
      → Follows bs way old most (seen_by t.ground.maps w) frame.turns values k
      → Runs bs new (fuel most new frame.turns) (seen_by t.ground.maps w) (state frame values) (and_then (d w frame) k)
  pub sound : (bs : List Block) → Stand (length old.blocks) new.blocks bs → (t : Site) (inside : Bool) → all_fit t.scope (parts inside) ≡ true
      → HasRoom t.ground (sizes_of old.stack + n.frame) → WaysStand bs way.leave way.again old → Opens t.ground bs old
      → Opens t.ground bs new × Sound t.ground bs (length old.blocks) (length new.blocks)

-- the new block does the statement, and goes on to a block
pub record LowersBlock (parts : Bool → List TreePart) (d : Does Flow) (n : Need) (after : ℕ) (way : Ways) (old new : Code) (b : ℕ) : Type 0 where
  pub grew : Grew old.blocks new.blocks
  pub depth : new.depth ≡ old.depth
  pub slots : code_slots new ≤ code_slots old + n.code + 1
  pub stack : new.stack ≡ old.stack
  pub does : (bs : List Block) → Stand (length old.blocks) new.blocks bs → (most : ℕ) → length new.blocks ≤ most
      → (t : Site) (inside : Bool) → all_fit t.scope (parts inside) ≡ true
      → (w : BodyScene) → w.maps ≡ t.scope.maps → (frame : Frame) (values : List Value) (k : (Flow × Frame) → Interaction Ending)
      → ((st : Frame) → st.turns ≤ frame.turns → Reaches bs after (fuel most old st.turns) (seen_by t.ground.maps w) (state st values) (k (Next, st)))
      → ((st : Frame) → st.turns ≤ frame.turns → Reaches bs way.leave (fuel most old st.turns) (seen_by t.ground.maps w) (state st values) (k (Break, st)))
      → ((st : Frame) → st.turns ≤ frame.turns → Reaches bs way.again (fuel most old st.turns) (seen_by t.ground.maps w) (state st values) (k (Continue, st)))
      → ((e : Ending) (st : Frame) → k (Stop e, st) ≡ Ended e)
      → Reaches bs b (fuel most new frame.turns) (seen_by t.ground.maps w) (state frame values) (and_then (d w frame) k)
  pub sound : (bs : List Block) → Stand (length old.blocks) new.blocks bs → (t : Site) (inside : Bool) → all_fit t.scope (parts inside) ≡ true
      → HasRoom t.ground (sizes_of old.stack + n.frame) → WaysStand bs way.leave way.again old → Target bs (length old.blocks) old.depth old.stack after
      → Target bs (length new.blocks) old.depth old.stack b × Sound t.ground bs (length old.blocks) (length new.blocks)

-- ---- statements of the tree

-- the new code does a statement of the tree; so it does one that goes nowhere else, whatever the ways out of a loop's block are
abbrev pub LowersStatement : TypedStmt → Ways → Code → Code → Type 0
LowersStatement s way old new = LowersStmt (stmt_parts s) (stmt_does s) (stmt_need s) way old new

abbrev pub LowersSingle : TypedStmt → Code → Code → Type 0
LowersSingle s old new = (way : Ways) → LowersStatement s way old new

-- it does the statements of a block, and a block of its own does them
abbrev pub LowersStatements : TypedBlock → Ways → Code → Code → Type 0
LowersStatements b way old new = LowersStmt (block_parts b) (block_does b) (block_need b) way old new

abbrev pub LowersInto : TypedBlock → ℕ → Ways → Code → Code → ℕ → Type 0
LowersInto block after way old new b = LowersBlock (block_parts block) (block_does block) (block_need block) after way old new b

-- the block of an `else`, or nothing
abbrev pub else_parts : Option TypedBlock → Bool → List TreePart
else_parts o inside = otherwise_parts (option_inside inside (option_map block_parts o))

abbrev pub else_does : Option TypedBlock → Does Flow
else_does o = block_or_next (option_map block_does o)

abbrev pub else_need : Option TypedBlock → Need
else_need o = otherwise_need (option_map block_need o)

abbrev pub LowersElse : Option TypedBlock → ℕ → Ways → Code → Code → ℕ → Type 0
LowersElse o after way old new b = LowersBlock (else_parts o) (else_does o) (else_need o) after way old new b

-- the arms of an `if`: each has a test of 4 slots, besides what its parts need, and behind it comes what follows where the test does not hold
abbrev pub arms_parts : List (NumExpr × TypedBlock) → Option TypedBlock → Bool → List TreePart
arms_parts arms o inside = joined (map (λ arm. arm_parts (arm.0, block_parts arm.1 inside)) arms) ++ else_parts o inside

abbrev pub arms_do : List (NumExpr × TypedBlock) → Option TypedBlock → Does Flow
arms_do arms o = first_arm (map (λ arm. (number_does arm.0, block_does arm.1)) arms) (else_does o)

abbrev pub arms_need : List (NumExpr × TypedBlock) → Option TypedBlock → Need
arms_need [] o = else_need o
arms_need (arm ∷ arms) o =
    need (max (max (number_need arm.0).frame (block_need arm.1).frame) (arms_need arms o).frame)
    (4 + ((number_need arm.0).code + (block_need arm.1).code) + (arms_need arms o).code)

abbrev pub LowersArms : List (NumExpr × TypedBlock) → Option TypedBlock → ℕ → Ways → Code → Code → ℕ → Type 0
LowersArms arms o after way old new b = LowersBlock (arms_parts arms o) (arms_do arms o) (arms_need arms o) after way old new b

-- where the later arms and what comes behind them are there, there is one arm more
abbrev pub LowersOneArm : NumExpr × TypedBlock → ℕ → ℕ → Ways → Code → Code → ℕ → Type 0
LowersOneArm arm next after way old new b =
    (arms : List (NumExpr × TypedBlock)) (o : Option TypedBlock) (first : Code) → LowersArms arms o after way first old next
    → LowersArms (arm ∷ arms) o after way first new b

-- where the statement is an `if`, the new code does it
abbrev pub LowersIf : TypedStmt → Ways → Code → Code → Type 0
LowersIf s way old new = (arms : List (NumExpr × TypedBlock)) (o : Option TypedBlock) → s ≡ stmts.If arms o → LowersStatement s way old new
