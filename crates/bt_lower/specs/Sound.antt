-- Sound code: each instruction finds its operands and what it names, and each exit leads where it may.
use Rattle.std.specs.Prelude.{◌≡◌, ℕ, ◌+◌, ◌<◌, ◌≤◌, true, List, [], ◌∷◌, ◌++◌, length, reverse, Some, slice_get}
use Rattle.bt_core.specs.declared.limits.TheConstants.{KEY_PARTS}
use Rattle.bt_core.specs.declared.map.MapDecl.{MapDecl}
use Rattle.bt_core.specs.declared.map.Shape.{Shape}
use Rattle.bt_core.specs.declared.map.Shape.TheVariants.{Int}
use Rattle.fmt_text.specs.Arguments.{argument_shapes}
use Rattle.fmt_text.specs.declared.piece.Piece.{Piece}
use Rattle.event_layout.specs.declared.field.Field.{Field}
use Rattle.event_layout.specs.Sizes.{end_of}
use Rattle.typed_tree.specs.Scope.{Scope, decl_of, format_of, has_field}
use Rattle.ir_code.specs.declared.blocks.Block.{Block}
use Rattle.ir_code.specs.declared.blocks.Exit.{Exit}
use Rattle.ir_code.specs.declared.blocks.Exit.TheVariants.{Goto, Branch, Count, Gate, Again, End}
use Rattle.ir_code.specs.declared.instr.Instr.{Instr}
use Rattle.ir_code.specs.Figures.{sizes_of, instr_bytes}
use Rattle.ir_code.specs.Serving.{end_read}
use Rattle.ir_code.specs.Typing.{Ground, operand_shapes, gives, names, stack_in}
use Rattle.ir_code.specs.Ways.{depth_at}
use Rattle.bt_lower.specs.declared.code.Code.{Code}

-- what code stands on: what its instructions may name, the bytes of its frame, and how many bytes of the payload they may read
pub record Footing : Type 0 where
  pub variables : List Shape
  pub maps : List MapDecl
  pub formats : List (List Shape)
  pub frame : ℕ
  pub payload : ℕ

abbrev pub ground_in : Footing → Ground
ground_in g = record { variables = g.variables; maps = g.maps; formats = g.formats; frame = g.frame }

-- what a body may name stands on the same ground as what its instructions name
pub record Agrees (scope : Scope) (ground : Footing) : Type 0 where
  pub variables : ground.variables ≡ scope.variables
  pub maps : (n : ℕ) (decl : MapDecl) → decl_of n scope.maps ≡ Some decl → slice_get ground.maps n ≡ Some decl
  pub few : (n : ℕ) (decl : MapDecl) → decl_of n scope.maps ≡ Some decl → length decl.key_shape ≤ KEY_PARTS
  pub formats : (n : ℕ) (pieces : List Piece) → format_of n scope.formats ≡ Some pieces → slice_get ground.formats n ≡ Some (argument_shapes pieces)
  pub fields : (f : Field) → has_field scope.layout f ≡ true → end_of f ≤ ground.payload

pub record Site : Type 0 where
  pub scope : Scope
  pub ground : Footing
  pub agrees : Agrees scope ground

-- so many bytes fit into the frame beside the variables and the body's own 24
pub record HasRoom (g : Footing) (bytes : ℕ) : Type 0 where
  pub within : 24 + sizes_of g.variables + bytes ≤ g.frame

-- the instruction names what is there, reads no more of the payload than there is, and finds its operands at the end of the stack, above the rest
pub record MayStand (g : Footing) (i : Instr) (stack rest : List Shape) : Type 0 where
  pub named : names (ground_in g) i ≡ true
  pub reads : end_read i ≤ g.payload
  pub found : stack ≡ rest ++ operand_shapes i
  pub room : HasRoom g (sizes_of stack + instr_bytes i)

-- from the types before them on the stack instructions lead to those after them
abbrev pub Turns : Footing → List Instr → List Shape → List Shape → Type 0
Turns g [] stack after = (stack ≡ after) × HasRoom g (sizes_of stack)
Turns g (i ∷ is) stack after = (rest : List Shape) × MayStand g i stack rest × Turns g is (rest ++ gives i) after

-- a block with a number below n, in at most so many loops, that finds these types on the stack
pub record Target (bs : List Block) (n depth : ℕ) (stack : List Shape) (to : ℕ) : Type 0 where
  pub later : to < n
  pub loops : depth_at bs to ≤ depth
  pub finds : stack_in (slice_get bs to) ≡ stack

-- the head of a loop round what lies in so many
pub record Back (bs : List Block) (depth : ℕ) (stack : List Shape) (head : ℕ) : Type 0 where
  pub there : head < length bs
  pub outside : depth_at bs head < depth
  pub finds : stack_in (slice_get bs head) ≡ stack

-- where the exit of block n may lead, with these types on the stack
abbrev pub LeadsTo : List Block → ℕ → ℕ → List Shape → Exit → Type 0
LeadsTo bs n depth stack (Goto b) = Target bs n depth stack b
LeadsTo bs n depth stack (Branch first second) = (rest : List Shape) × (stack ≡ rest ++ Int ∷ []) × Target bs n depth rest first × Target bs n depth rest second
LeadsTo bs n depth stack (Count block leave) = (rest : List Shape) × (stack ≡ rest ++ Int ∷ []) × Target bs n depth stack block × Target bs n depth stack leave
LeadsTo bs n depth stack (Gate block cut) = Target bs n (depth + 1) stack block × Target bs n depth stack cut
LeadsTo bs n depth stack (Again head) = Back bs depth stack head
LeadsTo bs n depth stack (End ending) = Unit {0}

pub record SoundBlock (g : Footing) (bs : List Block) (n : ℕ) (b : Block) : Type 0 where
  pub after : List Shape
  pub turns : Turns g b.instrs b.stack after
  pub leads : LeadsTo bs n b.depth after b.exit

-- what is open would be a sound block
pub record Opens (g : Footing) (bs : List Block) (c : Code) : Type 0 where
  pub after : List Shape
  pub turns : Turns g (reverse c.instrs) c.stack after
  pub leads : LeadsTo bs (length c.blocks) c.depth after c.exit

-- so are all blocks from one number on up to another
pub record Sound (g : Footing) (bs : List Block) (from to : ℕ) : Type 0 where
  pub each : (n : ℕ) → from ≤ n → n < to → (b : Block) → slice_get bs n ≡ Some b → SoundBlock g bs n b

-- the ways out of a loop's block find what the block finds
pub record WaysStand (bs : List Block) (leave again : ℕ) (c : Code) : Type 0 where
  pub leaves : Target bs (length c.blocks) c.depth c.stack leave
  pub goes_on : Target bs (length c.blocks) c.depth c.stack again
