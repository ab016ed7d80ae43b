-- The steps by which code is made.
use Rattle.std.specs.Prelude.{ℕ, ◌+◌, ◌-◌, List, [], ◌∷◌, ◌++◌, length, reverse, slice_set}
use Rattle.bt_core.specs.declared.ending.Ending.TheVariants.{End as AtEnd, Cut as AtCut}
use Rattle.bt_core.specs.declared.map.Shape.{Shape}
use Rattle.ir_code.specs.declared.blocks.Block.{Block}
use Rattle.ir_code.specs.declared.blocks.Exit.{Exit}
use Rattle.ir_code.specs.declared.blocks.Exit.TheVariants.{Goto, Gate, Again, End}
use Rattle.ir_code.specs.declared.instr.Instr.{Instr}
use Rattle.ir_code.specs.declared.instr.Instr.TheVariants.{Cut}
use Rattle.ir_code.specs.Figures.{instrs_slots, exit_slots, blocks_slots}
use Rattle.ir_code.specs.Typing.{operand_shapes, gives, front_of}
use Rattle.bt_lower.specs.declared.code.Code.{Code}

-- the code that ends a run
abbrev pub nothing : Code
nothing = record { blocks = []; stack = []; instrs = []; exit = End AtEnd; depth = 0 }

-- the types on the stack before an instruction, from those after it
abbrev pub taken_back : Instr → List Shape → List Shape
taken_back i stack = front_of (length (gives i)) stack ++ operand_shapes i

-- one more instruction before what is open
abbrev pub pushed : Instr → Code → Code
pushed i c = record { blocks = c.blocks; stack = taken_back i c.stack; instrs = c.instrs ++ i ∷ []; exit = c.exit; depth = c.depth }

-- what is open, as a block
abbrev pub open_block : Code → Block
open_block c = record { stack = c.stack; instrs = reverse c.instrs; exit = c.exit; depth = c.depth }

-- what is open has become a block, and what is open then goes on to it
abbrev pub closed : Code → Code
closed c = record { blocks = c.blocks ++ open_block c ∷ []; stack = c.stack; instrs = []; exit = Goto (length c.blocks); depth = c.depth }

abbrev pub untyped : Code → Code
untyped c = record { blocks = c.blocks; stack = front_of 1 c.stack; instrs = c.instrs; exit = c.exit; depth = c.depth }

-- nothing but an exit is open, which finds these types on the stack above those that are there
abbrev pub begun : Exit → List Shape → Code → Code
begun exit on c = record { blocks = c.blocks; stack = c.stack ++ on; instrs = []; exit = exit; depth = c.depth }

-- a place for the block that will end the turns of a loop
abbrev pub placeholder : Code → Block
placeholder c = record { stack = c.stack; instrs = []; exit = End AtEnd; depth = c.depth + 1 }

-- one loop deeper
abbrev pub reserved : Code → Code
reserved c = record { blocks = c.blocks ++ placeholder c ∷ []; stack = c.stack; instrs = []; exit = Goto (length c.blocks); depth = c.depth + 1 }

-- what is open is the gate of a loop, which lies one loop less deep
abbrev pub gated : ℕ → ℕ → Code → Code
gated block cut c = record { blocks = c.blocks; stack = c.stack; instrs = []; exit = Gate block cut; depth = c.depth - 1 }

-- the block that ends the turns of a loop is known
abbrev pub turn_end : ℕ → Code → Block
turn_end head c = record { stack = c.stack; instrs = []; exit = Again head; depth = c.depth + 1 }

abbrev pub patched : ℕ → ℕ → Code → Code
patched at head c = record { blocks = slice_set c.blocks at (turn_end head c); stack = c.stack; instrs = c.instrs; exit = c.exit; depth = c.depth }

-- the block of a cut is made
abbrev pub with_cut : ℕ → Code → Code
with_cut line c = closed (pushed (Cut line) (begun (End AtCut) [] c))

-- the slots of the blocks that are done and of what is open
unfoldable pub code_slots : Code → ℕ
code_slots c = blocks_slots c.blocks + instrs_slots c.instrs + exit_slots c.exit
