-- What folding keeps, and what it leaves.
use Rattle.std.specs.Prelude.{◌≡◌, ℕ, suc, ◌≤◌, ◌-◌, ◌⊎◌, true, cond, nat_le, List, [], ◌∷◌, ◌++◌, length, slice_get, Option, Some, None, Bool, false}
use Rattle.std.specs.Prelude.{nat_eq, ◌&&◌, map}
use Rattle.bt_core.specs.declared.operator.BinOp.{BinOp}
use Rattle.bt_core.specs.declared.operator.UnOp.{UnOp}
use Rattle.bt_core.specs.declared.context.Context.{Context}
use Rattle.bt_core.specs.declared.ending.Ending.{Ending}
use Rattle.bt_core.specs.declared.ending.Ending.TheVariants.{End as Finished}
use Rattle.bt_core.specs.declared.map.Shape.{Shape}
use Rattle.bt_core.specs.declared.value.Value.{Value}
use Rattle.bt_core.specs.Interaction.{Interaction, Ended}
use Rattle.ir_code.specs.declared.blocks.Block.{Block}
use Rattle.ir_code.specs.declared.blocks.Exit.{Exit}
use Rattle.ir_code.specs.declared.blocks.Exit.TheVariants.{Goto, Branch, End}
use Rattle.ir_code.specs.declared.instr.Instr.{Instr}
use Rattle.ir_code.specs.declared.instr.Instr.TheVariants as i
use Rattle.ir_code.specs.declared.probe.IrProbe.{IrProbe}
use Rattle.ir_code.specs.declared.state.State.{State}
use Rattle.ir_code.specs.Figures.{instrs_slots, block_slots}
use Rattle.ir_code.specs.Meaning.{Scene, instrs_run, exit_run, code_run, ir_run}
use Rattle.ir_code.specs.Serving.{ends_read, payload_need}
use Rattle.ir_code.specs.Typing.{Ground, all_stand, all_turned, block_stands}
use Rattle.ir_code.specs.Ways.{leads}

-- the value of a literal
abbrev pub literal_in : Option Instr → Option Value
literal_in None = None
literal_in (Some (i.Put v)) = Some v
literal_in (Some x) = None

-- the value of the k-th instruction from the end, where that is a literal
abbrev pub literal_before : ℕ → List Instr → Option Value
literal_before k xs = cond (nat_le k (length xs)) (literal_in (slice_get xs (length xs - k))) None

-- ---- what is left

-- no operator has only literals as operands, which stand right before it
pub record AllVary (xs : List Instr) : Type 0 where
  pub unary : (n : ℕ) (op : UnOp) → slice_get xs (suc n) ≡ Some (i.Unary op) → literal_in (slice_get xs n) ≡ None
  pub binary : (n : ℕ) (op : BinOp) → slice_get xs (suc (suc n)) ≡ Some (i.Binary op)
      → (literal_in (slice_get xs n) ≡ None) ⊎ (literal_in (slice_get xs (suc n)) ≡ None)

-- a branch behind these instructions tests no literal
abbrev pub TestsNone : Exit → List Instr → Type 0
TestsNone (Branch first second) xs = literal_before 1 xs ≡ None
TestsNone exit xs = Unit {0}

pub record BlockVaries (b : Block) : Type 0 where
  pub operators : AllVary b.instrs
  pub branch : TestsNone b.exit b.instrs

abbrev pub BlocksVary : List Block → Type 0
BlocksVary [] = Unit {0}
BlocksVary (b ∷ bs) = BlockVaries b × BlocksVary bs

-- ---- what is kept

-- instructions that do the same as others, may stand where these may, and need no more
pub record Betters (old new : List Instr) : Type 0 where
  pub runs : (scene : Scene) (s : State) → instrs_run new scene s ≡ instrs_run old scene s
  pub turns : (stack : List Shape) → all_turned new stack ≡ all_turned old stack
  pub stands : (g : Ground) (stack : List Shape) (more : List Instr) → all_stand g (old ++ more) stack ≡ true → all_stand g (new ++ more) stack ≡ true
  pub slots : instrs_slots new ≤ instrs_slots old
  pub reads : ends_read new ≤ ends_read old

-- instructions that do the same as others with one more behind them, and still have no operator on literals
pub record Adds (old : List Instr) (x : Instr) (new : List Instr) : Type 0 where
  pub better : Betters (old ++ x ∷ []) new
  pub varies : AllVary old → AllVary new

-- a block that does nothing but end a run
abbrev pub finishes : Exit → Bool
finishes (End Finished) = true
finishes exit = false

abbrev pub block_ends : Block → Bool
block_ends b = nat_eq (length b.instrs) 0 && finishes b.exit

abbrev pub is_flag : Option Bool → Bool
is_flag None = false
is_flag (Some b) = b

abbrev pub flag_at : List Bool → ℕ → Bool
flag_at flags n = is_flag (slice_get flags n)

-- a run goes to its end from each block that is flagged
abbrev pub Finish : List Bool → (ℕ → State → Interaction Ending) → Type 0
Finish flags go = (to : ℕ) (s : State) → flag_at flags to ≡ true → go to s ≡ Ended Finished

-- where a flagged block is next the run of the block that has a number ends, but where the flagged one has the number before: its code
-- stands right behind, and no jump leads to it
abbrev pub threaded_exit : List Bool → ℕ → Exit → Exit
threaded_exit flags number (Goto to) = cond (nat_eq (suc to) number) (Goto to) (cond (flag_at flags to) (End Finished) (Goto to))
threaded_exit flags number exit = exit

-- a block that does the same as another, where flagged blocks do nothing but end a run
pub record BettersBlock (flags : List Bool) (old new : Block) : Type 0 where
  pub stack : new.stack ≡ old.stack
  pub depth : new.depth ≡ old.depth
  pub runs : (go : ℕ → State → Interaction Ending) → Finish flags go → (scene : Scene) (s : State)
      → code_run go new.instrs new.exit scene s ≡ code_run go old.instrs old.exit scene s
  pub leads : (bs : List Block) (n : ℕ) → leads bs n old.depth old.exit ≡ true → leads bs n new.depth new.exit ≡ true
  pub stands : (g : Ground) (bs : List Block) → block_stands g bs old ≡ true → block_stands g bs new ≡ true
  pub slots : block_slots new ≤ block_slots old
  pub reads : ends_read new.instrs ≤ ends_read old.instrs

-- so block by block
abbrev pub AllBetter : List Bool → List Block → List Block → Type 0
AllBetter flags [] [] = Unit {0}
AllBetter flags [] (c ∷ cs) = ⊥
AllBetter flags (b ∷ bs) [] = ⊥
AllBetter flags (b ∷ bs) (c ∷ cs) = BettersBlock flags b c × AllBetter flags bs cs

-- ---- ways through blocks that do nothing

-- the exit of a block without instructions
abbrev pub bare_in : Block → Option Exit
bare_in b = cond (nat_eq (length b.instrs) 0) (Some b.exit) None

abbrev pub flat : Option (Option Exit) → Option Exit
flat None = None
flat (Some o) = o

abbrev pub bare_at : List (Option Exit) → ℕ → Option Exit
bare_at bares n = flat (slice_get bares n)

-- a run goes through such a block by its exit
abbrev pub GoesThrough : List Block → (ℕ → State → Interaction Ending) → Type 0
GoesThrough bs go = (to : ℕ) (s : State) (exit : Exit) → bare_at (map bare_in bs) to ≡ Some exit → go to s ≡ exit_run go exit s

-- each exit leads where it may, and each block may stand
abbrev pub AllLead : List Block → Type 0
AllLead bs = (n : ℕ) (b : Block) → slice_get bs n ≡ Some b → leads bs n b.depth b.exit ≡ true

abbrev pub AllMayStand : Ground → List Block → Type 0
AllMayStand g bs = (n : ℕ) (b : Block) → slice_get bs n ≡ Some b → block_stands g bs b ≡ true

-- a block that does the same as another one of these blocks, where runs go through blocks without instructions
pub record Shortens (bs : List Block) (old new : Block) : Type 0 where
  pub stack : new.stack ≡ old.stack
  pub depth : new.depth ≡ old.depth
  pub runs : (go : ℕ → State → Interaction Ending) → GoesThrough bs go → (scene : Scene) (s : State)
      → code_run go new.instrs new.exit scene s ≡ code_run go old.instrs old.exit scene s
  pub leads : AllLead bs → (n : ℕ) → leads bs n old.depth old.exit ≡ true → leads bs n new.depth new.exit ≡ true
  pub stands : (g : Ground) → AllMayStand g bs → block_stands g bs old ≡ true → block_stands g bs new ≡ true
  pub slots : block_slots new ≤ block_slots old
  pub reads : ends_read new.instrs ≤ ends_read old.instrs

-- so block by block
abbrev pub AllShorten : List Block → List Block → List Block → Type 0
AllShorten all [] [] = Unit {0}
AllShorten all [] (c ∷ cs) = ⊥
AllShorten all (b ∷ bs) [] = ⊥
AllShorten all (b ∷ bs) (c ∷ cs) = Shortens all b c × AllShorten all bs cs

-- where a way leads that may go to a block that only goes on, and the exit of a branch by its two ways
abbrev pub onward : Option Exit → ℕ → ℕ
onward (Some (Goto next)) to = next
onward o to = to

abbrev pub way_on : List (Option Exit) → ℕ → ℕ
way_on bares to = onward (bare_at bares to) to

abbrev pub ways_on : List (Option Exit) → Exit → Exit
ways_on bares (Branch first second) = Branch (way_on bares first) (way_on bares second)
ways_on bares exit = exit

-- the last instruction makes a number its truth
abbrev pub is_truth : Option Instr → Bool
is_truth (Some i.Truth) = true
is_truth o = false

abbrev pub ends_in_truth : List Instr → Bool
ends_in_truth xs = cond (nat_eq (length xs) 0) false (is_truth (slice_get xs (length xs - 1)))

-- a block whose last instruction puts what a branch tests: the branch stands in its own place, or, at a literal, where that leads
abbrev pub Tests : (first second : ℕ) → Block → Block → Type 0
Tests first second old new = BettersBlock [] (record old { exit = Branch first second }) new × (block_slots new ≤ block_slots old)

-- a probe whose run is that of another under each context, payload and actor, reply by reply, with the same names and sums
pub record IsFoldOf (old new : IrProbe) : Type 0 where
  pub runs : (context : Context) (payload : List ℕ) (actor actors : ℕ) → ir_run new context payload actor actors ≡ ir_run old context payload actor actors
  pub variables : new.variables ≡ old.variables
  pub maps : new.maps ≡ old.maps
  pub formats : new.formats ≡ old.formats
  pub frame_need : new.frame_need ≡ old.frame_need
  pub code_need : new.code_need ≡ old.code_need
  pub reads : payload_need new.blocks.list ≤ payload_need old.blocks.list
  pub varies : BlocksVary new.blocks.list
