-- Sound blocks pass the tests that a list of blocks and a probe keep.
use Rattle.std.proofs.Common.{◌≡◌, ℕ, suc, ◌+◌, ◌-◌, ◌≤◌, List, [], ◌∷◌, ◌++◌, length, refl, sym, ap, ◌∙◌, arith, Bool, true, false, Some, eq-eqb}
use Rattle.std.specs.Prelude.{slice_get, ◌&&◌, ◌==◌, nat_le}
use Rattle.std.proofs.lemmas.Bool.{le-leb}
use Rattle.std.proofs.Math.Nat.{max-le}
use Rattle.bt_core.specs.declared.map.Shape.{Shape}
use Rattle.bt_core.specs.declared.map.Shape.TheVariants.{Int, Str}
use Rattle.typed_tree.specs.Scope.{same_shape, same_shapes}
use Rattle.ir_code.specs.declared.blocks.Block.{Block}
use Rattle.ir_code.specs.declared.blocks.Exit.{Exit}
use Rattle.ir_code.specs.declared.blocks.Exit.TheVariants.{Goto, Branch, Count, Gate, Again, End}
use Rattle.ir_code.specs.declared.instr.Instr.{Instr}
use Rattle.ir_code.specs.Figures.{sizes_of, instr_bytes}
use Rattle.ir_code.specs.Serving.{ends_read, payload_need}
use Rattle.ir_code.specs.Typing.{operand_shapes, gives, names, last_of, front_of, has_room, end_with, turned, may_stand, all_stand, all_turned, stack_in, goes_with, exit_stands, block_stands, each_stands, are_typed}
use Rattle.ir_code.specs.Ways.{depth_at, lies_below, leads, lead_from, lead_forward}
use Rattle.bt_lower.specs.Sound.{Footing, ground_in, HasRoom, MayStand, Turns, Target, LeadsTo, SoundBlock, Sound}
use Rattle.bt_lower.proofs.Lists.{last-append, front-append}
use Rattle.bt_lower.proofs.Loops.{some-below}

both : (a b : Bool) → a ≡ true → b ≡ true → (a && b) ≡ true
both true b e f = f
both false b e f = cc

shape-self : (s : Shape) → same_shape s s ≡ true
shape-self Int = refl
shape-self Str = refl

shapes-self : (ss : List Shape) → same_shapes ss ss ≡ true
shapes-self [] = refl
shapes-self (s ∷ ss) = both (same_shape s s) (same_shapes ss ss) (shape-self s) (shapes-self ss)

shapes-are : (a b : List Shape) → a ≡ b → same_shapes a b ≡ true
shapes-are a b e = ap (λ (l : List Shape). same_shapes l b) e ∙ shapes-self b

-- ---- instructions

room-passes : (g : Footing) (bytes : ℕ) → HasRoom g bytes → has_room (ground_in g) bytes ≡ true
room-passes g bytes r = le-leb (24 + sizes_of g.variables + bytes) g.frame r.within

ends-pass : (stack rest ts : List Shape) → stack ≡ rest ++ ts → end_with ts stack ≡ true
ends-pass stack rest ts e = shapes-are (last_of (length ts) stack) ts (ap (λ (l : List Shape). last_of (length ts) l) e ∙ last-append (length ts) rest ts refl)

front-is : (stack rest ts : List Shape) → stack ≡ rest ++ ts → front_of (length ts) stack ≡ rest
front-is stack rest ts e = ap (λ (l : List Shape). front_of (length ts) l) e ∙ front-append (length ts) rest ts refl

stand-passes : (g : Footing) (i : Instr) (stack rest : List Shape) → MayStand g i stack rest → may_stand (ground_in g) i stack ≡ true
stand-passes g i stack rest m =
    both (names (ground_in g) i && end_with (operand_shapes i) stack) (has_room (ground_in g) (sizes_of stack + instr_bytes i))
    (both (names (ground_in g) i) (end_with (operand_shapes i) stack) m.named (ends-pass stack rest (operand_shapes i) m.found))
    (room-passes g (sizes_of stack + instr_bytes i) m.room)

turns-to : (i : Instr) (stack rest : List Shape) → stack ≡ rest ++ operand_shapes i → turned i stack ≡ rest ++ gives i
turns-to i stack rest e = ap (λ (l : List Shape). l ++ gives i) (front-is stack rest (operand_shapes i) e)

all-turn : (g : Footing) (is : List Instr) (stack after : List Shape) → Turns g is stack after → all_turned is stack ≡ after
all-turn g [] stack after t = t.0
all-turn g (i ∷ is) stack after t = ap (λ (l : List Shape). all_turned is l) (turns-to i stack t.0 t.1.found) ∙ all-turn g is (t.0 ++ gives i) after t.2

all-pass : (g : Footing) (is : List Instr) (stack after : List Shape) → Turns g is stack after → all_stand (ground_in g) is stack ≡ true
all-pass g [] stack after t = room-passes g (sizes_of stack) t.1
all-pass g (i ∷ is) stack after t =
    both (may_stand (ground_in g) i stack) (all_stand (ground_in g) is (turned i stack)) (stand-passes g i stack t.0 t.1)
    (ap (λ (l : List Shape). all_stand (ground_in g) is l) (turns-to i stack t.0 t.1.found) ∙ all-pass g is (t.0 ++ gives i) after t.2)

-- ---- exits

below-passes : (bs : List Block) (n depth : ℕ) (stack : List Shape) (to : ℕ) → Target bs n depth stack to → lies_below bs n depth to ≡ true
below-passes bs n depth stack to t =
    both (nat_le (to + 1) n) (nat_le (depth_at bs to) depth) (le-leb (to + 1) n (omega (arith, t.later))) (le-leb (depth_at bs to) depth t.loops)

leads-pass : (bs : List Block) (n depth : ℕ) (stack : List Shape) (x : Exit) → LeadsTo bs n depth stack x → leads bs n depth x ≡ true
leads-pass bs n depth stack (Goto b) l = below-passes bs n depth stack b l
leads-pass bs n depth stack (Branch first second) l =
    both (lies_below bs n depth first) (lies_below bs n depth second) (below-passes bs n depth l.0 first l.2) (below-passes bs n depth l.0 second l.3)
leads-pass bs n depth stack (Count block leave) l =
    both (lies_below bs n depth block) (lies_below bs n depth leave) (below-passes bs n depth stack block l.2) (below-passes bs n depth stack leave l.3)
leads-pass bs n depth stack (Gate block cut) l =
    both (lies_below bs n (depth + 1) block) (lies_below bs n depth cut) (below-passes bs n (depth + 1) stack block l.0) (below-passes bs n depth stack cut l.1)
leads-pass bs n depth stack (Again head) l =
    both (nat_le (head + 1) (length bs)) (nat_le (depth_at bs head + 1) depth) (le-leb (head + 1) (length bs) (omega (arith, l.there))) (le-leb (depth_at bs head + 1) depth (omega (arith, l.outside)))
leads-pass bs n depth stack (End ending) l = refl

goes-pass : (bs : List Block) (n depth : ℕ) (stack other : List Shape) (to : ℕ) → stack ≡ other → Target bs n depth other to → goes_with bs stack to ≡ true
goes-pass bs n depth stack other to e t = shapes-are (stack_in (slice_get bs to)) stack (t.finds ∙ sym e)

exit-passes : (bs : List Block) (n depth : ℕ) (stack : List Shape) (x : Exit) → LeadsTo bs n depth stack x → exit_stands bs x stack ≡ true
exit-passes bs n depth stack (Goto b) l = goes-pass bs n depth stack stack b refl l
exit-passes bs n depth stack (Branch first second) l =
    let rest = front-is stack l.0 (Int ∷ []) l.1 in
    both (end_with (Int ∷ []) stack && goes_with bs (front_of 1 stack) first) (goes_with bs (front_of 1 stack) second)
    (both (end_with (Int ∷ []) stack) (goes_with bs (front_of 1 stack) first) (ends-pass stack l.0 (Int ∷ []) l.1) (goes-pass bs n depth (front_of 1 stack) l.0 first rest l.2))
    (goes-pass bs n depth (front_of 1 stack) l.0 second rest l.3)
exit-passes bs n depth stack (Count block leave) l =
    both (end_with (Int ∷ []) stack && goes_with bs stack block) (goes_with bs stack leave)
    (both (end_with (Int ∷ []) stack) (goes_with bs stack block) (ends-pass stack l.0 (Int ∷ []) l.1) (goes-pass bs n depth stack stack block refl l.2))
    (goes-pass bs n depth stack stack leave refl l.3)
exit-passes bs n depth stack (Gate block cut) l =
    both (goes_with bs stack block) (goes_with bs stack cut) (goes-pass bs n (depth + 1) stack stack block refl l.0) (goes-pass bs n depth stack stack cut refl l.1)
exit-passes bs n depth stack (Again head) l = shapes-are (stack_in (slice_get bs head)) stack l.finds
exit-passes bs n depth stack (End ending) l = refl

-- ---- what instructions read of the payload

all-read : (g : Footing) (is : List Instr) (stack after : List Shape) → Turns g is stack after → ends_read is ≤ g.payload
all-read g [] stack after t = omega arith
all-read g (i ∷ is) stack after t = max-le t.1.reads (all-read g is (t.0 ++ gives i) after t.2)

-- ---- all blocks

-- what is asked of all blocks: their exits lead where they may, they find their operands, and they read no more of the payload
pub record Passed (g : Footing) (bs : List Block) (n : ℕ) (xs : List Block) : Type 0 where
  pub lead : lead_from bs n xs ≡ true
  pub stand : each_stands (ground_in g) bs xs ≡ true
  pub read : payload_need xs ≤ g.payload

block-stands : (g : Footing) (bs : List Block) (n : ℕ) (b : Block) → SoundBlock g bs n b → block_stands (ground_in g) bs b ≡ true
block-stands g bs n b s =
    both (all_stand (ground_in g) b.instrs b.stack) (exit_stands bs b.exit (all_turned b.instrs b.stack)) (all-pass g b.instrs b.stack s.after s.turns)
    (ap (λ (l : List Shape). exit_stands bs b.exit l) (all-turn g b.instrs b.stack s.after s.turns) ∙ exit-passes bs n b.depth s.after b.exit s.leads)

each-passes : (g : Footing) (bs : List Block) → Sound g bs 0 (length bs) → (n : ℕ) (xs : List Block) → ((k : ℕ) (b : Block) → slice_get xs k ≡ Some b → slice_get bs (n + k) ≡ Some b) → Passed g bs n xs
each-passes g bs all n [] at = record { lead = refl; stand = refl; read = omega arith }
each-passes g bs all n (x ∷ xs) at =
    let first : n + 0 ≡ n = omega arith in
    let here : slice_get bs n ≡ Some x = ap (λ (m : ℕ). slice_get bs m) (sym first) ∙ at 0 x refl in
    let s : SoundBlock g bs n x = all.each n (omega arith) (some-below bs n x here) x here in
    let next : (k : ℕ) → n + 1 + k ≡ n + suc k = λ k. omega arith in
    let q = each-passes g bs all (n + 1) xs (λ k b e. ap (λ (m : ℕ). slice_get bs m) (next k) ∙ at (suc k) b e) in
    record {
      lead = both (leads bs n x.depth x.exit) (lead_from bs (n + 1) xs) (leads-pass bs n x.depth s.after x.exit s.leads) q.lead;
      stand = both (block_stands (ground_in g) bs x) (each_stands (ground_in g) bs xs) (block-stands g bs n x s) q.stand;
      read = max-le (all-read g x.instrs x.stack s.after s.turns) q.read;
    }

pub all-pass-tests : (g : Footing) (bs : List Block) → Sound g bs 0 (length bs) → Passed g bs 0 bs
all-pass-tests g bs all = each-passes g bs all 0 bs (λ k b e. let at : 0 + k ≡ k = omega arith in ap (λ (m : ℕ). slice_get bs m) at ∙ e)

pub lead-passes : (g : Footing) (bs : List Block) → 1 ≤ length bs → depth_at bs (length bs - 1) ≡ 0 → Sound g bs 0 (length bs) → lead_forward bs ≡ true
lead-passes g bs some outer all =
    both (nat_le 1 (length bs) && depth_at bs (length bs - 1) == 0) (lead_from bs 0 bs)
    (both (nat_le 1 (length bs)) (depth_at bs (length bs - 1) == 0) (le-leb 1 (length bs) some) (eq-eqb (depth_at bs (length bs - 1)) 0 outer))
    (all-pass-tests g bs all).lead

pub typed-passes : (g : Footing) (bs : List Block) → stack_in (slice_get bs (length bs - 1)) ≡ [] → Sound g bs 0 (length bs) → are_typed (ground_in g) bs ≡ true
typed-passes g bs empty all =
    both (same_shapes (stack_in (slice_get bs (length bs - 1))) []) (each_stands (ground_in g) bs bs) (shapes-are (stack_in (slice_get bs (length bs - 1))) [] empty) (all-pass-tests g bs all).stand
