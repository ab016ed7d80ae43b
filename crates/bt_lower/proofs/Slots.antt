-- The slots of code as it is made.
use Rattle.std.proofs.Common.{◌≡◌, ℕ, ◌+◌, ◌≤◌, List, [], ◌∷◌, ◌++◌, reverse, refl, ap, arith}
use Rattle.std.proofs.lemmas.List.{reverse-append}
use Rattle.bt_core.specs.declared.map.Shape.{Shape}
use Rattle.ir_code.specs.declared.instr.Instr.{Instr}
use Rattle.ir_code.specs.declared.blocks.Block.{Block}
use Rattle.ir_code.specs.declared.blocks.Exit.{Exit}
use Rattle.ir_code.specs.declared.blocks.Exit.TheVariants as e
use Rattle.ir_code.specs.Figures.{instr_slots, exit_slots, instrs_slots, blocks_slots}
use Rattle.bt_lower.specs.declared.code.Code.{Code}
use Rattle.bt_lower.specs.Code.{pushed, closed, untyped, begun, reserved, gated, open_block, placeholder, code_slots}

instrs-append : (xs ys : List Instr) → instrs_slots (xs ++ ys) ≡ instrs_slots xs + instrs_slots ys
instrs-append [] ys = omega arith
instrs-append (x ∷ xs) ys = omega (arith, instrs-append xs ys)

instrs-reverse : (xs : List Instr) → instrs_slots (reverse xs) ≡ instrs_slots xs
instrs-reverse [] = refl
instrs-reverse (x ∷ xs) =
    let a : instrs_slots (reverse (x ∷ xs)) ≡ instrs_slots (reverse xs ++ x ∷ []) = ap instrs_slots (reverse-append (x ∷ []) xs) in
    omega (arith, a, instrs-append (reverse xs) (x ∷ []), instrs-reverse xs)

blocks-append : (xs ys : List Block) → blocks_slots (xs ++ ys) ≡ blocks_slots xs + blocks_slots ys
blocks-append [] ys = omega arith
blocks-append (x ∷ xs) ys = omega (arith, blocks-append xs ys)

some-exit : (x : Exit) → 1 ≤ exit_slots x
some-exit (e.Goto b) = omega arith
some-exit (e.Branch first second) = omega arith
some-exit (e.Count block leave) = omega arith
some-exit (e.Gate block cut) = omega arith
some-exit (e.Again head) = omega arith
some-exit (e.End ending) = omega arith

pub slots-pushed : (i : Instr) (c : Code) → code_slots (pushed i c) ≡ code_slots c + instr_slots i
unfolding code_slots
slots-pushed i c = omega (arith, instrs-append c.instrs (i ∷ []))

pub slots-closed : (c : Code) → code_slots (closed c) ≡ code_slots c + 1
unfolding code_slots
slots-closed c = omega (arith, blocks-append c.blocks (open_block c ∷ []), instrs-reverse c.instrs)

pub slots-untyped : (c : Code) → code_slots (untyped c) ≡ code_slots c
unfolding code_slots
slots-untyped c = refl

pub slots-begun : (x : Exit) (on : List Shape) (c : Code) → code_slots (begun x on c) + 1 ≤ code_slots c + exit_slots x
unfolding code_slots
slots-begun x on c = omega (arith, some-exit c.exit)

pub slots-reserved : (c : Code) → code_slots (reserved c) + 1 ≤ code_slots c + 2
unfolding code_slots
slots-reserved c = omega (arith, blocks-append c.blocks (placeholder c ∷ []), some-exit c.exit)

pub slots-gated : (block cut : ℕ) (c : Code) → code_slots (gated block cut c) + 1 ≤ code_slots c + 5
unfolding code_slots
slots-gated block cut c = omega (arith, some-exit c.exit)
