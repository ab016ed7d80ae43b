-- What the steps by which code is made do to what it does.
use Rattle.std.proofs.Common.{◌≡◌, ℕ, zero, suc, ◌+◌, ◌<◌, ◌≤◌, List, [], ◌∷◌, ◌++◌, length, reverse, refl, sym, ap, ◌∙◌, arith, append_assoc, append-nil, length-append, Option, Some}
use Rattle.std.specs.Prelude.{slice_get}
use Rattle.std.proofs.lemmas.List.{reverse-append}
use Rattle.bt_core.specs.declared.ending.Ending.{Ending}
use Rattle.bt_core.specs.declared.map.Shape.{Shape}
use Rattle.bt_core.specs.Interaction.{Interaction, Ended, Asks, and_then}
use Rattle.bt_core.proofs.InteractionLaws.{and_then_assoc}
use Rattle.ir_code.specs.declared.instr.Instr.{Instr}
use Rattle.ir_code.specs.declared.blocks.Exit.TheVariants.{Goto}
use Rattle.ir_code.specs.declared.blocks.Block.{Block}
use Rattle.ir_code.specs.declared.state.State.{State}
use Rattle.ir_code.specs.Meaning.{Scene, instr_run, instrs_run, exit_run, code_run, block_run, run_from}
use Rattle.bt_lower.specs.declared.code.Code.{Code}
use Rattle.bt_lower.specs.Code.{pushed, open_block, begun, closed}
use Rattle.bt_lower.specs.Lowers.{Stand, Grew, Runs, Reaches}

-- the same first part, and then the same
pub and_then-same : {A B : Type 0} (t : Interaction A) (k m : A → Interaction B) → ((a : A) → k a ≡ m a) → and_then t k ≡ and_then t m
and_then-same (Ended a) k m p = p a
and_then-same (Asks c f) k m p = ap (λ g. Asks c g) (λ i r. and_then-same (f r) k m p i)

pub slice_get-append : {A : Type 0} (xs ys : List A) (b : ℕ) → b < length xs → slice_get (xs ++ ys) b ≡ slice_get xs b
slice_get-append [] ys b h = absurd (omega arith)
slice_get-append (x ∷ xs) ys zero h = refl
slice_get-append (x ∷ xs) ys (suc b) h = slice_get-append xs ys b (omega arith)

pub slice_get-seam : {A : Type 0} (xs ys : List A) (y : A) → slice_get (xs ++ y ∷ ys) (length xs) ≡ Some y
slice_get-seam [] ys y = refl
slice_get-seam (x ∷ xs) ys y = slice_get-seam xs ys y

pub Grew-refl : (xs : List Block) → Grew xs xs
Grew-refl xs = record { more = []; is = sym (append-nil xs) }

pub Grew-trans : (xs ys zs : List Block) → Grew xs ys → Grew ys zs → Grew xs zs
Grew-trans xs ys zs p q = record { more = p.more ++ q.more; is = q.is ∙ ap (λ l. l ++ q.more) p.is ∙ append_assoc xs p.more q.more }

pub Grew-one : (xs : List Block) (b : Block) → Grew xs (xs ++ b ∷ [])
Grew-one xs b = record { more = b ∷ []; is = refl }

pub Grew-length : (xs ys : List Block) → Grew xs ys → length xs ≤ length ys
Grew-length xs ys g = omega (arith, ap length g.is, length-append xs g.more)

-- blocks that stand from earlier on, stand from later on, and so do the first of them
pub Stand-later : (from to : ℕ) (xs bs : List Block) → from ≤ to → Stand from xs bs → Stand to xs bs
Stand-later from to xs bs le s = record { at = λ b h l. s.at b (omega arith) l }

pub Stand-before : (from : ℕ) (xs ys bs : List Block) → Grew xs ys → Stand from ys bs → Stand from xs bs
Stand-before from xs ys bs g s = record { at = λ b h l. s.at b h (omega (arith, Grew-length xs ys g)) ∙ ap (λ v. slice_get v b) g.is ∙ slice_get-append xs g.more b l }

pub Runs-more : (bs : List Block) (c : Code) (n n' : ℕ) (scene : Scene) (s : State) (u : Interaction Ending) → n ≤ n' → Runs bs c n scene s u → Runs bs c n' scene s u
Runs-more bs c n n' scene s u le d = record { by = λ m h. d.by m (omega arith) }

pub Reaches-more : (bs : List Block) (b n n' : ℕ) (scene : Scene) (s : State) (u : Interaction Ending) → n ≤ n' → Reaches bs b n scene s u → Reaches bs b n' scene s u
Reaches-more bs b n n' scene s u le d = record { by = λ m h. d.by m (omega arith) }

pub Runs-is : (bs : List Block) (c : Code) (n : ℕ) (scene : Scene) (s : State) (u v : Interaction Ending) → u ≡ v → Runs bs c n scene s u → Runs bs c n scene s v
Runs-is bs c n scene s u v e d = record { by = λ m h. d.by m h ∙ e }

pub Reaches-is : (bs : List Block) (b n : ℕ) (scene : Scene) (s : State) (u v : Interaction Ending) → u ≡ v → Reaches bs b n scene s u → Reaches bs b n scene s v
Reaches-is bs b n scene s u v e d = record { by = λ m h. d.by m h ∙ e }

-- an instruction before what is open
pub Runs-push : {A : Type 0} (bs : List Block) (c : Code) (i : Instr) (n : ℕ) (scene : Scene) (s : State) (t : Interaction A) (after : A → State) (k : A → Interaction Ending) → instr_run i scene s ≡ and_then t (λ a. Ended (after a)) → ((a : A) → Runs bs c n scene (after a) (k a)) → Runs bs (pushed i c) n scene s (and_then t k)
Runs-push bs c i n scene s t after k e d = record {
  by = λ m h.
      ap (λ l. code_run (run_from bs m scene) l c.exit scene s) (reverse-append c.instrs (i ∷ []))
      ∙ and_then_assoc (instr_run i scene s) (instrs_run (reverse c.instrs) scene) (exit_run (run_from bs m scene) c.exit)
      ∙ ap (λ x. and_then x (λ r. and_then (instrs_run (reverse c.instrs) scene r) (exit_run (run_from bs m scene) c.exit))) e
      ∙ and_then_assoc t (λ a. Ended (after a)) (λ r. and_then (instrs_run (reverse c.instrs) scene r) (exit_run (run_from bs m scene) c.exit))
      ∙ and_then-same t _ _ (λ a. (d a).by m h);
}

pub closed-length : (c : Code) → length (closed c).blocks ≡ length c.blocks + 1
closed-length c = length-append c.blocks (open_block c ∷ [])

-- what is open becomes a block
pub here-closed : (bs : List Block) (c : Code) → Stand (length c.blocks) (closed c).blocks bs → slice_get bs (length c.blocks) ≡ Some (open_block c)
here-closed bs c stand = stand.at (length c.blocks) (omega arith) (omega (arith, closed-length c)) ∙ slice_get-seam c.blocks [] (open_block c)

pub Reaches-close : (bs : List Block) (c : Code) (n : ℕ) (scene : Scene) (s : State) (u : Interaction Ending) → Stand (length c.blocks) (closed c).blocks bs → Runs bs c n scene s u → Reaches bs (length c.blocks) (n + 1) scene s u
Reaches-close bs c n scene s u stand d = record { by = run }
  where
    run : (m : ℕ) → n + 1 ≤ m → run_from bs m scene (length c.blocks) s ≡ u
    run zero h = absurd (omega arith)
    run (suc m) h = ap (λ (o : Option Block). block_run (run_from bs m scene) o scene s) (here-closed bs c stand) ∙ d.by m (omega arith)

-- what is open only goes on to a block
pub Runs-goto : (bs : List Block) (c : Code) (b n : ℕ) (on : List Shape) (scene : Scene) (s : State) (u : Interaction Ending) → Reaches bs b n scene s u → Runs bs (begun (Goto b) on c) n scene s u
Runs-goto bs c b n on scene s u r = record { by = λ m h. r.by m h }
