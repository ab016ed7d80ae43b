-- What the steps by which code is made do to its soundness.
use Rattle.std.proofs.Common.{◌≡◌, ℕ, ◌+◌, ◌<◌, ◌≤◌, List, [], ◌∷◌, ◌++◌, length, reverse, refl, sym, ap, ◌∙◌, arith, Option, Some, subst, true, inl, inr}
use Rattle.std.specs.Prelude.{◌⊎◌, slice_get}
use Rattle.std.proofs.lemmas.Bool.{cases_lt}
use Rattle.std.proofs.lemmas.List.{reverse-append}
use Rattle.bt_core.specs.declared.map.Shape.{Shape}
use Rattle.bt_core.specs.declared.map.Shape.TheVariants.{Int}
use Rattle.ir_code.specs.declared.instr.Instr.{Instr}
use Rattle.ir_code.specs.declared.blocks.Exit.TheVariants.{Goto, Branch}
use Rattle.ir_code.specs.declared.blocks.Block.{Block}
use Rattle.ir_code.specs.Figures.{sizes_of, instr_bytes}
use Rattle.ir_code.specs.Typing.{operand_shapes, gives, names, stack_in, front_of}
use Rattle.ir_code.specs.Serving.{end_read}
use Rattle.ir_code.specs.Ways.{depth_in}
use Rattle.bt_lower.specs.declared.code.Code.{Code}
use Rattle.bt_lower.specs.Code.{pushed, open_block, begun, closed, taken_back}
use Rattle.bt_lower.specs.Sound.{Footing, ground_in, HasRoom, Turns, Target, SoundBlock, Opens, Sound}
use Rattle.bt_lower.specs.Lowers.{Stand}
use Rattle.bt_lower.proofs.Blocks.{here-closed, closed-length}
use Rattle.bt_lower.proofs.Lists.{front-append}

pub Room-less : (g : Footing) (a b : ℕ) → a ≤ b → HasRoom g b → HasRoom g a
Room-less g a b le r = record { within = omega (arith, r.within) }

pub Sound-none : (g : Footing) (bs : List Block) (n : ℕ) → Sound g bs n n
Sound-none g bs n = record { each = λ m h l. absurd (omega arith) }

pub Sound-join : (g : Footing) (bs : List Block) (a b c : ℕ) → Sound g bs a b → Sound g bs b c → Sound g bs a c
Sound-join g bs a b c p q = record { each = each }
  where
    pick : (n : ℕ) → a ≤ n → n < c → (n < b) ⊎ (b ≤ n) → (x : Block) → slice_get bs n ≡ Some x → SoundBlock g bs n x
    pick n h l (inl s) x e = p.each n h s x e
    pick n h l (inr s) x e = q.each n s l x e

    each : (n : ℕ) → a ≤ n → n < c → (x : Block) → slice_get bs n ≡ Some x → SoundBlock g bs n x
    each n h l = pick n h l (cases_lt n b)

pub Target-later : (bs : List Block) (n n' depth to : ℕ) (stack : List Shape) → n ≤ n' → Target bs n depth stack to → Target bs n' depth stack to
Target-later bs n n' depth to stack le t = record { later = omega (arith, t.later); loops = t.loops; finds = t.finds }

-- an instruction before what is open
pub Opens-push : (g : Footing) (bs : List Block) (c : Code) (i : Instr) (rest : List Shape) → c.stack ≡ rest ++ gives i → names (ground_in g) i ≡ true → end_read i ≤ g.payload → HasRoom g (sizes_of (rest ++ operand_shapes i) + instr_bytes i) → Opens g bs c → Opens g bs (pushed i c)
Opens-push g bs c i rest e named reads room o =
    let before : taken_back i c.stack ≡ rest ++ operand_shapes i = ap (λ l. l ++ operand_shapes i) (ap (λ l. front_of (length (gives i)) l) e ∙ front-append (length (gives i)) rest (gives i) refl) in
    record {
      after = o.after;
      turns = subst (λ (l : List Instr). Turns g l (taken_back i c.stack) o.after) (sym (reverse-append c.instrs (i ∷ [])))
          (rest, record { named = named; reads = reads; found = before; room = subst (λ (l : List Shape). HasRoom g (sizes_of l + instr_bytes i)) (sym before) room }, subst (λ (l : List Shape). Turns g (reverse c.instrs) l o.after) e o.turns);
      leads = o.leads;
    }

pub pushed-stack : (c : Code) (i : Instr) (rest : List Shape) → c.stack ≡ rest ++ gives i → (pushed i c).stack ≡ rest ++ operand_shapes i
pushed-stack c i rest e = ap (λ l. l ++ operand_shapes i) (ap (λ l. front_of (length (gives i)) l) e ∙ front-append (length (gives i)) rest (gives i) refl)

-- an instruction that reads no field
pub none-read : (n : ℕ) → 0 ≤ n
none-read n = omega arith

-- what is open becomes a block
pub Sound-close : (g : Footing) (bs : List Block) (c : Code) → Stand (length c.blocks) (closed c).blocks bs → Opens g bs c → Sound g bs (length c.blocks) (length (closed c).blocks)
Sound-close g bs c stand o = record { each = each }
  where
    block : SoundBlock g bs (length c.blocks) (open_block c)
    block = record { after = o.after; turns = o.turns; leads = o.leads }

    each : (n : ℕ) → length c.blocks ≤ n → n < length (closed c).blocks → (b : Block) → slice_get bs n ≡ Some b → SoundBlock g bs n b
    each n h l b e =
        let same : n ≡ length c.blocks = omega (arith, closed-length c) in
        let at : slice_get bs n ≡ Some (open_block c) = ap (λ (m : ℕ). slice_get bs m) same ∙ here-closed bs c stand in
        let is : open_block c ≡ b = cc in
        subst (λ (m : ℕ). SoundBlock g bs m b) (sym same) (subst (λ (x : Block). SoundBlock g bs (length c.blocks) x) is block)

-- and others may lead to it
pub Target-close : (bs : List Block) (c : Code) (n depth : ℕ) → Stand (length c.blocks) (closed c).blocks bs → length c.blocks < n → c.depth ≤ depth → Target bs n depth c.stack (length c.blocks)
Target-close bs c n depth stand lt le = record {
  later = lt;
  loops = subst (λ (o : Option Block). depth_in o ≤ depth) (sym (here-closed bs c stand)) le;
  finds = ap stack_in (here-closed bs c stand);
}

-- what is open only goes on to a block, or takes a branch
pub Opens-goto : (g : Footing) (bs : List Block) (c : Code) (on : List Shape) (b : ℕ) → HasRoom g (sizes_of (c.stack ++ on)) → Target bs (length c.blocks) c.depth (c.stack ++ on) b → Opens g bs (begun (Goto b) on c)
Opens-goto g bs c on b room t = record { after = c.stack ++ on; turns = (refl, room); leads = t }

pub Opens-branch : (g : Footing) (bs : List Block) (c : Code) (first second : ℕ) → HasRoom g (sizes_of (c.stack ++ Int ∷ [])) → Target bs (length c.blocks) c.depth c.stack first → Target bs (length c.blocks) c.depth c.stack second → Opens g bs (begun (Branch first second) (Int ∷ []) c)
Opens-branch g bs c first second room t u = record { after = c.stack ++ Int ∷ []; turns = (refl, room); leads = (c.stack, refl, t, u) }
