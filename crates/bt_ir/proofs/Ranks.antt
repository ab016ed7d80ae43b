-- The run of blocks: where exits lead, and what may be asked.
use Rattle.std.proofs.Common.{◌≡◌, ℕ, zero, suc, ◌+◌, ◌-◌, ◌*◌, ◌<◌, ◌≤◌, List, [], ◌∷◌, length, Bool, true, false, Option, Some, refl, sym, ap, ◌∙◌, subst, arith, inl, inr}
use Rattle.std.specs.Prelude.{ℤ, pos, negsuc, ◌⊎◌, ◌&&◌, ◌==◌, slice_get, nat_le, cond}
use Rattle.std.proofs.lemmas.Bool.{and_parts, leb-true, eqb-true}
use Rattle.std.proofs.Math.Nat.{mul-le-mul_right}
use Rattle.bt_core.specs.declared.ending.Ending.{Ending}
use Rattle.bt_core.specs.declared.step.Step.{Step}
use Rattle.bt_core.specs.Interaction.{Interaction, and_then, Whole, Part, Left}
use Rattle.bt_core.specs.Ports.{Setting}
use Rattle.bt_core.proofs.InteractionLaws.{Left-here, Left-Whole, Left-Part, Left-is, Left-and_then, Part-and_then, Whole-Ended, Performed-none}
use Rattle.ir_code.specs.declared.blocks.Block.{Block}
use Rattle.ir_code.specs.declared.blocks.Exit.{Exit}
use Rattle.ir_code.specs.declared.blocks.Exit.TheVariants.{Goto, Branch, Count, Gate, Again, End}
use Rattle.ir_code.specs.declared.state.State.{State}
use Rattle.ir_code.specs.declared.state.Way.{Way}
use Rattle.ir_code.specs.declared.state.Way.TheVariants.{To, Ends}
use Rattle.bt_ir.specs.declared.step.View.{View}
use Rattle.ir_code.specs.Meaning.{Scene, instrs_run, way_of, after_exit, goes_on, exit_run, block_run, run_from, blocks_run, count_way, turn_way}
use Rattle.bt_ir.specs.Running.{MayAsk, AreReady, AllReady}
use Rattle.map_ops.specs.Values.{number_of, holds}
use Rattle.ir_code.specs.Stacks.{top}
use Rattle.ir_code.specs.Ways.{depth_in, depth_at, lies_below, leads, lead_from, lead_forward}
use Rattle.ir_code.proofs.WayLaws.{some_block}
use Rattle.bt_ir.proofs.Asks.{Can-first, Can-after}
use Rattle.bt_ir.proofs.Turning.{turns_kept}

-- how far a run has to go at most: it falls at each way
abbrev pub rank : List Block → ℕ → ℕ → ℕ
rank bs turns at = (turns + depth_at bs at) * length bs + at

-- ---- where exits lead

-- a block of smaller rank, where so many turns are left
record Falls (bs : List Block) (at depth turns next left : ℕ) : Type 0 where
  there : next < length bs
  falls : rank bs left next < (turns + depth) * length bs + at

below_falls : (bs : List Block) (at depth turns next : ℕ) → at < length bs → lies_below bs at depth next ≡ true → Falls bs at depth turns next turns
below_falls bs at depth turns next l h =
    let p = and_parts (nat_le (next + 1) at) (nat_le (depth_at bs next) depth) h in
    let small : next + 1 ≤ at = leb-true (next + 1) at p.0 in
    let flat : depth_at bs next ≤ depth = leb-true (depth_at bs next) depth p.1 in
    let sum : turns + depth_at bs next ≤ turns + depth = omega arith in
    let less : (turns + depth_at bs next) * length bs ≤ (turns + depth) * length bs = mul-le-mul_right (length bs) sum in
    record { there = omega arith; falls = omega arith }

gate_falls : (bs : List Block) (at depth left next : ℕ) → at < length bs → lies_below bs at (depth + 1) next ≡ true → Falls bs at depth (suc left) next left
gate_falls bs at depth left next l h =
    let p = and_parts (nat_le (next + 1) at) (nat_le (depth_at bs next) (depth + 1)) h in
    let small : next + 1 ≤ at = leb-true (next + 1) at p.0 in
    let flat : depth_at bs next ≤ depth + 1 = leb-true (depth_at bs next) (depth + 1) p.1 in
    let sum : left + depth_at bs next ≤ suc left + depth = omega arith in
    let less : (left + depth_at bs next) * length bs ≤ (suc left + depth) * length bs = mul-le-mul_right (length bs) sum in
    record { there = omega arith; falls = omega arith }

back_falls : (bs : List Block) (at depth turns head : ℕ) → (nat_le (head + 1) (length bs) && nat_le (depth_at bs head + 1) depth) ≡ true → Falls bs at depth turns head turns
back_falls bs at depth turns head h =
    let p = and_parts (nat_le (head + 1) (length bs)) (nat_le (depth_at bs head + 1) depth) h in
    let small : head + 1 ≤ length bs = leb-true (head + 1) (length bs) p.0 in
    let flat : depth_at bs head + 1 ≤ depth = leb-true (depth_at bs head + 1) depth p.1 in
    let sum : suc (turns + depth_at bs head) ≤ turns + depth = omega arith in
    let less : suc (turns + depth_at bs head) * length bs ≤ (turns + depth) * length bs = mul-le-mul_right (length bs) sum in
    let more : suc (turns + depth_at bs head) * length bs ≡ (turns + depth_at bs head) * length bs + length bs = omega arith in
    record { there = omega arith; falls = omega arith }

To-is : (a b : ℕ) → To a ≡ To b → a ≡ b
To-is a b e = cc

count_cases : (block leave next : ℕ) (z : ℤ) → count_way block leave z ≡ To next → (block ≡ next) ⊎ (leave ≡ next)
count_cases block leave next (pos zero) e = inr (To-is leave next e)
count_cases block leave next (pos (suc n)) e = inl (To-is block next e)
count_cases block leave next (negsuc n) e = inr (To-is leave next e)

branch_cases : (first second next : ℕ) (b : Bool) → cond b (To first) (To second) ≡ To next → (first ≡ next) ⊎ (second ≡ next)
branch_cases first second next true e = inl (To-is first next e)
branch_cases first second next false e = inr (To-is second next e)

either_falls : (bs : List Block) (at depth turns first second next : ℕ) → at < length bs → (lies_below bs at depth first && lies_below bs at depth second) ≡ true → (first ≡ next) ⊎ (second ≡ next) → Falls bs at depth turns next turns
either_falls bs at depth turns first second next l h (inl e) =
    subst (λ (n : ℕ). Falls bs at depth turns n turns) e (below_falls bs at depth turns first l (and_parts (lies_below bs at depth first) (lies_below bs at depth second) h).0)
either_falls bs at depth turns first second next l h (inr e) =
    subst (λ (n : ℕ). Falls bs at depth turns n turns) e (below_falls bs at depth turns second l (and_parts (lies_below bs at depth first) (lies_below bs at depth second) h).1)

turn_falls : (bs : List Block) (at depth turns block cut next : ℕ) → at < length bs → (lies_below bs at (depth + 1) block && lies_below bs at depth cut) ≡ true → turn_way block cut turns ≡ To next → Falls bs at depth turns next (turns - 1)
turn_falls bs at depth zero block cut next l h e =
    subst (λ (n : ℕ). Falls bs at depth 0 n 0) (To-is cut next e) (below_falls bs at depth 0 cut l (and_parts (lies_below bs at (depth + 1) block) (lies_below bs at depth cut) h).1)
turn_falls bs at depth (suc left) block cut next l h e =
    let same : suc left - 1 ≡ left = omega arith in
    subst (λ (t : ℕ). Falls bs at depth (suc left) next t) (sym same)
    (subst (λ (n : ℕ). Falls bs at depth (suc left) n left) (To-is block next e) (gate_falls bs at depth left block l (and_parts (lies_below bs at (depth + 1) block) (lies_below bs at depth cut) h).0))

exit_falls : (bs : List Block) (at depth next : ℕ) (exit : Exit) (s : State) → at < length bs → leads bs at depth exit ≡ true → way_of exit s ≡ To next → Falls bs at depth s.turns next (after_exit exit s).turns
exit_falls bs at depth next (Goto b) s l h e = subst (λ (n : ℕ). Falls bs at depth s.turns n s.turns) (To-is b next e) (below_falls bs at depth s.turns b l h)
exit_falls bs at depth next (Branch first second) s l h e = either_falls bs at depth s.turns first second next l h (branch_cases first second next (holds (number_of (top s.stack))) e)
exit_falls bs at depth next (Count block leave) s l h e = either_falls bs at depth s.turns block leave next l h (count_cases block leave next (number_of (top s.stack)) e)
exit_falls bs at depth next (Gate block cut) s l h e = turn_falls bs at depth s.turns block cut next l h e
exit_falls bs at depth next (Again head) s l h e = subst (λ (n : ℕ). Falls bs at depth s.turns n s.turns) (To-is head next e) (back_falls bs at depth s.turns head h)
exit_falls bs at depth next (End ending) s l h e = cc

-- ---- each block of a list

lead_at : (bs : List Block) (n : ℕ) (xs : List Block) (k : ℕ) (b : Block) → lead_from bs n xs ≡ true → slice_get xs k ≡ Some b → leads bs (n + k) b.depth b.exit ≡ true
lead_at bs n [] k b h e = cc
lead_at bs n (x ∷ xs) zero b h e =
    let p = and_parts (leads bs n x.depth x.exit) (lead_from bs (n + 1) xs) h in
    let is : x ≡ b = cc in
    let at : n ≡ n + 0 = omega arith in
    subst (λ (m : ℕ). leads bs m b.depth b.exit ≡ true) at (subst (λ (y : Block). leads bs n y.depth y.exit ≡ true) is p.0)
lead_at bs n (x ∷ xs) (suc k) b h e =
    let p = and_parts (leads bs n x.depth x.exit) (lead_from bs (n + 1) xs) h in
    let at : n + 1 + k ≡ n + suc k = omega arith in
    subst (λ (m : ℕ). leads bs m b.depth b.exit ≡ true) at (lead_at bs (n + 1) xs k b p.1 e)

led_at : (bs : List Block) (k : ℕ) (b : Block) → lead_forward bs ≡ true → slice_get bs k ≡ Some b → leads bs k b.depth b.exit ≡ true
led_at bs k b h e =
    let p = and_parts (nat_le 1 (length bs) && depth_at bs (length bs - 1) == 0) (lead_from bs 0 bs) h in
    let at : 0 + k ≡ k = omega arith in
    subst (λ (m : ℕ). leads bs m b.depth b.exit ≡ true) at (lead_at bs 0 bs k b p.1 e)

outermost : (bs : List Block) → lead_forward bs ≡ true → depth_at bs (length bs - 1) ≡ 0
outermost bs h =
    let p = and_parts (nat_le 1 (length bs) && depth_at bs (length bs - 1) == 0) (lead_from bs 0 bs) h in
    eqb-true (depth_at bs (length bs - 1)) 0 (and_parts (nat_le 1 (length bs)) (depth_at bs (length bs - 1) == 0) p.0).1

pub ready_at : (setting : Setting) (v : View) (bs : List Block) (k : ℕ) (b : Block) → AllReady setting v bs → slice_get bs k ≡ Some b → AreReady setting v b.instrs
ready_at setting v [] k b h e = cc
ready_at setting v (x ∷ xs) zero b h e = let is : x ≡ b = cc in subst (λ (y : Block). AreReady setting v y.instrs) is h.0
ready_at setting v (x ∷ xs) (suc k) b h e = ready_at setting v xs k b h.1 e

-- ---- a run, block by block

-- this block comes next in the run, and there are enough blocks left for what may follow
pub record Going (whole : Interaction Ending) (setting : Setting) (old now : List Step) (bs : List Block) (scene : Scene) (at : ℕ) (s : State) : Type 0 where
  pub fuel : ℕ
  pub enough : rank bs s.turns at < fuel
  pub there : at < length bs
  pub left : Left whole old now (run_from bs fuel scene at s)
  pub can : MayAsk setting (run_from bs fuel scene at s)

pub Going-starts : (setting : Setting) (old : List Step) (bs : List Block) (scene : Scene) (s : State) → lead_forward bs ≡ true → MayAsk setting (blocks_run bs scene s) → Going (blocks_run bs scene s) setting old old bs scene (length bs - 1) s
Going-starts setting old bs scene s h can =
    let some : 1 ≤ length bs = some_block bs h in
    let flat : s.turns + depth_at bs (length bs - 1) ≡ s.turns = omega (arith, outermost bs h) in
    let less : (s.turns + depth_at bs (length bs - 1)) * length bs ≡ s.turns * length bs = ap (λ (n : ℕ). n * length bs) flat in
    let sum : s.turns + 1 ≡ suc s.turns = omega arith in
    let more : (s.turns + 1) * length bs ≡ s.turns * length bs + length bs = ap (λ (n : ℕ). n * length bs) sum ∙ omega arith in
    record { fuel = (s.turns + 1) * length bs; enough = omega arith; there = omega arith; left = Left-here _ _; can = can }

module _ (whole : Interaction Ending) (setting : Setting) (old mid : List Step) (bs : List Block) (scene : Scene) (at : ℕ) (s : State) (b : Block) (here : slice_get bs at ≡ Some b) where
  opened : (n : ℕ) → run_from bs (suc n) scene at s ≡ and_then (instrs_run b.instrs scene s) (exit_run (run_from bs n scene) b.exit)
  opened n = ap (λ (o : Option Block). block_run (run_from bs n scene) o scene s) here

  one_less : (p : Going whole setting old mid bs scene at s) → (n : ℕ) × (p.fuel ≡ suc n)
  one_less p = pick p.fuel p.enough
    where
      pick : (n : ℕ) → rank bs s.turns at < n → (m : ℕ) × (n ≡ suc m)
      pick zero h = absurd (omega arith)
      pick (suc m) h = (m, refl)

  is_opened : (p : Going whole setting old mid bs scene at s) (n : ℕ) → p.fuel ≡ suc n → run_from bs p.fuel scene at s ≡ and_then (instrs_run b.instrs scene s) (exit_run (run_from bs n scene) b.exit)
  is_opened p n e = ap (λ (m : ℕ). run_from bs m scene at s) e ∙ opened n

  pub Going-can : Going whole setting old mid bs scene at s → MayAsk setting (instrs_run b.instrs scene s)
  Going-can p = let (n, e) = one_less p in Can-first setting _ (instrs_run b.instrs scene s) (exit_run (run_from bs n scene) b.exit) (subst (λ (t : Interaction Ending). MayAsk setting t) (is_opened p n e) p.can)

  pub Going-stops : (new : List Step) → Going whole setting old mid bs scene at s → Part (instrs_run b.instrs scene s) mid new → Part whole old new
  Going-stops new p q = let (n, e) = one_less p in Left-Part _ _ _ _ _ (Left-is _ _ _ _ _ p.left (is_opened p n e)) (Part-and_then _ _ _ _ q)

  module _ (new : List Step) (s1 : State) (done : Whole (instrs_run b.instrs scene s) mid new s1) where
    exits : (p : Going whole setting old mid bs scene at s) (n : ℕ) → p.fuel ≡ suc n → Left whole old new (exit_run (run_from bs n scene) b.exit s1)
    exits p n e = Left-and_then whole (instrs_run b.instrs scene s) (exit_run (run_from bs n scene) b.exit) old mid new s1 (Left-is _ _ _ _ _ p.left (is_opened p n e)) done

    pub Going-drops : Going whole setting old mid bs scene at s → Part whole old new
    Going-drops p = let (n, e) = one_less p in Left-Part _ _ _ _ _ (exits p n e) (Performed-none _ _ _ refl)

    pub Going-ends : (ending : Ending) → way_of b.exit s1 ≡ Ends ending → Going whole setting old mid bs scene at s → Whole whole old new ending
    Going-ends ending w p =
        let (n, e) = one_less p in
        Left-Whole _ _ _ _ _ _ (Left-is _ _ _ _ _ (exits p n e) (ap (λ (x : Way). goes_on (run_from bs n scene) x (after_exit b.exit s1)) w)) (Whole-Ended _ _ _ refl)

    pub Going-next : (next : ℕ) (s2 : State) → lead_forward bs ≡ true → way_of b.exit s1 ≡ To next → s2 ≡ after_exit b.exit s1 → Going whole setting old mid bs scene at s → Going whole setting old new bs scene next s2
    Going-next next s2 led w a p =
        let (n, e) = one_less p in
        let f = exit_falls bs at b.depth next b.exit s1 p.there (led_at bs at b led here) w in
        let depth : depth_at bs at ≡ b.depth = ap depth_in here in
        let turns : s1.turns ≡ s.turns = turns_kept b.instrs scene s s1 mid new done in
        let sum : s1.turns + b.depth ≡ s.turns + depth_at bs at = omega arith in
        let same : (s1.turns + b.depth) * length bs ≡ (s.turns + depth_at bs at) * length bs = ap (λ (m : ℕ). m * length bs) sum in
        let on : exit_run (run_from bs n scene) b.exit s1 ≡ run_from bs n scene next s2 = ap (λ (x : Way). goes_on (run_from bs n scene) x (after_exit b.exit s1)) w ∙ ap (run_from bs n scene next) (sym a) in
        let less : rank bs s2.turns next ≡ rank bs (after_exit b.exit s1).turns next = ap (λ (x : State). rank bs x.turns next) a in
        record {
          fuel = n;
          enough = omega (arith, f.falls, p.enough, e);
          there = f.there;
          left = Left-is _ _ _ _ _ (exits p n e) on;
          can = subst (λ (t : Interaction Ending). MayAsk setting t) on (Can-after setting _ (instrs_run b.instrs scene s) (exit_run (run_from bs n scene) b.exit) mid new s1 done (subst (λ (t : Interaction Ending). MayAsk setting t) (is_opened p n e) p.can));
        }

    pub Going-falls : (next : ℕ) (s2 : State) → lead_forward bs ≡ true → way_of b.exit s1 ≡ To next → s2 ≡ after_exit b.exit s1 → Going whole setting old mid bs scene at s → rank bs s2.turns next < rank bs s.turns at
    Going-falls next s2 led w a p =
        let f = exit_falls bs at b.depth next b.exit s1 p.there (led_at bs at b led here) w in
        let depth : depth_at bs at ≡ b.depth = ap depth_in here in
        let turns : s1.turns ≡ s.turns = turns_kept b.instrs scene s s1 mid new done in
        let sum : s1.turns + b.depth ≡ s.turns + depth_at bs at = omega arith in
        let same : (s1.turns + b.depth) * length bs ≡ (s.turns + depth_at bs at) * length bs = ap (λ (m : ℕ). m * length bs) sum in
        let less : rank bs s2.turns next ≡ rank bs (after_exit b.exit s1).turns next = ap (λ (x : State). rank bs x.turns next) a in
        omega (arith, f.falls)
