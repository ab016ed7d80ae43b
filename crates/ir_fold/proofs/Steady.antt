-- With enough fuel a run does not depend on the fuel.
use Rattle.std.proofs.Common.{◌≡◌, ℕ, zero, suc, ◌+◌, ◌-◌, ◌*◌, ◌<◌, ◌≤◌, List, [], ◌∷◌, length, Bool, true, false, Option, Some, None, refl, sym, ap, ◌∙◌, subst, arith}
use Rattle.std.specs.Prelude.{nat_le, cond, slice_get, ℤ, pos, negsuc}
use Rattle.std.proofs.lemmas.Bool.{and_parts, leb-true}
use Rattle.std.proofs.Math.Nat.{mul-le-mul_right}
use Rattle.bt_core.specs.declared.ending.Ending.{Ending}
use Rattle.bt_core.specs.declared.item.Item.TheVariants as items
use Rattle.bt_core.specs.declared.step.Reply.{Reply}
use Rattle.bt_core.specs.declared.step.ObjectId.TheVariants.{Cpu, Clock, Out}
use Rattle.bt_core.specs.declared.step.Op.TheVariants as ops
use Rattle.bt_core.specs.declared.value.Value.TheVariants.{Int}
use Rattle.bt_core.specs.Interaction.{Interaction, Ended, Asks, and_then}
use Rattle.ir_code.specs.declared.blocks.Block.{Block}
use Rattle.ir_code.specs.declared.blocks.Exit.{Exit}
use Rattle.ir_code.specs.declared.blocks.Exit.TheVariants.{Goto, Branch, Count, Gate, Again, End}
use Rattle.ir_code.specs.declared.instr.Instr.{Instr}
use Rattle.ir_code.specs.declared.instr.Instr.TheVariants as i
use Rattle.ir_code.specs.declared.state.State.{State}
use Rattle.ir_code.specs.declared.state.Way.TheVariants.{To}
use Rattle.ir_code.specs.Meaning.{Scene, instr_run, instrs_run, exit_run, goes_on, block_run, run_from, popped, put, key_on, unkeyed, updated, stepped, count_way, counted, turn_way}
use Rattle.map_ops.specs.declared.sweep.Sweep.TheVariants.{Clear, Zero}
use Rattle.map_ops.specs.Holders.{part, kind_of}
use Rattle.map_ops.specs.Asking.{tells, got, swept, printed, summed}
use Rattle.ir_code.specs.Stacks.{top}
use Rattle.ir_code.specs.Ways.{depth_in, depth_at, lies_below, leads}
use Rattle.map_ops.specs.Values.{number_of, as_shape, holds}
use Rattle.ir_fold.specs.Folded.{AllLead}

-- ---- turns that are left

-- a computation ends with such values alone
abbrev pub Ends : {A : Type 0} → (A → Type 0) → Interaction A → Type 0
Ends P (Ended a) = P a
Ends P (Asks c f) = (r : Reply) → Ends P (f r)

ends-then : {A B : Type 0} (P : A → Type 0) (Q : B → Type 0) (t : Interaction A) (k : A → Interaction B) → Ends P t → ((a : A) → P a → Ends Q (k a)) → Ends Q (and_then t k)
ends-then P Q (Ended a) k e h = h a e
ends-then P Q (Asks c f) k e h = λ r. ends-then P Q (f r) k (e r) h

ends-any : {A : Type 0} (t : Interaction A) → Ends (λ a. Unit {0}) t
ends-any (Ended a) = tt
ends-any (Asks c f) = λ r. ends-any (f r)

same-under : {A B : Type 0} (P : A → Type 0) (t : Interaction A) (k m : A → Interaction B) → Ends P t → ((a : A) → P a → k a ≡ m a) → and_then t k ≡ and_then t m
same-under P (Ended a) k m e h = h a e
same-under P (Asks c f) k m e h = ap (λ g. Asks c g) (λ j r. same-under P (f r) k m (e r) h j)

-- instructions take none
abbrev Kept : State → State → Type 0
Kept s t = t.turns ≡ s.turns

asked : {A : Type 0} (s : State) (t : Interaction A) (k : A → State) → ((a : A) → Kept s (k a)) → Ends (Kept s) (and_then t (λ a. Ended (k a)))
asked s t k h = ends-then (λ a. Unit {0}) (Kept s) t (λ a. Ended (k a)) (ends-any t) (λ a u. h a)

one-keeps : (x : Instr) (scene : Scene) (s : State) → Ends (Kept s) (instr_run x scene s)
one-keeps (i.Put v) scene s = refl
one-keeps (i.Builtin b) scene s = refl
one-keeps i.Comm scene s = refl
one-keeps (i.NumberField f) scene s = refl
one-keeps (i.TextField f) scene s = refl
one-keeps (i.Load x shape) scene s = refl
one-keeps (i.Store x shape) scene s = refl
one-keeps (i.StepVar x plus prefix) scene s = refl
one-keeps (i.UpdateVar x op) scene s = refl
one-keeps (i.Unary op) scene s = refl
one-keeps (i.Binary op) scene s = refl
one-keeps (i.Compare equal) scene s = refl
one-keeps i.Truth scene s = refl
one-keeps (i.Get m key shape) scene s = asked s (got m (key_on key s)) (λ v. put (as_shape shape v) (unkeyed key s)) (λ a. refl)
one-keeps (i.ReadAgg m key) scene s = asked s (summed m (key_on key s) scene.actors) (λ n. put (Int n) (unkeyed key s)) (λ a. refl)
one-keeps (i.Set m key shape) scene s = asked s (tells (part m (key_on key (popped s))) (ops.Set (key_on key (popped s)) (top s.stack))) (λ u. unkeyed key (popped s)) (λ a. refl)
one-keeps (i.Delete m key) scene s = asked s (tells (part m (key_on key s)) (ops.Delete (key_on key s))) (λ u. unkeyed key s) (λ a. refl)
one-keeps (i.Update m key op) scene s = asked s (updated m (key_on key (popped s)) op (number_of (top s.stack))) (λ u. unkeyed key (popped s)) (λ a. refl)
one-keeps (i.StepMap m key plus prefix) scene s = asked s (stepped m (key_on key s) plus prefix) (λ v. put v (unkeyed key s)) (λ a. refl)
one-keeps (i.Add m key) scene s = asked s (tells (Cpu scene.actor) (ops.Add m (key_on key (popped s)) (number_of (top s.stack)))) (λ u. unkeyed key (popped s)) (λ a. refl)
one-keeps (i.Count m key) scene s = asked s (tells (Cpu scene.actor) (ops.Add m (key_on key s) (pos 1))) (λ u. unkeyed key s) (λ a. refl)
one-keeps (i.Printf format shapes) scene s = asked s (tells Out (ops.Emit (items.Printf format (key_on shapes s)))) (λ u. unkeyed shapes s) (λ a. refl)
one-keeps (i.Print m most div) scene s = asked s (printed (kind_of scene.maps m) m most div scene.actors) (λ u. s) (λ a. refl)
one-keeps (i.Clear m) scene s = asked s (swept Clear (kind_of scene.maps m) m scene.actors) (λ u. s) (λ a. refl)
one-keeps (i.Zero m) scene s = asked s (swept Zero (kind_of scene.maps m) m scene.actors) (λ u. s) (λ a. refl)
one-keeps (i.Cut line) scene s = asked s (tells Out (ops.Emit (items.Cut line))) (λ u. s) (λ a. refl)
one-keeps i.Stop scene s = asked s (tells Clock ops.Stop) (λ u. s) (λ a. refl)
one-keeps i.Pop scene s = refl

all-keep : (xs : List Instr) (scene : Scene) (s : State) → Ends (Kept s) (instrs_run xs scene s)
all-keep [] scene s = refl
all-keep (x ∷ xs) scene s = ends-then (Kept s) (Kept s) (instr_run x scene s) (instrs_run xs scene) (one-keeps x scene s) (λ s1 e. subst (λ (n : ℕ). Ends (λ t. t.turns ≡ n) (instrs_run xs scene s1)) e (all-keep xs scene s1))

-- ---- exits lead to what comes later

module _ (bs : List Block) where
  -- what the turns that are left, the loops round a block and its number make
  abbrev pub rank : ℕ → State → ℕ
  rank b s = (s.turns + depth_at bs b) * length bs + b

  -- two runs that agree on what comes later agree behind an exit
  module _ (k d : ℕ) (s : State) (g h : ℕ → State → Interaction Ending) (inside : k < length bs) (agree : (to : ℕ) (t : State) → rank to t < (s.turns + d) * length bs + k → g to t ≡ h to t) where
    below : (to more : ℕ) (t : State) → lies_below bs k more to ≡ true → t.turns + more ≤ s.turns + d → g to t ≡ h to t
    below to more t l le =
        let p = and_parts (nat_le (to + 1) k) (nat_le (depth_at bs to) more) l in
        let small : to + 1 ≤ k = leb-true (to + 1) k p.0 in
        let flat : depth_at bs to ≤ more = leb-true (depth_at bs to) more p.1 in
        let up : t.turns + depth_at bs to ≤ s.turns + d = omega (arith, flat, le) in
        agree to t (omega (arith, small, mul-le-mul_right (length bs) up))

    branched : (c : Bool) (first second : ℕ) (t : State) → t.turns ≡ s.turns → lies_below bs k d first ≡ true → lies_below bs k d second ≡ true → goes_on g (cond c (To first) (To second)) t ≡ goes_on h (cond c (To first) (To second)) t
    branched true first second t e l1 l2 = below first d t l1 (omega (arith, e))
    branched false first second t e l1 l2 = below second d t l2 (omega (arith, e))

    counts : (z : ℤ) (block leave : ℕ) (t : State) → t.turns ≡ s.turns → lies_below bs k d block ≡ true → lies_below bs k d leave ≡ true → goes_on g (count_way block leave z) t ≡ goes_on h (count_way block leave z) t
    counts (pos zero) block leave t e l1 l2 = below leave d t l2 (omega (arith, e))
    counts (pos (suc n)) block leave t e l1 l2 = below block d t l1 (omega (arith, e))
    counts (negsuc n) block leave t e l1 l2 = below leave d t l2 (omega (arith, e))

    turned-on : (n : ℕ) (block cut : ℕ) (t : State) → n ≡ s.turns → t.turns ≡ n - 1 → lies_below bs k (d + 1) block ≡ true → lies_below bs k d cut ≡ true → goes_on g (turn_way block cut n) t ≡ goes_on h (turn_way block cut n) t
    turned-on zero block cut t e et l1 l2 = below cut d t l2 (omega (arith, e, et))
    turned-on (suc n) block cut t e et l1 l2 = below block (d + 1) t l1 (omega (arith, e, et))

    pub exit-agrees : (e : Exit) → leads bs k d e ≡ true → exit_run g e s ≡ exit_run h e s
    exit-agrees (Goto b) l = below b d s l (omega arith)
    exit-agrees (Branch first second) l =
        let p = and_parts (lies_below bs k d first) (lies_below bs k d second) l in
        branched (holds (number_of (top s.stack))) first second (popped s) refl p.0 p.1
    exit-agrees (Count block leave) l =
        let p = and_parts (lies_below bs k d block) (lies_below bs k d leave) l in
        counts (number_of (top s.stack)) block leave (put (Int (counted (number_of (top s.stack)))) (popped s)) refl p.0 p.1
    exit-agrees (Gate block cut) l =
        let p = and_parts (lies_below bs k (d + 1) block) (lies_below bs k d cut) l in
        turned-on s.turns block cut (record s { turns = s.turns - 1 }) refl refl p.0 p.1
    exit-agrees (Again head) l =
        let p = and_parts (nat_le (head + 1) (length bs)) (nat_le (depth_at bs head + 1) d) l in
        let there : head + 1 ≤ length bs = leb-true (head + 1) (length bs) p.0 in
        let flat : depth_at bs head + 1 ≤ d = leb-true (depth_at bs head + 1) d p.1 in
        let up : suc (s.turns + depth_at bs head) ≤ s.turns + d = omega (arith, flat) in
        let one : suc (s.turns + depth_at bs head) * length bs ≡ (s.turns + depth_at bs head) * length bs + length bs = omega arith in
        agree head s (omega (arith, there, one, mul-le-mul_right (length bs) up))
    exit-agrees (End ending) l = refl

  -- ---- runs

  pub inside : (k : ℕ) (x : Block) → slice_get bs k ≡ Some x → k < length bs
  inside k x e = at bs k e
    where
      at : (ys : List Block) (k : ℕ) → slice_get ys k ≡ Some x → k < length ys
      at [] k e = absurd (cc)
      at (y ∷ ys) zero e = omega arith
      at (y ∷ ys) (suc k) e = omega (arith, at ys k e)

  module _ (scene : Scene) (led : AllLead bs) where
    -- a block's run, where two runs agree on what comes later
    pub block-agrees : (b : ℕ) (x : Block) (exit : Exit) (xs : List Instr) (s : State) (g h : ℕ → State → Interaction Ending) → slice_get bs b ≡ Some x → leads bs b x.depth exit ≡ true
        → ((to : ℕ) (t : State) → rank to t < rank b s → g to t ≡ h to t) → and_then (instrs_run xs scene s) (exit_run g exit) ≡ and_then (instrs_run xs scene s) (exit_run h exit)
    block-agrees b x exit xs s g h e l agree =
        same-under (Kept s) (instrs_run xs scene s) _ _ (all-keep xs scene s) (λ s1 t.
        let same : s1.turns + x.depth ≡ s.turns + depth_at bs b = omega (arith, t, ap depth_in e) in
        let ranks = ap (λ (n : ℕ). n * length bs) same in
        exit-agrees b x.depth s1 g h (inside b x e) (λ to t1 lt. agree to t1 (omega (arith, lt, ranks))) exit l)

    stable : (n m b : ℕ) (s : State) → rank b s < n → rank b s < m → run_from bs n scene b s ≡ run_from bs m scene b s
    stable zero m b s ln lm = absurd (omega (arith, ln))
    stable (suc n) zero b s ln lm = absurd (omega (arith, lm))
    stable (suc n) (suc m) b s ln lm = at (slice_get bs b) refl (λ to t lt. stable n m to t (omega (arith, lt, ln)) (omega (arith, lt, lm)))
      where
        at : (o : Option Block) → slice_get bs b ≡ o → ((to : ℕ) (t : State) → rank to t < rank b s → run_from bs n scene to t ≡ run_from bs m scene to t) → run_from bs (suc n) scene b s ≡ run_from bs (suc m) scene b s
        at None e agree = ap (λ (o : Option Block). block_run (run_from bs n scene) o scene s) e ∙ ap (λ (o : Option Block). block_run (run_from bs m scene) o scene s) (sym e)
        at (Some x) e agree =
            ap (λ (o : Option Block). block_run (run_from bs n scene) o scene s) e
            ∙ block-agrees b x x.exit x.instrs s (run_from bs n scene) (run_from bs m scene) e (led b x e) agree
            ∙ ap (λ (o : Option Block). block_run (run_from bs m scene) o scene s) (sym e)

    -- the run with fuel enough
    abbrev pub whole : ℕ → State → Interaction Ending
    whole b s = run_from bs (suc (rank b s)) scene b s

    pub run-whole : (n b : ℕ) (s : State) → rank b s < n → run_from bs n scene b s ≡ whole b s
    run-whole n b s lt = stable n (suc (rank b s)) b s lt (omega arith)

    pub whole-is : (b : ℕ) (s : State) → whole b s ≡ block_run whole (slice_get bs b) scene s
    whole-is b s = at (slice_get bs b) refl
      where
        at : (o : Option Block) → slice_get bs b ≡ o → whole b s ≡ block_run whole (slice_get bs b) scene s
        at None e = ap (λ (o : Option Block). block_run (run_from bs (rank b s) scene) o scene s) e ∙ ap (λ (o : Option Block). block_run whole o scene s) (sym e)
        at (Some x) e =
            ap (λ (o : Option Block). block_run (run_from bs (rank b s) scene) o scene s) e
            ∙ block-agrees b x x.exit x.instrs s (run_from bs (rank b s) scene) whole e (led b x e) (λ to t lt. run-whole (rank b s) to t lt)
            ∙ ap (λ (o : Option Block). block_run whole o scene s) (sym e)
