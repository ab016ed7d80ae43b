-- Blocks whose ways go through a block that does nothing.
use Rattle.std.proofs.Common.{◌≡◌, ℕ, zero, suc, ◌+◌, ◌-◌, ◌*◌, ◌<◌, ◌≤◌, List, [], ◌∷◌, ◌++◌, length, take, map, Bool, true, false, Option, Some, None, refl}
use Rattle.std.proofs.Common.{sym, ap, ◌∙◌, subst, arith, append-nil}
use Rattle.std.specs.Prelude.{◌&&◌, ◌==◌, nat_le, nat_eq, cond, slice_get}
use Rattle.std.specs.Option.{option_map}
use Rattle.std.proofs.lemmas.Option.{slice_get-map}
use Rattle.std.proofs.lemmas.Bool.{and_parts, eqb-true, leb-true, le-leb}
use Rattle.bt_core.specs.declared.ending.Ending.{Ending}
use Rattle.bt_core.specs.declared.map.MapDecl.{MapDecl}
use Rattle.bt_core.specs.declared.map.Shape.{Shape}
use Rattle.bt_core.specs.declared.map.Shape.TheVariants as shapes
use Rattle.bt_core.specs.declared.value.Value.{Value}
use Rattle.bt_core.specs.declared.value.Value.TheVariants.{Int}
use Rattle.bt_core.specs.Arithmetic.{truth}
use Rattle.bt_core.specs.Interaction.{Interaction, and_then}
use Rattle.bt_core.proofs.InteractionLaws.{and_then_assoc}
use Rattle.typed_tree.specs.Scope.{same_shapes}
use Rattle.ir_code.specs.declared.blocks.Block.{Block}
use Rattle.ir_code.specs.declared.blocks.Exit.{Exit}
use Rattle.ir_code.specs.declared.blocks.Exit.TheVariants.{Goto, Branch, Count, Gate, Again, End}
use Rattle.ir_code.specs.declared.instr.Instr.{Instr}
use Rattle.ir_code.specs.declared.instr.Instr.TheVariants as i
use Rattle.ir_code.specs.declared.probe.IrProbe.{IrProbe}
use Rattle.ir_code.specs.declared.state.State.{State}
use Rattle.ir_code.specs.declared.state.Way.TheVariants.{To}
use Rattle.ir_code.specs.Figures.{sizes_of, instrs_slots, exit_slots, blocks_slots, block_slots}
use Rattle.ir_code.specs.Meaning.{Scene, instrs_run, put, popped, truth_on, exit_run, goes_on, code_run, block_run, run_from, blocks_run, fresh, ir_run}
use Rattle.ir_code.specs.Serving.{ends_read, payload_need}
use Rattle.ir_code.specs.Stacks.{top}
use Rattle.ir_code.specs.Typing.{Ground, front_of, end_with, names, has_room, turned, may_stand, all_stand, all_turned, stack_in, goes_with, exit_stands, block_stands, each_stands, are_typed}
use Rattle.ir_code.specs.Ways.{depth_in, depth_at, lies_below, leads, lead_from, lead_forward}
use Rattle.ir_code.proofs.Shaped.{same_shapes-is, ends_is}
use Rattle.map_ops.specs.Values.{number_of, holds}
use Rattle.ir_fold.specs.Folded.{BettersBlock, BlockVaries, BlocksVary, IsFoldOf, bare_in, flat, bare_at, onward, way_on, ways_on, TestsNone, GoesThrough, AllLead, AllMayStand, Shortens, AllShorten, Tests, is_truth, ends_in_truth, literal_before}
use Rattle.ir_fold.proofs.Better.{and_then-same, runs-append, slots-append, turned-append, top-append, popped-is, both, split, join}
use Rattle.ir_fold.proofs.Adding.{here, last-at, last-is}
use Rattle.ir_fold.proofs.Alike.{leads-same, block-same, lead-whole, typed-whole}
use Rattle.ir_fold.proofs.Blocked.{none-is, block-then, settles}
use Rattle.ir_fold.proofs.Steady.{rank, block-agrees, whole, run-whole, whole-is}

-- ---- the truth of a number counts as true where the number does

counts-truth : (b : Bool) → holds (truth b) ≡ b
counts-truth true = refl
counts-truth false = refl

-- a branch on the truth of a number is one on the number
pub truth-drops : (flags : List Bool) (xs : List Instr) (stack : List Shape) (first second depth : ℕ)
    → BettersBlock flags (record { stack = stack; instrs = xs ++ i.Truth ∷ []; exit = Branch first second; depth = depth }) (record { stack = stack; instrs = xs; exit = Branch first second; depth = depth })
truth-drops flags xs stack first second depth = record {
  stack = refl;
  depth = refl;
  runs = λ go fin scene s.
      (and_then-same (instrs_run xs scene s) _ _ (λ s1. one go s1)
      ∙ sym (and_then_assoc (instrs_run xs scene s) (instrs_run (i.Truth ∷ []) scene) (exit_run go (Branch first second)))
      ∙ ap (λ (t : Interaction State). and_then t (exit_run go (Branch first second))) (sym (runs-append xs (i.Truth ∷ []) scene s)));
  leads = λ bs n h. h;
  stands = stands;
  slots = omega (arith, slots-append xs (i.Truth ∷ []));
  reads = reads xs;
}
  where
    one : (go : ℕ → State → Interaction Ending) (s : State) → exit_run go (Branch first second) s ≡ exit_run go (Branch first second) (truth_on s)
    one go s =
        let h = holds (number_of (top s.stack)) in
        let v : Value = Int (truth h) in
        ap (λ (t : State). goes_on go (cond h (To first) (To second)) t) (sym (popped-is v (popped s)))
        ∙ ap (λ (c : Bool). goes_on go (cond c (To first) (To second)) (popped (put v (popped s)))) (sym (counts-truth h) ∙ ap (λ (w : Value). holds (number_of w)) (sym (top-append (popped s).stack v)))

    stands : (g : Ground) (bs : List Block) → block_stands g bs (record { stack = stack; instrs = xs ++ i.Truth ∷ []; exit = Branch first second; depth = depth }) ≡ true
        → block_stands g bs (record { stack = stack; instrs = xs; exit = Branch first second; depth = depth }) ≡ true
    stands g bs h =
        let t = all_turned xs stack in
        let q = and_parts (all_stand g (xs ++ i.Truth ∷ []) stack) (exit_stands bs (Branch first second) (all_turned (xs ++ i.Truth ∷ []) stack)) h in
        let sp = split g xs (i.Truth ∷ []) stack q.0 in
        let r = and_parts (may_stand g i.Truth t) (has_room g (sizes_of (turned i.Truth t))) sp.second in
        let m = and_parts (names g i.Truth && end_with (shapes.Int ∷ []) t) (has_room g (sizes_of t + 0)) r.0 in
        let e = and_parts (names g i.Truth) (end_with (shapes.Int ∷ []) t) m.0 in
        let same : turned i.Truth t ≡ t = sym (ends_is (shapes.Int ∷ []) t e.1) in
        let alls : all_stand g (xs ++ []) stack ≡ true = join g xs [] stack (record { first = sp.first; second = ap (λ (l : List Shape). has_room g (sizes_of l)) (sym same) ∙ r.1 }) in
        both (all_stand g xs stack) (exit_stands bs (Branch first second) t)
        (ap (λ (l : List Instr). all_stand g l stack) (sym (append-nil xs)) ∙ alls)
        (ap (λ (l : List Shape). exit_stands bs (Branch first second) l) (sym (turned-append xs (i.Truth ∷ []) stack ∙ same)) ∙ q.1)

    reads : (ys : List Instr) → ends_read ys ≤ ends_read (ys ++ i.Truth ∷ [])
    reads [] = omega arith
    reads (y ∷ ys) = grind (arith, reads ys)

-- ---- one block

record Bare (bs : List Block) (to : ℕ) (exit : Exit) : Type 0 where
  block : Block
  at : slice_get bs to ≡ Some block
  none : block.instrs ≡ []
  is : block.exit ≡ exit

bare-is : (bs : List Block) (to : ℕ) (exit : Exit) → bare_at (map bare_in bs) to ≡ Some exit → Bare bs to exit
bare-is bs to exit e = by (slice_get bs to) refl (ap flat (sym (slice_get-map bare_in bs to)) ∙ e)
  where
    one : (b : Block) → slice_get bs to ≡ Some b → (c : Bool) → nat_eq (length b.instrs) 0 ≡ c → cond c (Some b.exit) None ≡ Some exit → Bare bs to exit
    one b at true n e = record { block = b; at = at; none = none-is b.instrs n; is = cc }
    one b at false n e = absurd (cc)

    by : (o : Option Block) → slice_get bs to ≡ o → flat (option_map bare_in o) ≡ Some exit → Bare bs to exit
    by None at e = absurd (cc)
    by (Some b) at e = one b at (nat_eq (length b.instrs) 0) refl e

lies-through : (bs : List Block) (n d to k : ℕ) → lies_below bs n d to ≡ true → lies_below bs to (depth_at bs to) k ≡ true → lies_below bs n d k ≡ true
lies-through bs n d to k p q =
    let a = and_parts (nat_le (to + 1) n) (nat_le (depth_at bs to) d) p in
    let b = and_parts (nat_le (k + 1) to) (nat_le (depth_at bs k) (depth_at bs to)) q in
    let a0 : to + 1 ≤ n = leb-true (to + 1) n a.0 in
    let a1 : depth_at bs to ≤ d = leb-true (depth_at bs to) d a.1 in
    let b0 : k + 1 ≤ to = leb-true (k + 1) to b.0 in
    let b1 : depth_at bs k ≤ depth_at bs to = leb-true (depth_at bs k) (depth_at bs to) b.1 in
    both (nat_le (k + 1) n) (nat_le (depth_at bs k) d) (le-leb (k + 1) n (omega (arith, a0, b0))) (le-leb (depth_at bs k) d (omega (arith, a1, b1)))

-- a block that goes to a branch without instructions, which stands in its own place as well
pub shortens : (bs : List Block) (old new : Block) (to first second : ℕ) → old.exit ≡ Goto to → bare_at (map bare_in bs) to ≡ Some (Branch first second)
    → BettersBlock [] (record old { exit = Branch first second }) new → block_slots new ≤ block_slots old → Shortens bs old new
shortens bs old new to first second e at p slots = record {
  stack = p.stack;
  depth = p.depth;
  runs = λ go through scene s.
      (p.runs go (λ k t f. absurd (cc)) scene s
      ∙ and_then-same (instrs_run old.instrs scene s) _ _ (λ s1. sym (through to s1 (Branch first second) at))
      ∙ ap (λ (x : Exit). code_run go old.instrs x scene s) (sym e));
  leads = λ all n h. p.leads bs n (led all n (ap (λ (x : Exit). leads bs n old.depth x) (sym e) ∙ h));
  stands = λ g all h. p.stands g bs (typed g all (ap (λ (x : Exit). all_stand g old.instrs old.stack && exit_stands bs x (all_turned old.instrs old.stack)) (sym e) ∙ h));
  slots = slots;
  reads = p.reads;
}
  where
    led : AllLead bs → (n : ℕ) → lies_below bs n old.depth to ≡ true → leads bs n old.depth (Branch first second) ≡ true
    led all n h =
        let m = bare-is bs to (Branch first second) at in
        let depth : depth_at bs to ≡ m.block.depth = ap depth_in m.at in
        let l : leads bs to (depth_at bs to) (Branch first second) ≡ true = ap (λ (d : ℕ). leads bs to d (Branch first second)) depth ∙ ap (λ (x : Exit). leads bs to m.block.depth x) (sym m.is) ∙ all to m.block m.at in
        let q = and_parts (lies_below bs to (depth_at bs to) first) (lies_below bs to (depth_at bs to) second) l in
        both (lies_below bs n old.depth first) (lies_below bs n old.depth second) (lies-through bs n old.depth to first h q.0) (lies-through bs n old.depth to second h q.1)

    typed : (g : Ground) → AllMayStand g bs → (all_stand g old.instrs old.stack && goes_with bs (all_turned old.instrs old.stack) to) ≡ true → block_stands g bs (record old { exit = Branch first second }) ≡ true
    typed g all h =
        let t = all_turned old.instrs old.stack in
        let m = bare-is bs to (Branch first second) at in
        let q = and_parts (all_stand g old.instrs old.stack) (goes_with bs t to) h in
        let same : stack_in (slice_get bs to) ≡ t = same_shapes-is (stack_in (slice_get bs to)) t q.1 in
        let stack : m.block.stack ≡ t = sym (ap stack_in m.at) ∙ same in
        let s = and_parts (all_stand g m.block.instrs m.block.stack) (exit_stands bs m.block.exit (all_turned m.block.instrs m.block.stack)) (all to m.block m.at) in
        let exit : exit_stands bs (Branch first second) t ≡ true =
        ap (λ (l : List Shape). exit_stands bs (Branch first second) l) (sym stack) ∙ ap (λ (xs : List Instr). exit_stands bs (Branch first second) (all_turned xs m.block.stack)) (sym m.none)
        ∙ ap (λ (x : Exit). exit_stands bs x (all_turned m.block.instrs m.block.stack)) (sym m.is) ∙ s.1 in
        both (all_stand g old.instrs old.stack) (exit_stands bs (Branch first second) t) q.0 exit

pub shortens-self : (bs : List Block) (b : Block) → Shortens bs b b
shortens-self bs b = record {
  stack = refl;
  depth = refl;
  runs = λ go through scene s. refl;
  leads = λ all n h. h;
  stands = λ g all h. h;
  slots = omega arith;
  reads = omega arith;
}

pub shortens-then : (bs : List Block) (a b c : Block) → Shortens bs a b → Shortens bs b c → Shortens bs a c
shortens-then bs a b c p q = record {
  stack = q.stack ∙ p.stack;
  depth = q.depth ∙ p.depth;
  runs = λ go through scene s. q.runs go through scene s ∙ p.runs go through scene s;
  leads = λ all n h. q.leads all n (p.leads all n h);
  stands = λ g all h. q.stands g all (p.stands g all h);
  slots = omega (arith, p.slots, q.slots);
  reads = omega (arith, p.reads, q.reads);
}

-- a way past a block that only goes on
record Onward (bs : List Block) (to next : ℕ) : Type 0 where
  runs : (go : ℕ → State → Interaction Ending) → GoesThrough bs go → (s : State) → go next s ≡ go to s
  leads : AllLead bs → (n d : ℕ) → lies_below bs n d to ≡ true → lies_below bs n d next ≡ true
  stands : (g : Ground) → AllMayStand g bs → (stack : List Shape) → goes_with bs stack to ≡ true → goes_with bs stack next ≡ true

onward-is : (bs : List Block) (to : ℕ) (o : Option Exit) → bare_at (map bare_in bs) to ≡ o → Onward bs to (onward o to)
onward-is bs to None at = record { runs = λ go through s. refl; leads = λ all n d h. h; stands = λ g all stack h. h }
onward-is bs to (Some (Goto next)) at =
    let m = bare-is bs to (Goto next) at in
    record {
      runs = λ go through s. sym (through to s (Goto next) at);
      leads = λ all n d h.
          (let l : lies_below bs to (depth_at bs to) next ≡ true = ap (λ (k : ℕ). lies_below bs to k next) (ap depth_in m.at) ∙ ap (λ (x : Exit). leads bs to m.block.depth x) (sym m.is) ∙ all to m.block m.at in
          lies-through bs n d to next h l);
      stands = λ g all stack h.
          (let same : stack_in (slice_get bs to) ≡ stack = same_shapes-is (stack_in (slice_get bs to)) stack h in
          let own : m.block.stack ≡ stack = sym (ap stack_in m.at) ∙ same in
          let s = and_parts (all_stand g m.block.instrs m.block.stack) (exit_stands bs m.block.exit (all_turned m.block.instrs m.block.stack)) (all to m.block m.at) in
          ap (λ (l : List Shape). goes_with bs l next) (sym own) ∙ ap (λ (xs : List Instr). goes_with bs (all_turned xs m.block.stack) next) (sym m.none)
          ∙ ap (λ (x : Exit). exit_stands bs x (all_turned m.block.instrs m.block.stack)) (sym m.is) ∙ s.1);
    }
onward-is bs to (Some (Branch first second)) at = record { runs = λ go through s. refl; leads = λ all n d h. h; stands = λ g all stack h. h }
onward-is bs to (Some (Count block leave)) at = record { runs = λ go through s. refl; leads = λ all n d h. h; stands = λ g all stack h. h }
onward-is bs to (Some (Gate block cut)) at = record { runs = λ go through s. refl; leads = λ all n d h. h; stands = λ g all stack h. h }
onward-is bs to (Some (Again head)) at = record { runs = λ go through s. refl; leads = λ all n d h. h; stands = λ g all stack h. h }
onward-is bs to (Some (End ending)) at = record { runs = λ go through s. refl; leads = λ all n d h. h; stands = λ g all stack h. h }

pub shortens-ways : (bs : List Block) (b : Block) → Shortens bs b (record b { exit = ways_on (map bare_in bs) b.exit })
shortens-ways bs b = by b.exit
  where
    one : (to : ℕ) → Onward bs to (way_on (map bare_in bs) to)
    one to = onward-is bs to (bare_at (map bare_in bs) to) refl

    by : (x : Exit) → Shortens bs (record b { exit = x }) (record b { exit = ways_on (map bare_in bs) x })
    by (Goto to) = shortens-self bs (record b { exit = Goto to })
    by (Branch first second) = record {
      stack = refl;
      depth = refl;
      runs = λ go through scene s. and_then-same (instrs_run b.instrs scene s) _ _ (λ s1. chosen go through (holds (number_of (top s1.stack))) (popped s1));
      leads = λ all n h.
          (let p = and_parts (lies_below bs n b.depth first) (lies_below bs n b.depth second) h in
          both (lies_below bs n b.depth (way_on (map bare_in bs) first)) (lies_below bs n b.depth (way_on (map bare_in bs) second)) ((one first).leads all n b.depth p.0) ((one second).leads all n b.depth p.1));
      stands = λ g all h.
          (let t = all_turned b.instrs b.stack in
          let rest = front_of 1 t in
          let q = and_parts (all_stand g b.instrs b.stack) (exit_stands bs (Branch first second) t) h in
          let r = and_parts (end_with (shapes.Int ∷ []) t && goes_with bs rest first) (goes_with bs rest second) q.1 in
          let e = and_parts (end_with (shapes.Int ∷ []) t) (goes_with bs rest first) r.0 in
          both (all_stand g b.instrs b.stack) (exit_stands bs (Branch (way_on (map bare_in bs) first) (way_on (map bare_in bs) second)) t) q.0
          (both (end_with (shapes.Int ∷ []) t && goes_with bs rest (way_on (map bare_in bs) first)) (goes_with bs rest (way_on (map bare_in bs) second))
          (both (end_with (shapes.Int ∷ []) t) (goes_with bs rest (way_on (map bare_in bs) first)) e.0 ((one first).stands g all rest e.1)) ((one second).stands g all rest r.1)));
      slots = omega arith;
      reads = omega arith;
    }
      where
        chosen : (go : ℕ → State → Interaction Ending) → GoesThrough bs go → (c : Bool) (s : State) → goes_on go (cond c (To (way_on (map bare_in bs) first)) (To (way_on (map bare_in bs) second))) s ≡ goes_on go (cond c (To first) (To second)) s
        chosen go through true s = (one first).runs go through s
        chosen go through false s = (one second).runs go through s
    by (Count block leave) = shortens-self bs (record b { exit = Count block leave })
    by (Gate block cut) = shortens-self bs (record b { exit = Gate block cut })
    by (Again head) = shortens-self bs (record b { exit = Again head })
    by (End ending) = shortens-self bs (record b { exit = End ending })

pub vary-ways : (bares : List (Option Exit)) (b : Block) → BlockVaries b → BlockVaries (record b { exit = ways_on bares b.exit })
vary-ways bares b h = record { operators = h.operators; branch = by b.exit h.branch }
  where
    by : (x : Exit) → TestsNone x b.instrs → TestsNone (ways_on bares x) b.instrs
    by (Goto to) t = t
    by (Branch first second) t = t
    by (Count block leave) t = t
    by (Gate block cut) t = t
    by (Again head) t = t
    by (End ending) t = t

-- ---- lists of blocks

pub shorten-append : (all bs cs : List Block) (b c : Block) → AllShorten all bs cs → Shortens all b c → AllShorten all (bs ++ b ∷ []) (cs ++ c ∷ [])
shorten-append all [] [] b c h p = (p, tt)
shorten-append all [] (d ∷ cs) b c h p = absurd h
shorten-append all (d ∷ bs) [] b c h p = absurd h
shorten-append all (d ∷ bs) (e ∷ cs) b c h p = (h.0, shorten-append all bs cs b c h.1 p)

shorten-length : (all bs cs : List Block) → AllShorten all bs cs → length cs ≡ length bs
shorten-length all [] [] h = refl
shorten-length all [] (c ∷ cs) h = absurd h
shorten-length all (b ∷ bs) [] h = absurd h
shorten-length all (b ∷ bs) (c ∷ cs) h = ap suc (shorten-length all bs cs h.1)

-- the block of a number
abbrev ShortenAt : List Block → Option Block → Option Block → Type 0
ShortenAt all None None = Unit {0}
ShortenAt all None (Some c) = ⊥
ShortenAt all (Some b) None = ⊥
ShortenAt all (Some b) (Some c) = Shortens all b c

shorten-at : (all bs cs : List Block) (n : ℕ) → AllShorten all bs cs → ShortenAt all (slice_get bs n) (slice_get cs n)
shorten-at all [] [] n h = tt
shorten-at all [] (c ∷ cs) n h = absurd h
shorten-at all (b ∷ bs) [] n h = absurd h
shorten-at all (b ∷ bs) (c ∷ cs) zero h = h.0
shorten-at all (b ∷ bs) (c ∷ cs) (suc n) h = shorten-at all bs cs n h.1

pub shorten-stack : (all : List Block) (b c : Option Block) → ShortenAt all b c → stack_in c ≡ stack_in b
shorten-stack all None None h = refl
shorten-stack all None (Some c) h = absurd h
shorten-stack all (Some b) None h = absurd h
shorten-stack all (Some b) (Some c) h = h.stack

pub shorten-depth : (all : List Block) (b c : Option Block) → ShortenAt all b c → depth_in c ≡ depth_in b
shorten-depth all None None h = refl
shorten-depth all None (Some c) h = absurd h
shorten-depth all (Some b) None h = absurd h
shorten-depth all (Some b) (Some c) h = h.depth

pub shorten-slots : (all bs cs : List Block) → AllShorten all bs cs → blocks_slots cs ≤ blocks_slots bs
shorten-slots all [] [] h = omega arith
shorten-slots all [] (c ∷ cs) h = absurd h
shorten-slots all (b ∷ bs) [] h = absurd h
shorten-slots all (b ∷ bs) (c ∷ cs) h = omega (arith, h.0.slots, shorten-slots all bs cs h.1)

shorten-reads : (all bs cs : List Block) → AllShorten all bs cs → payload_need cs ≤ payload_need bs
shorten-reads all [] [] h = omega arith
shorten-reads all [] (c ∷ cs) h = absurd h
shorten-reads all (b ∷ bs) [] h = absurd h
shorten-reads all (b ∷ bs) (c ∷ cs) h = grind (arith, h.0.reads, shorten-reads all bs cs h.1)

-- what holds of each block of a list
lead-each : (bs : List Block) (n : ℕ) (xs : List Block) (k : ℕ) (b : Block) → lead_from bs n xs ≡ true → slice_get xs k ≡ Some b → leads bs (n + k) b.depth b.exit ≡ true
lead-each bs n [] k b h e = absurd (cc)
lead-each bs n (x ∷ xs) zero b h e =
    let is : x ≡ b = cc in
    let z : n ≡ n + 0 = omega arith in
    let p = and_parts (leads bs n x.depth x.exit) (lead_from bs (n + 1) xs) h in
    subst (λ (m : ℕ). leads bs m b.depth b.exit ≡ true) z (subst (λ (y : Block). leads bs n y.depth y.exit ≡ true) is p.0)
lead-each bs n (x ∷ xs) (suc k) b h e =
    let z : n + 1 + k ≡ n + suc k = omega arith in
    let p = and_parts (leads bs n x.depth x.exit) (lead_from bs (n + 1) xs) h in
    subst (λ (m : ℕ). leads bs m b.depth b.exit ≡ true) z (lead-each bs (n + 1) xs k b p.1 e)

pub all-lead : (bs : List Block) → lead_forward bs ≡ true → AllLead bs
all-lead bs h n b e =
    let p = and_parts (nat_le 1 (length bs) && depth_at bs (length bs - 1) == 0) (lead_from bs 0 bs) h in
    let z : 0 + n ≡ n = omega arith in
    subst (λ (m : ℕ). leads bs m b.depth b.exit ≡ true) z (lead-each bs 0 bs n b p.1 e)

stand-each : (g : Ground) (bs xs : List Block) (k : ℕ) (b : Block) → each_stands g bs xs ≡ true → slice_get xs k ≡ Some b → block_stands g bs b ≡ true
stand-each g bs [] k b h e = absurd (cc)
stand-each g bs (x ∷ xs) zero b h e = let is : x ≡ b = cc in subst (λ (y : Block). block_stands g bs y ≡ true) is (and_parts (block_stands g bs x) (each_stands g bs xs) h).0
stand-each g bs (x ∷ xs) (suc k) b h e = stand-each g bs xs k b (and_parts (block_stands g bs x) (each_stands g bs xs) h).1 e

-- ---- runs

module _ (bs cs : List Block) (all : AllShorten bs bs cs) (led : lead_forward bs ≡ true) (scene : Scene) where
  lead : AllLead bs
  lead = all-lead bs led

  through : GoesThrough bs (whole bs scene lead)
  through to s exit at =
      let m = bare-is bs to exit at in
      whole-is bs scene lead to s ∙ ap (λ (o : Option Block). block_run (whole bs scene lead) o scene s) m.at
      ∙ ap (λ (xs : List Instr). code_run (whole bs scene lead) xs m.block.exit scene s) m.none ∙ ap (λ (x : Exit). exit_run (whole bs scene lead) x s) m.is

  short-runs : (n b : ℕ) (s : State) → rank bs b s < n → run_from cs n scene b s ≡ whole bs scene lead b s
  short-runs zero b s lt = absurd (omega (arith, lt))
  short-runs (suc n) b s lt = at (slice_get bs b) (slice_get cs b) refl refl (shorten-at bs bs cs b all) (λ to t le. short-runs n to t (omega (arith, le, lt)))
    where
      at : (x y : Option Block) → slice_get bs b ≡ x → slice_get cs b ≡ y → ShortenAt bs x y → ((to : ℕ) (t : State) → rank bs to t < rank bs b s → run_from cs n scene to t ≡ whole bs scene lead to t)
          → run_from cs (suc n) scene b s ≡ whole bs scene lead b s
      at None None ex ey h agree =
          ap (λ (o : Option Block). block_run (run_from cs n scene) o scene s) ey ∙ ap (λ (o : Option Block). block_run (whole bs scene lead) o scene s) (sym ex) ∙ sym (whole-is bs scene lead b s)
      at None (Some y) ex ey h agree = absurd h
      at (Some x) None ex ey h agree = absurd h
      at (Some x) (Some y) ex ey h agree =
          let l : leads bs b x.depth y.exit ≡ true = ap (λ (d : ℕ). leads bs b d y.exit) (sym h.depth) ∙ h.leads lead b (lead b x ex) in
          ap (λ (o : Option Block). block_run (run_from cs n scene) o scene s) ey
          ∙ block-agrees bs scene lead b x y.exit y.instrs s (run_from cs n scene) (whole bs scene lead) ex l agree
          ∙ h.runs (whole bs scene lead) through scene s
          ∙ ap (λ (o : Option Block). block_run (whole bs scene lead) o scene s) (sym ex) ∙ sym (whole-is bs scene lead b s)

  pub shorten-run : (s : State) → blocks_run cs scene s ≡ blocks_run bs scene s
  shorten-run s =
      let p = and_parts (nat_le 1 (length bs) && depth_at bs (length bs - 1) == 0) (lead_from bs 0 bs) led in
      let q = and_parts (nat_le 1 (length bs)) (depth_at bs (length bs - 1) == 0) p.0 in
      let some : 1 ≤ length bs = leb-true 1 (length bs) q.0 in
      let none : depth_at bs (length bs - 1) ≡ 0 = eqb-true (depth_at bs (length bs - 1)) 0 q.1 in
      let first = ap (λ (d : ℕ). (s.turns + d) * length bs + (length bs - 1)) none in
      let enough : rank bs (length bs - 1) s < (s.turns + 1) * length bs = omega (arith, first, some) in
      ap (λ (n : ℕ). run_from cs ((s.turns + 1) * n) scene (n - 1) s) (shorten-length bs bs cs all)
      ∙ short-runs ((s.turns + 1) * length bs) (length bs - 1) s enough ∙ sym (run-whole bs scene lead ((s.turns + 1) * length bs) (length bs - 1) s enough)

-- ---- what a probe tells of its blocks

module _ (bs cs : List Block) (all : AllShorten bs bs cs) where
  stack-at : (n : ℕ) → stack_in (slice_get cs n) ≡ stack_in (slice_get bs n)
  stack-at n = shorten-stack bs (slice_get bs n) (slice_get cs n) (shorten-at bs bs cs n all)

  depth-same : (n : ℕ) → depth_at cs n ≡ depth_at bs n
  depth-same n = shorten-depth bs (slice_get bs n) (slice_get cs n) (shorten-at bs bs cs n all)

  lead-on : AllLead bs → (n : ℕ) (xs ys : List Block) → AllShorten bs xs ys → lead_from bs n xs ≡ true → lead_from cs n ys ≡ true
  lead-on each n [] [] h l = refl
  lead-on each n [] (y ∷ ys) h l = absurd h
  lead-on each n (x ∷ xs) [] h l = absurd h
  lead-on each n (x ∷ xs) (y ∷ ys) h l =
      let p = and_parts (leads bs n x.depth x.exit) (lead_from bs (n + 1) xs) l in
      both (leads cs n y.depth y.exit) (lead_from cs (n + 1) ys) (leads-same bs cs (shorten-length bs bs cs all) stack-at depth-same n y.depth y.exit ∙ h.0.leads each n p.0) (lead-on each (n + 1) xs ys h.1 p.1)

  stand-on : (g : Ground) → AllMayStand g bs → (xs ys : List Block) → AllShorten bs xs ys → each_stands g bs xs ≡ true → each_stands g cs ys ≡ true
  stand-on g each [] [] h l = refl
  stand-on g each [] (y ∷ ys) h l = absurd h
  stand-on g each (x ∷ xs) [] h l = absurd h
  stand-on g each (x ∷ xs) (y ∷ ys) h l =
      let p = and_parts (block_stands g bs x) (each_stands g bs xs) l in
      both (block_stands g cs y) (each_stands g cs ys) (block-same bs cs (shorten-length bs bs cs all) stack-at depth-same g y ∙ h.0.stands g each p.0) (stand-on g each xs ys h.1 p.1)

  pub short-led : lead_forward bs ≡ true → lead_forward cs ≡ true
  short-led h =
      let p = and_parts (nat_le 1 (length bs) && depth_at bs (length bs - 1) == 0) (lead_from bs 0 bs) h in
      lead-whole bs cs (shorten-length bs bs cs all) stack-at depth-same h (lead-on (all-lead bs h) 0 bs cs all p.1)

  pub short-typed : (g : Ground) → are_typed g bs ≡ true → are_typed g cs ≡ true
  short-typed g h =
      let p = and_parts (same_shapes (stack_in (slice_get bs (length bs - 1))) []) (each_stands g bs bs) h in
      typed-whole bs cs (shorten-length bs bs cs all) stack-at depth-same g h (stand-on g (λ n b e. stand-each g bs bs n b p.1 e) bs cs all p.1)

pub short-vary : (bs : List Block) (b : Block) → BlocksVary (bs ++ b ∷ []) → BlocksVary bs × BlockVaries b
short-vary [] b h = (tt, h.0)
short-vary (c ∷ bs) b h = let r = short-vary bs b h.1 in ((h.0, r.0), r.1)

-- a probe with such blocks
pub short-folds : (old new : IrProbe) → AllShorten old.blocks.list old.blocks.list new.blocks.list → new.variables ≡ old.variables
    → new.maps ≡ old.maps → new.formats ≡ old.formats → new.frame_need ≡ old.frame_need → new.code_need ≡ old.code_need → BlocksVary new.blocks.list
    → IsFoldOf old new
unfolding ir_run
short-folds old new all v m f n k varies = record {
  runs = λ context payload actor actors.
      (let scene : List MapDecl → Scene = λ (maps : List MapDecl).
      record { context = context; payload = payload; actor = actor; actors = actors; maps = maps } in
      ap (λ (maps : List MapDecl). blocks_run new.blocks.list (scene maps) (fresh new.variables)) m
      ∙ ap (λ (shapes : List Shape). blocks_run new.blocks.list (scene old.maps) (fresh shapes)) v
      ∙ shorten-run old.blocks.list new.blocks.list all old.blocks.led (scene old.maps) (fresh old.variables));
  variables = v;
  maps = m;
  formats = f;
  frame_need = n;
  code_need = k;
  reads = shorten-reads old.blocks.list old.blocks.list new.blocks.list all;
  varies = varies;
}

-- one fold of another
pub folds-then : (a b c : IrProbe) → IsFoldOf a b → IsFoldOf b c → IsFoldOf a c
folds-then a b c p q = record {
  runs = λ context payload actor actors. q.runs context payload actor actors ∙ p.runs context payload actor actors;
  variables = q.variables ∙ p.variables;
  maps = q.maps ∙ p.maps;
  formats = q.formats ∙ p.formats;
  frame_need = q.frame_need ∙ p.frame_need;
  code_need = q.code_need ∙ p.code_need;
  reads = omega (arith, p.reads, q.reads);
  varies = q.varies;
}

-- ---- what a block's last instruction puts

pub truth-last : (xs : List Instr) → ends_in_truth xs ≡ true → xs ≡ take (length xs - 1) xs ++ i.Truth ∷ []
truth-last xs e = by (nat_eq (length xs) 0) refl e
  where
    is : (o : Option Instr) → is_truth o ≡ true → o ≡ Some i.Truth
    is None t = absurd (cc)
    is (Some i.Truth) t = refl
    is (Some (i.Put v)) t = absurd (cc)
    is (Some (i.Builtin b)) t = absurd (cc)
    is (Some i.Comm) t = absurd (cc)
    is (Some (i.NumberField f)) t = absurd (cc)
    is (Some (i.TextField f)) t = absurd (cc)
    is (Some (i.Load x shape)) t = absurd (cc)
    is (Some (i.Store x shape)) t = absurd (cc)
    is (Some (i.StepVar x plus prefix)) t = absurd (cc)
    is (Some (i.UpdateVar x op)) t = absurd (cc)
    is (Some (i.Unary op)) t = absurd (cc)
    is (Some (i.Binary op)) t = absurd (cc)
    is (Some (i.Compare equal)) t = absurd (cc)
    is (Some (i.Get m key shape)) t = absurd (cc)
    is (Some (i.ReadAgg m key)) t = absurd (cc)
    is (Some (i.Set m key shape)) t = absurd (cc)
    is (Some (i.Delete m key)) t = absurd (cc)
    is (Some (i.Update m key op)) t = absurd (cc)
    is (Some (i.StepMap m key plus prefix)) t = absurd (cc)
    is (Some (i.Add m key)) t = absurd (cc)
    is (Some (i.Count m key)) t = absurd (cc)
    is (Some (i.Printf format shapes)) t = absurd (cc)
    is (Some (i.Print m most div)) t = absurd (cc)
    is (Some (i.Clear m)) t = absurd (cc)
    is (Some (i.Zero m)) t = absurd (cc)
    is (Some (i.Cut line)) t = absurd (cc)
    is (Some i.Stop) t = absurd (cc)
    is (Some i.Pop) t = absurd (cc)

    by : (c : Bool) → nat_eq (length xs) 0 ≡ c → cond c false (is_truth (slice_get xs (length xs - 1))) ≡ true → xs ≡ take (length xs - 1) xs ++ i.Truth ∷ []
    by true n t = absurd (cc)
    by false n t = last-at xs i.Truth (is (slice_get xs (length xs - 1)) t)

exit-one : (e : Exit) → 1 ≤ exit_slots e
exit-one (Goto b) = omega arith
exit-one (Branch first second) = omega arith
exit-one (Count block leave) = omega arith
exit-one (Gate block cut) = omega arith
exit-one (Again head) = omega arith
exit-one (End ending) = omega arith

-- a literal
pub tests-literal : (b : Block) (first second : ℕ) (value : Value) (xs : List Instr) (to : ℕ) → literal_before 1 b.instrs ≡ Some value → xs ≡ take (length b.instrs - 1) b.instrs → to ≡ cond (holds (number_of value)) first second
    → Tests first second b (record { stack = b.stack; instrs = xs; exit = Goto to; depth = b.depth })
tests-literal b first second value xs to l x t =
    let whole : b.instrs ≡ xs ++ i.Put value ∷ [] = last-is b.instrs value (here 1 b.instrs value l) ∙ ap (λ (ys : List Instr). ys ++ i.Put value ∷ []) (sym x) in
    (settles [] (record b { exit = Branch first second }) first second value xs to refl l x t, omega (arith, ap instrs_slots whole, slots-append xs (i.Put value ∷ []), exit-one b.exit))

-- a truth
pub tests-truth : (b c : Block) (first second : ℕ) (xs : List Instr) → ends_in_truth b.instrs ≡ true → xs ≡ take (length b.instrs - 1) b.instrs → BettersBlock [] (record { stack = b.stack; instrs = xs; exit = Branch first second; depth = b.depth }) c → Tests first second b c
tests-truth b c first second xs e x p =
    let whole : b.instrs ≡ xs ++ i.Truth ∷ [] = truth-last b.instrs e ∙ ap (λ (ys : List Instr). ys ++ i.Truth ∷ []) (sym x) in
    let mid : Block = record { stack = b.stack; instrs = xs; exit = Branch first second; depth = b.depth } in (
      subst (λ (ys : List Instr). BettersBlock [] (record { stack = b.stack; instrs = ys; exit = Branch first second; depth = b.depth }) c) (sym whole) (block-then [] (record { stack = b.stack; instrs = xs ++ i.Truth ∷ []; exit = Branch first second; depth = b.depth }) mid c (truth-drops [] xs b.stack first second b.depth) p),
      omega (arith, ap instrs_slots whole, slots-append xs (i.Truth ∷ []), exit-one b.exit, p.slots),
    )
