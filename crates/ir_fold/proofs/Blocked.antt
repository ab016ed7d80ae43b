-- Blocks that do the same as others.
use Rattle.std.proofs.Common.{◌≡◌, ℕ, zero, suc, ◌+◌, ◌-◌, ◌*◌, ◌≤◌, List, [], ◌∷◌, ◌++◌, length, take, map, Bool, true, false, Option, Some, None, refl}
use Rattle.std.proofs.Common.{sym, ap, ◌∙◌, subst, arith, append-nil}
use Rattle.std.specs.Prelude.{◌&&◌, ◌==◌, nat_le, nat_eq, cond, slice_get}
use Rattle.std.specs.Option.{option_map}
use Rattle.std.proofs.lemmas.Option.{slice_get-map}
use Rattle.std.proofs.lemmas.Bool.{and_parts, eqb-true}
use Rattle.bt_core.specs.declared.ending.Ending.{Ending}
use Rattle.bt_core.specs.declared.ending.Ending.TheVariants as endings
use Rattle.bt_core.specs.declared.ending.Ending.TheVariants.{End as Finished}
use Rattle.bt_core.specs.declared.map.Shape.{Shape}
use Rattle.bt_core.specs.declared.map.Shape.TheVariants as shapes
use Rattle.bt_core.specs.declared.value.Value.{Value}
use Rattle.bt_core.specs.Interaction.{Interaction, Ended, and_then}
use Rattle.bt_core.proofs.InteractionLaws.{and_then_assoc}
use Rattle.typed_tree.specs.Scope.{same_shapes}
use Rattle.ir_code.specs.declared.blocks.Block.{Block}
use Rattle.ir_code.specs.declared.blocks.Exit.{Exit}
use Rattle.ir_code.specs.declared.blocks.Exit.TheVariants.{Goto, Branch, Count, Gate, Again, End}
use Rattle.ir_code.specs.declared.instr.Instr.{Instr}
use Rattle.ir_code.specs.declared.instr.Instr.TheVariants as i
use Rattle.ir_code.specs.declared.probe.IrProbe.{IrProbe}
use Rattle.ir_code.specs.declared.state.State.{State}
use Rattle.bt_core.specs.declared.map.MapDecl.{MapDecl}
use Rattle.ir_code.specs.declared.state.Way.{Way}
use Rattle.ir_code.specs.declared.state.Way.TheVariants.{To, Ends}
use Rattle.ir_code.specs.Figures.{blocks_slots}
use Rattle.ir_code.specs.Meaning.{Scene, instrs_run, put, popped, exit_run, goes_on, code_run, block_run, run_from, blocks_run, fresh, ir_run, way_of}
use Rattle.ir_code.specs.Meaning.{after_exit}
use Rattle.ir_code.specs.Serving.{ends_read, payload_need}
use Rattle.ir_code.specs.Typing.{Ground, front_of, end_with, all_stand, all_turned, stack_in, goes_with, exit_stands, block_stands, each_stands, are_typed}
use Rattle.map_ops.specs.Values.{number_of, holds}
use Rattle.ir_code.specs.Ways.{depth_in, depth_at, lies_below, leads, lead_from, lead_forward}
use Rattle.ir_fold.specs.Folded.{Betters, BettersBlock, AllBetter, BlockVaries, BlocksVary, IsFoldOf, literal_before, finishes, block_ends, is_flag}
use Rattle.ir_fold.specs.Folded.{flag_at, Finish, threaded_exit}
use Rattle.ir_fold.proofs.Adding.{here, last-is}
use Rattle.ir_fold.proofs.Alike.{leads-same, block-same, lead-whole, typed-whole}
use Rattle.ir_fold.proofs.Better.{and_then-same, runs-append, slots-append, top-append, popped-is, front-stands, front-turns, both}

abbrev pub with_instrs : Block → List Instr → Block
with_instrs b xs = record b { instrs = xs }

pub block-self : (flags : List Bool) (b : Block) → BettersBlock flags b b
block-self flags b = record {
  stack = refl;
  depth = refl;
  runs = λ go fin scene s. refl;
  leads = λ bs n h. h;
  stands = λ g bs h. h;
  slots = omega arith;
  reads = omega arith;
}

pub block-then : (flags : List Bool) (a b c : Block) → BettersBlock flags a b → BettersBlock flags b c → BettersBlock flags a c
block-then flags a b c p q = record {
  stack = q.stack ∙ p.stack;
  depth = q.depth ∙ p.depth;
  runs = λ go fin scene s. q.runs go fin scene s ∙ p.runs go fin scene s;
  leads = λ bs n h. q.leads bs n (p.leads bs n h);
  stands = λ g bs h. q.stands g bs (p.stands g bs h);
  slots = omega (arith, p.slots, q.slots);
  reads = omega (arith, p.reads, q.reads);
}

-- better instructions before the same exit
pub block-instrs : (flags : List Bool) (b : Block) (xs : List Instr) → Betters b.instrs xs → BettersBlock flags b (with_instrs b xs)
block-instrs flags b xs p = record {
  stack = refl;
  depth = refl;
  runs = λ go fin scene s. ap (λ (t : Interaction State). and_then t (exit_run go b.exit)) (p.runs scene s);
  leads = λ bs n h. h;
  stands = λ g bs h.
      (let q = and_parts (all_stand g b.instrs b.stack) (exit_stands bs b.exit (all_turned b.instrs b.stack)) h in
      both (all_stand g xs b.stack) (exit_stands bs b.exit (all_turned xs b.stack))
      (ap (λ (l : List Instr). all_stand g l b.stack) (sym (append-nil xs))
      ∙ p.stands g b.stack [] (ap (λ (l : List Instr). all_stand g l b.stack) (append-nil b.instrs) ∙ q.0))
      (ap (λ (l : List Shape). exit_stands bs b.exit l) (p.turns b.stack) ∙ q.1));
  slots = omega (arith, p.slots);
  reads = p.reads;
}

chosen-way : (c : Bool) (first second : ℕ) → To (cond c first second) ≡ cond c (To first) (To second)
chosen-way true first second = refl
chosen-way false first second = refl

chosen-holds : (P : ℕ → Bool) (c : Bool) (first second : ℕ) → P first ≡ true → P second ≡ true → P (cond c first second) ≡ true
chosen-holds P true first second p q = p
chosen-holds P false first second p q = q

-- a branch on a literal
pub block-branch : (flags : List Bool) (xs : List Instr) (a : Value) (stack : List Shape) (first second depth : ℕ)
    → BettersBlock flags (record { stack = stack; instrs = xs ++ i.Put a ∷ []; exit = Branch first second; depth = depth })
    (record { stack = stack; instrs = xs; exit = Goto (cond (holds (number_of a)) first second); depth = depth })
block-branch flags xs a stack first second depth =
    let c = holds (number_of a) in
    record {
      stack = refl;
      depth = refl;
      runs = λ go fin scene s.
          (and_then-same (instrs_run xs scene s) _ _ (λ s1.
          ap (λ (w : Way). goes_on go w s1) (chosen-way c first second)
          ∙ ap (λ (t : State). goes_on go (cond c (To first) (To second)) t) (sym (popped-is a s1))
          ∙ ap (λ (v : Value). goes_on go (cond (holds (number_of v)) (To first) (To second)) (popped (put a s1))) (sym (top-append s1.stack a)))
          ∙ sym (and_then_assoc (instrs_run xs scene s) (instrs_run (i.Put a ∷ []) scene) (exit_run go (Branch first second)))
          ∙ ap (λ (t : Interaction State). and_then t (exit_run go (Branch first second))) (sym (runs-append xs (i.Put a ∷ []) scene s)));
      leads = λ bs n h.
          (let p = and_parts (lies_below bs n depth first) (lies_below bs n depth second) h in
          chosen-holds (λ to. lies_below bs n depth to) c first second p.0 p.1);
      stands = λ g bs h.
          (let st = all_turned (xs ++ i.Put a ∷ []) stack in
          let q = and_parts (all_stand g (xs ++ i.Put a ∷ []) stack) (exit_stands bs (Branch first second) st) h in
          let r = and_parts (end_with (shapes.Int ∷ []) st && goes_with bs (front_of 1 st) first) (goes_with bs (front_of 1 st) second) q.1 in
          let t = and_parts (end_with (shapes.Int ∷ []) st) (goes_with bs (front_of 1 st) first) r.0 in
          both (all_stand g xs stack) (goes_with bs (all_turned xs stack) (cond c first second)) (front-stands g xs a stack q.0)
          (ap (λ (l : List Shape). goes_with bs l (cond c first second)) (sym (front-turns xs a stack))
          ∙ chosen-holds (λ to. goes_with bs (front_of 1 st) to) c first second t.1 r.1));
      slots = omega (arith, slots-append xs (i.Put a ∷ []));
      reads = reads xs;
    }
  where
    reads : (ys : List Instr) → ends_read ys ≤ ends_read (ys ++ i.Put a ∷ [])
    reads [] = omega arith
    reads (y ∷ ys) = grind (arith, reads ys)

-- ---- lists of blocks

pub better-append : (flags : List Bool) (bs cs : List Block) (b c : Block) → AllBetter flags bs cs → BettersBlock flags b c
    → AllBetter flags (bs ++ b ∷ []) (cs ++ c ∷ [])
better-append flags [] [] b c h p = (p, tt)
better-append flags [] (d ∷ cs) b c h p = absurd h
better-append flags (d ∷ bs) [] b c h p = absurd h
better-append flags (d ∷ bs) (e ∷ cs) b c h p = (h.0, better-append flags bs cs b c h.1 p)

pub better-length : (flags : List Bool) (bs cs : List Block) → AllBetter flags bs cs → length cs ≡ length bs
better-length flags [] [] h = refl
better-length flags [] (c ∷ cs) h = absurd h
better-length flags (b ∷ bs) [] h = absurd h
better-length flags (b ∷ bs) (c ∷ cs) h = ap suc (better-length flags bs cs h.1)

-- the block of a number
abbrev pub BetterAt : List Bool → Option Block → Option Block → Type 0
BetterAt flags None None = Unit {0}
BetterAt flags None (Some c) = ⊥
BetterAt flags (Some b) None = ⊥
BetterAt flags (Some b) (Some c) = BettersBlock flags b c

pub better-at : (flags : List Bool) (bs cs : List Block) (n : ℕ) → AllBetter flags bs cs → BetterAt flags (slice_get bs n) (slice_get cs n)
better-at flags [] [] n h = tt
better-at flags [] (c ∷ cs) n h = absurd h
better-at flags (b ∷ bs) [] n h = absurd h
better-at flags (b ∷ bs) (c ∷ cs) zero h = h.0
better-at flags (b ∷ bs) (c ∷ cs) (suc n) h = better-at flags bs cs n h.1

go-same : (go gone : ℕ → State → Interaction Ending) → ((n : ℕ) (s1 : State) → gone n s1 ≡ go n s1) → (w : Way) (s1 : State)
    → goes_on gone w s1 ≡ goes_on go w s1
go-same go gone e (To n) s1 = e n s1
go-same go gone e (Ends ending) s1 = refl

at-runs : (flags : List Bool) (b c : Option Block) (go gone : ℕ → State → Interaction Ending) (scene : Scene) (s : State) → BetterAt flags b c
    → Finish flags go → ((n : ℕ) (s1 : State) → gone n s1 ≡ go n s1) → block_run gone c scene s ≡ block_run go b scene s
at-runs flags None None go gone scene s h f e = refl
at-runs flags None (Some c) go gone scene s h f e = absurd h
at-runs flags (Some b) None go gone scene s h f e = absurd h
at-runs flags (Some b) (Some c) go gone scene s h f e =
    and_then-same (instrs_run c.instrs scene s) _ _ (λ s1. go-same go gone e (way_of c.exit s1) (after_exit c.exit s1)) ∙ h.runs go f scene s

pub from-runs : (flags : List Bool) (bs cs : List Block) → AllBetter flags bs cs → ((n : ℕ) (scene : Scene) → Finish flags (run_from bs n scene))
    → (n : ℕ) (scene : Scene) (b : ℕ) (s : State) → run_from cs n scene b s ≡ run_from bs n scene b s
from-runs flags bs cs h f zero scene b s = refl
from-runs flags bs cs h f (suc n) scene b s = at-runs flags (slice_get bs b) (slice_get cs b) (run_from bs n scene) (run_from cs n scene) scene s
    (better-at flags bs cs b h) (f n scene) (λ m s1. from-runs flags bs cs h f n scene m s1)

-- blocks that do nothing but end a run
finish-is : (x : Exit) → finishes x ≡ true → x ≡ End Finished
finish-is (End Finished) e = refl
finish-is (End endings.Return) e = absurd (cc)
finish-is (End endings.Cut) e = absurd (cc)
finish-is (End endings.Exit) e = absurd (cc)
finish-is (Goto b) e = absurd (cc)
finish-is (Branch first second) e = absurd (cc)
finish-is (Count block leave) e = absurd (cc)
finish-is (Gate block cut) e = absurd (cc)
finish-is (Again head) e = absurd (cc)

pub none-is : (xs : List Instr) → nat_eq (length xs) 0 ≡ true → xs ≡ []
none-is [] e = refl
none-is (x ∷ xs) e = let l : length (x ∷ xs) ≡ 0 = eqb-true (length (x ∷ xs)) 0 e in absurd (omega (arith, l))

ends-at : (o : Option Block) (go : ℕ → State → Interaction Ending) (scene : Scene) (s : State) → is_flag (option_map block_ends o) ≡ true
    → block_run go o scene s ≡ Ended Finished
ends-at None go scene s e = absurd (cc)
ends-at (Some b) go scene s e =
    let p = and_parts (nat_eq (length b.instrs) 0) (finishes b.exit) e in
    ap (λ (xs : List Instr). code_run go xs b.exit scene s) (none-is b.instrs p.0) ∙ ap (λ (x : Exit). code_run go [] x scene s) (finish-is b.exit p.1)

pub all-finish : (bs : List Block) (n : ℕ) (scene : Scene) → Finish (map block_ends bs) (run_from bs n scene)
all-finish bs zero scene to s e = refl
all-finish bs (suc n) scene to s e = ends-at (slice_get bs to) (run_from bs n scene) scene s (ap is_flag (sym (slice_get-map block_ends bs to)) ∙ e)

pub blocks-run : (bs cs : List Block) → AllBetter (map block_ends bs) bs cs → (scene : Scene) (s : State) → blocks_run cs scene s ≡ blocks_run bs scene s
blocks-run bs cs h scene s =
    ap (λ (n : ℕ). run_from cs ((s.turns + 1) * n) scene (n - 1) s) (better-length (map block_ends bs) bs cs h)
    ∙ from-runs (map block_ends bs) bs cs h (all-finish bs) ((s.turns + 1) * length bs) scene (length bs - 1) s

-- an exit to such a block
pub block-thread : (flags : List Bool) (number : ℕ) (b : Block) → BettersBlock flags b (record b { exit = threaded_exit flags number b.exit })
block-thread flags number b = by b.exit
  where
    by : (x : Exit) → BettersBlock flags (record b { exit = x }) (record b { exit = threaded_exit flags number x })
    by (Goto to) = behind (nat_eq (suc to) number)
      where
        chosen : (to : ℕ) (c : Bool) → flag_at flags to ≡ c → BettersBlock flags (record b { exit = Goto to })
            (record b { exit = cond c (End Finished) (Goto to) })
        chosen to true e = record {
          stack = refl;
          depth = refl;
          runs = λ go fin scene s. and_then-same (instrs_run b.instrs scene s) _ _ (λ s1. sym (fin to s1 e));
          leads = λ bs n h. refl;
          stands = λ g bs h. (let p = and_parts (all_stand g b.instrs b.stack) (goes_with bs (all_turned b.instrs b.stack) to) h in both
              (all_stand g b.instrs b.stack) true p.0 refl);
          slots = omega arith;
          reads = omega arith;
        }
        chosen to false e = block-self flags (record b { exit = Goto to })

        behind : (c : Bool) → BettersBlock flags (record b { exit = Goto to }) (record b { exit = cond c (Goto to) (cond (flag_at flags to) (End Finished) (Goto to)) })
        behind true = block-self flags (record b { exit = Goto to })
        behind false = chosen to (flag_at flags to) refl
    by (Branch first second) = block-self flags (record b { exit = Branch first second })
    by (Count block leave) = block-self flags (record b { exit = Count block leave })
    by (Gate block cut) = block-self flags (record b { exit = Gate block cut })
    by (Again head) = block-self flags (record b { exit = Again head })
    by (End ending) = block-self flags (record b { exit = End ending })

-- the tests
at-stack : (flags : List Bool) (b c : Option Block) → BetterAt flags b c → stack_in c ≡ stack_in b
at-stack flags None None h = refl
at-stack flags None (Some c) h = absurd h
at-stack flags (Some b) None h = absurd h
at-stack flags (Some b) (Some c) h = h.stack

at-depth : (flags : List Bool) (b c : Option Block) → BetterAt flags b c → depth_in c ≡ depth_in b
at-depth flags None None h = refl
at-depth flags None (Some c) h = absurd h
at-depth flags (Some b) None h = absurd h
at-depth flags (Some b) (Some c) h = h.depth

module _ (flags : List Bool) (bs cs : List Block) (all : AllBetter flags bs cs) where
  stack-at : (n : ℕ) → stack_in (slice_get cs n) ≡ stack_in (slice_get bs n)
  stack-at n = at-stack flags (slice_get bs n) (slice_get cs n) (better-at flags bs cs n all)

  depth-same : (n : ℕ) → depth_at cs n ≡ depth_at bs n
  depth-same n = at-depth flags (slice_get bs n) (slice_get cs n) (better-at flags bs cs n all)

  -- of the blocks from a number on
  lead-on : (n : ℕ) (xs ys : List Block) → AllBetter flags xs ys → lead_from bs n xs ≡ true → lead_from cs n ys ≡ true
  lead-on n [] [] h l = refl
  lead-on n [] (y ∷ ys) h l = absurd h
  lead-on n (x ∷ xs) [] h l = absurd h
  lead-on n (x ∷ xs) (y ∷ ys) h l =
      let p = and_parts (leads bs n x.depth x.exit) (lead_from bs (n + 1) xs) l in
      both (leads cs n y.depth y.exit) (lead_from cs (n + 1) ys) (leads-same bs cs (better-length flags bs cs all) stack-at depth-same n y.depth y.exit ∙ h.0.leads bs n p.0) (lead-on (n + 1) xs ys h.1 p.1)

  stand-on : (g : Ground) (xs ys : List Block) → AllBetter flags xs ys → each_stands g bs xs ≡ true → each_stands g cs ys ≡ true
  stand-on g [] [] h l = refl
  stand-on g [] (y ∷ ys) h l = absurd h
  stand-on g (x ∷ xs) [] h l = absurd h
  stand-on g (x ∷ xs) (y ∷ ys) h l =
      let p = and_parts (block_stands g bs x) (each_stands g bs xs) l in
      both (block_stands g cs y) (each_stands g cs ys) (block-same bs cs (better-length flags bs cs all) stack-at depth-same g y ∙ h.0.stands g bs p.0) (stand-on g xs ys h.1 p.1)

  pub lead-too : lead_forward bs ≡ true → lead_forward cs ≡ true
  lead-too h =
      let p = and_parts (nat_le 1 (length bs) && depth_at bs (length bs - 1) == 0) (lead_from bs 0 bs) h in
      lead-whole bs cs (better-length flags bs cs all) stack-at depth-same h (lead-on 0 bs cs all p.1)

  pub typed-too : (g : Ground) → are_typed g bs ≡ true → are_typed g cs ≡ true
  typed-too g h =
      let p = and_parts (same_shapes (stack_in (slice_get bs (length bs - 1))) []) (each_stands g bs bs) h in
      typed-whole bs cs (better-length flags bs cs all) stack-at depth-same g h (stand-on g bs cs all p.1)

pub better-slots : (flags : List Bool) (bs cs : List Block) → AllBetter flags bs cs → blocks_slots cs ≤ blocks_slots bs
better-slots flags [] [] h = omega arith
better-slots flags [] (c ∷ cs) h = absurd h
better-slots flags (b ∷ bs) [] h = absurd h
better-slots flags (b ∷ bs) (c ∷ cs) h = omega (arith, h.0.slots, better-slots flags bs cs h.1)

pub better-reads : (flags : List Bool) (bs cs : List Block) → AllBetter flags bs cs → payload_need cs ≤ payload_need bs
better-reads flags [] [] h = omega arith
better-reads flags [] (c ∷ cs) h = absurd h
better-reads flags (b ∷ bs) [] h = absurd h
better-reads flags (b ∷ bs) (c ∷ cs) h = grind (arith, h.0.reads, better-reads flags bs cs h.1)

-- a block whose branch tests a literal
pub settles : (flags : List Bool) (b : Block) (first second : ℕ) (value : Value) (xs : List Instr) (to : ℕ) → b.exit ≡ Branch first second
    → literal_before 1 b.instrs ≡ Some value → xs ≡ take (length b.instrs - 1) b.instrs → to ≡ cond (holds (number_of value)) first second
    → BettersBlock flags b (record { stack = b.stack; instrs = xs; exit = Goto to; depth = b.depth })
settles flags b first second value xs to e l x t =
    let whole : b.instrs ≡ xs ++ i.Put value ∷ [] = last-is b.instrs value (here 1 b.instrs value l)
    ∙ ap (λ (ys : List Instr). ys ++ i.Put value ∷ []) (sym x) in
    let old : record { stack = b.stack; instrs = xs ++ i.Put value ∷ []; exit = Branch first second; depth = b.depth } ≡ b =
    ap (λ (ys : List Instr). record { stack = b.stack; instrs = ys; exit = Branch first second; depth = b.depth }) (sym whole)
    ∙ ap (λ (y : Exit). record { stack = b.stack; instrs = b.instrs; exit = y; depth = b.depth }) (sym e) in
    subst (λ (n : ℕ). BettersBlock flags b (record { stack = b.stack; instrs = xs; exit = Goto n; depth = b.depth })) (sym t)
    (subst (λ (c : Block). BettersBlock flags c (record {
      stack = b.stack;
      instrs = xs;
      exit = Goto (cond (holds
          (number_of value)) first second);
      depth = b.depth;
    })) old (block-branch flags xs value b.stack first second b.depth))

pub vary-append : (bs : List Block) (b : Block) → BlocksVary bs → BlockVaries b → BlocksVary (bs ++ b ∷ [])
vary-append [] b h p = (p, tt)
vary-append (c ∷ bs) b h p = (h.0, vary-append bs b h.1 p)

-- a probe with folded blocks
pub folds : (old new : IrProbe) → AllBetter (map block_ends old.blocks.list) old.blocks.list new.blocks.list → new.variables ≡ old.variables
    → new.maps ≡ old.maps → new.formats ≡ old.formats → new.frame_need ≡ old.frame_need → new.code_need ≡ old.code_need → BlocksVary new.blocks.list
    → IsFoldOf old new
unfolding ir_run
folds old new all v m f n k varies = record {
  runs = λ context payload actor actors.
      (let scene : List MapDecl → Scene = λ (maps : List MapDecl).
      record { context = context; payload = payload; actor = actor; actors = actors; maps = maps } in
      ap (λ (maps : List MapDecl). blocks_run new.blocks.list (scene maps) (fresh new.variables)) m
      ∙ ap (λ (shapes : List Shape). blocks_run new.blocks.list (scene old.maps) (fresh shapes)) v
      ∙ blocks-run old.blocks.list new.blocks.list all (scene old.maps) (fresh old.variables));
  variables = v;
  maps = m;
  formats = f;
  frame_need = n;
  code_need = k;
  reads = better-reads (map block_ends old.blocks.list) old.blocks.list new.blocks.list all;
  varies = varies;
}
