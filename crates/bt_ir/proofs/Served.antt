-- A typed body's run needs only what it is given.
use Rattle.std.proofs.Common.{◌≡◌, ℕ, zero, suc, ◌+◌, ◌-◌, ◌*◌, ◌<◌, ◌≤◌, List, [], ◌∷◌, length, Bool, true, false, Option, Some, None, refl, sym, ap, subst, arith, inl, inr}
use Rattle.std.specs.Prelude.{ℤ, pos, negsuc, ◌⊎◌, ◌&&◌, max, slice_get, get_or, cond}
use Rattle.std.proofs.Math.Nat.{le-max_left, le-max_right}
use Rattle.std.proofs.lemmas.Bool.{and_parts, leb-true}
use Rattle.bt_core.specs.declared.context.Context.{Context}
use Rattle.bt_core.specs.declared.map.MapDecl.{MapDecl}
use Rattle.bt_core.specs.declared.map.MapId.{MapId}
use Rattle.bt_core.specs.declared.map.Shape.{Shape}
use Rattle.bt_core.specs.declared.map.Shape.TheVariants as shapes
use Rattle.bt_core.specs.declared.limits.TheConstants.{KEY_PARTS}
use Rattle.bt_core.specs.Kinds.{HasShape, IsAggregation}
use Rattle.bt_core.specs.Ports.{Setting}
use Rattle.event_layout.specs.declared.field.FieldKind.{FieldKind}
use Rattle.event_layout.specs.declared.field.FieldKind.TheVariants.{Number, Chars, DataLoc, Other}
use Rattle.typed_tree.specs.Scope.{same_shapes, is_shape, shape_of_field, is_declared, is_shared, is_summed, is_summed_kind, is_there, kind_of_shape, may_print}
use Rattle.ir_code.specs.declared.blocks.Block.{Block}
use Rattle.ir_code.specs.declared.blocks.Exit.{Exit}
use Rattle.ir_code.specs.declared.blocks.Exit.TheVariants.{Goto, Branch, Count, Gate, Again, End}
use Rattle.ir_code.specs.declared.instr.Instr.{Instr}
use Rattle.ir_code.specs.declared.instr.Instr.TheVariants as i
use Rattle.ir_code.specs.declared.probe.IrProbe.{IrProbe}
use Rattle.ir_code.specs.declared.state.State.{State}
use Rattle.ir_code.specs.declared.state.Way.TheVariants.{To}
use Rattle.bt_ir.specs.declared.step.View.{View}
use Rattle.map_ops.specs.Holders.{kind_of, kind_in, CanSweep}
use Rattle.ir_code.specs.Figures.{sizes_of, instr_bytes}
use Rattle.ir_code.specs.Meaning.{Scene, instrs_run, after_exit, goes_on, exit_run, block_run, run_from, blocks_run, count_way, turn_way}
use Rattle.bt_ir.specs.Running.{MayAsk, CanRun, IsReady, AreReady, AllReady}
use Rattle.ir_code.specs.Serving.{IsServedAs, ServesInstr, ServesInstrs, ServesBlocks, end_read, ends_read, payload_need}
use Rattle.ir_code.specs.Typing.{Ground, operand_shapes, names, end_with, turned, front_of, may_stand, all_stand, all_turned, stack_in, goes_with, exit_stands, block_stands, each_stands, has_room, is_key_shape, is_gathering}
use Rattle.map_ops.specs.Values.{number_of, holds}
use Rattle.ir_code.specs.Stacks.{top, below}
use Rattle.bt_ir.proofs.Asks.{Can-and_then}
use Rattle.ir_code.proofs.Shaped.{same_shapes-is, ends_is, shaped-pop, shaped-put}
use Rattle.typed_tree.proofs.Summed.{summed_there, summed_kind}
use Rattle.bt_ir.proofs.Typed.{sweep_case, Footing, HasStack, all}

pub here_of : (bs : List Block) (k : ℕ) (b : Block) → k < length bs → b ≡ get_or bs k b → slice_get bs k ≡ Some b
here_of [] k b h e = absurd (omega arith)
here_of (x ∷ xs) zero b h e = ap (λ (y : Block). Some y) (sym e)
here_of (x ∷ xs) (suc k) b h e = here_of xs k b (omega arith) e

-- ---- what instructions need

number_kind : (k : FieldKind) → is_shape (shape_of_field k) shapes.Int ≡ true → k ≡ Number
number_kind Number h = refl
number_kind Chars h = cc
number_kind DataLoc h = cc
number_kind Other h = cc

text_kind : (k : FieldKind) → is_shape (shape_of_field k) shapes.Str ≡ true → (k ≡ Chars) ⊎ (k ≡ DataLoc)
text_kind Number h = cc
text_kind Chars h = inl refl
text_kind DataLoc h = inr refl
text_kind Other h = cc

few : (key : List Shape) (b : Bool) → (is_key_shape key && b) ≡ true → length key ≤ KEY_PARTS
few key b h = leb-true (length key) KEY_PARTS (and_parts (is_key_shape key) b h).0

module _ (g : Ground) (setting : Setting) (v : View) (maps : v.maps.now ≡ g.maps) (actors : setting.actors ≡ v.actors) where
  swept : (m : MapId) → IsServedAs setting.maps g.maps m → is_there (slice_get g.maps m.0) ≡ true → CanSweep setting m (kind_of v.maps.now m) v.actors
  swept m s h = subst (λ (ms : List MapDecl). CanSweep setting m (kind_of ms m) v.actors) (sym maps) (sweep_case setting m (slice_get g.maps m.0) v.actors s h actors)

  summed_kind_in : (o : Option MapDecl) (key : List Shape) → is_summed o key ≡ true → IsAggregation (kind_in o)
  summed_kind_in None key h = cc
  summed_kind_in (Some decl) key h = summed_kind decl.kind (and_parts (is_summed_kind decl.kind) (same_shapes decl.key_shape key) h).0

  ready : (x : Instr) → names g x ≡ true → end_read x ≤ length v.payload.now → ServesInstr setting.maps g.maps x → IsReady setting v x
  ready (i.Put w) n e s = tt
  ready (i.Builtin b) n e s = tt
  ready i.Comm n e s = tt
  ready (i.NumberField f) n e s = (number_kind f.kind n, e)
  ready (i.TextField f) n e s = (text_kind f.kind n, e)
  ready (i.Load x shape) n e s = tt
  ready (i.Store x shape) n e s = tt
  ready (i.StepVar x plus prefix) n e s = tt
  ready (i.UpdateVar x op) n e s = tt
  ready (i.Unary op) n e s = tt
  ready (i.Binary op) n e s = tt
  ready (i.Compare equal) n e s = tt
  ready i.Truth n e s = tt
  ready (i.Get m key shape) n e s = few key (is_declared (slice_get g.maps m.0) (kind_of_shape shape) key) n
  ready (i.ReadAgg m key) n e s =
      let summed = is_summed (slice_get g.maps m.0) key in
      let named = (and_parts (is_key_shape key) summed n).1 in
      (few key summed n, swept m s (summed_there (slice_get g.maps m.0) key named), subst (λ (ms : List MapDecl). IsAggregation (kind_of ms m)) (sym maps) (summed_kind_in (slice_get g.maps m.0) key named))
  ready (i.Set m key shape) n e s = few key (is_declared (slice_get g.maps m.0) (kind_of_shape shape) key) n
  ready (i.Delete m key) n e s = few key (is_shared (slice_get g.maps m.0) key) n
  ready (i.Update m key op) n e s = few key (is_declared (slice_get g.maps m.0) (kind_of_shape shapes.Int) key) n
  ready (i.StepMap m key plus prefix) n e s = few key (is_declared (slice_get g.maps m.0) (kind_of_shape shapes.Int) key) n
  ready (i.Add m key) n e s = few key (is_gathering (slice_get g.maps m.0) key) n
  ready (i.Count m key) n e s = few key (is_gathering (slice_get g.maps m.0) key) n
  ready (i.Printf format key) n e s = tt
  ready (i.Print m top div) n e s = swept m s (and_parts (is_there (slice_get g.maps m.0)) (may_print top div) n).0
  ready (i.Clear m) n e s = swept m s n
  ready (i.Zero m) n e s = swept m s n
  ready (i.Cut line) n e s = tt
  ready i.Stop n e s = tt
  ready i.Pop n e s = tt

  are_ready : (xs : List Instr) (stack : List Shape) → all_stand g xs stack ≡ true → ends_read xs ≤ length v.payload.now → ServesInstrs setting.maps g.maps xs → AreReady setting v xs
  are_ready [] stack n e s = tt
  are_ready (x ∷ xs) stack n e s =
      let p = and_parts (may_stand g x stack) (all_stand g xs (turned x stack)) n in
      let q = and_parts (names g x && end_with (operand_shapes x) stack) (has_room g (sizes_of stack + instr_bytes x)) p.0 in
      let r = and_parts (names g x) (end_with (operand_shapes x) stack) q.0 in
      let a : end_read x ≤ max (end_read x) (ends_read xs) = le-max_left (end_read x) (ends_read xs) in
      let b : ends_read xs ≤ max (end_read x) (ends_read xs) = le-max_right (end_read x) (ends_read xs) in
      (ready x r.0 (omega arith) s.0, are_ready xs (turned x stack) p.1 (omega arith) s.1)

  pub all_ready : (bs xs : List Block) → each_stands g bs xs ≡ true → payload_need xs ≤ length v.payload.now → ServesBlocks setting.maps g.maps xs → AllReady setting v xs
  all_ready bs [] n e s = tt
  all_ready bs (x ∷ xs) n e s =
      let p = and_parts (block_stands g bs x) (each_stands g bs xs) n in
      let q = and_parts (all_stand g x.instrs x.stack) (exit_stands bs x.exit (all_turned x.instrs x.stack)) p.0 in
      let a : ends_read x.instrs ≤ max (ends_read x.instrs) (payload_need xs) = le-max_left (ends_read x.instrs) (payload_need xs) in
      let b : payload_need xs ≤ max (ends_read x.instrs) (payload_need xs) = le-max_right (ends_read x.instrs) (payload_need xs) in
      (are_ready x.instrs x.stack q.0 (omega arith) s.0, all_ready bs xs p.1 (omega arith) s.1)

-- ---- what blocks ask for

stands_at : (g : Ground) (bs xs : List Block) (k : ℕ) (b : Block) → each_stands g bs xs ≡ true → slice_get xs k ≡ Some b → block_stands g bs b ≡ true
stands_at g bs [] k b h e = cc
stands_at g bs (x ∷ xs) zero b h e = let is : x ≡ b = cc in subst (λ (y : Block). block_stands g bs y ≡ true) is (and_parts (block_stands g bs x) (each_stands g bs xs) h).0
stands_at g bs (x ∷ xs) (suc k) b h e = stands_at g bs xs k b (and_parts (block_stands g bs x) (each_stands g bs xs) h).1 e

serves_at : (served maps : List MapDecl) (xs : List Block) (k : ℕ) (b : Block) → ServesBlocks served maps xs → slice_get xs k ≡ Some b → ServesInstrs served maps b.instrs
serves_at served maps [] k b h e = cc
serves_at served maps (x ∷ xs) zero b h e = let is : x ≡ b = cc in subst (λ (y : Block). ServesInstrs served maps y.instrs) is h.0
serves_at served maps (x ∷ xs) (suc k) b h e = serves_at served maps xs k b h.1 e

module _ (g : Ground) (setting : Setting) (scene : Scene) (f : Footing g setting scene) (bs : List Block) (typed : each_stands g bs bs ≡ true) (serves : ServesBlocks setting.maps g.maps bs) where
  -- the stack has the types that a block finds
  Finds : ℕ → State → Type 0
  Finds b s = HasShape (stack_in (slice_get bs b)) s.stack

  goes : (stack : List Shape) (b : ℕ) (s : State) → goes_with bs stack b ≡ true → HasShape stack s.stack → Finds b s
  unfolding Finds
  goes stack b s h k = subst (λ (l : List Shape). HasShape l s.stack) (sym (same_shapes-is (stack_in (slice_get bs b)) stack h)) k

  module _ (n : ℕ) (go : (b : ℕ) (s : State) → Finds b s → MayAsk setting (run_from bs n scene b s)) where
    to : (b : ℕ) (s : State) → Finds b s → MayAsk setting (goes_on (run_from bs n scene) (To b) s)
    to b s h = go b s h

    branch : (first second : ℕ) (c : Bool) (s : State) → Finds first s → Finds second s → MayAsk setting (goes_on (run_from bs n scene) (cond c (To first) (To second)) s)
    branch first second true s h k = go first s h
    branch first second false s h k = go second s k

    count : (block leave : ℕ) (z : ℤ) (s : State) → Finds block s → Finds leave s → MayAsk setting (goes_on (run_from bs n scene) (count_way block leave z) s)
    count block leave (pos zero) s h k = go leave s k
    count block leave (pos (suc m)) s h k = go block s h
    count block leave (negsuc m) s h k = go leave s k

    turn : (block cut turns : ℕ) (s : State) → Finds block s → Finds cut s → MayAsk setting (goes_on (run_from bs n scene) (turn_way block cut turns) s)
    turn block cut zero s h k = go cut s k
    turn block cut (suc m) s h k = go block s h

    exit : (x : Exit) (stack : List Shape) (s : State) → exit_stands bs x stack ≡ true → HasShape stack s.stack → MayAsk setting (exit_run (run_from bs n scene) x s)
    exit (Goto b) stack s h k = to b s (goes stack b s h k)
    exit (Branch first second) stack s h k =
        let p = and_parts (end_with (shapes.Int ∷ []) stack && goes_with bs (front_of 1 stack) first) (goes_with bs (front_of 1 stack) second) h in
        let q = and_parts (end_with (shapes.Int ∷ []) stack) (goes_with bs (front_of 1 stack) first) p.0 in
        let r = (shaped-pop (front_of 1 stack) shapes.Int s.stack (subst (λ (l : List Shape). HasShape l s.stack) (ends_is (shapes.Int ∷ []) stack q.0) k)).0 in
        branch first second (holds (number_of (top s.stack))) (after_exit (Branch first second) s)
        (goes (front_of 1 stack) first (after_exit (Branch first second) s) q.1 r) (goes (front_of 1 stack) second (after_exit (Branch first second) s) p.1 r)
    exit (Count block leave) stack s h k =
        let p = and_parts (end_with (shapes.Int ∷ []) stack && goes_with bs stack block) (goes_with bs stack leave) h in
        let q = and_parts (end_with (shapes.Int ∷ []) stack) (goes_with bs stack block) p.0 in
        let e = ends_is (shapes.Int ∷ []) stack q.0 in
        let r = (shaped-pop (front_of 1 stack) shapes.Int s.stack (subst (λ (l : List Shape). HasShape l s.stack) e k)).0 in
        let t : HasShape stack (after_exit (Count block leave) s).stack = subst (λ (l : List Shape). HasShape l (after_exit (Count block leave) s).stack) (sym e) (shaped-put (front_of 1 stack) shapes.Int (below s.stack) _ r tt) in
        count block leave (number_of (top s.stack)) (after_exit (Count block leave) s) (goes stack block (after_exit (Count block leave) s) q.1 t) (goes stack leave (after_exit (Count block leave) s) p.1 t)
    exit (Gate block cut) stack s h k =
        let p = and_parts (goes_with bs stack block) (goes_with bs stack cut) h in
        turn block cut s.turns (after_exit (Gate block cut) s) (goes stack block (after_exit (Gate block cut) s) p.0 k) (goes stack cut (after_exit (Gate block cut) s) p.1 k)
    exit (Again head) stack s h k = to head s (goes stack head s h k)
    exit (End ending) stack s h k = tt

    block : (b : ℕ) (s : State) (o : Option Block) → slice_get bs b ≡ o → HasShape (stack_in o) s.stack → MayAsk setting (block_run (run_from bs n scene) o scene s)
    block b s None e h = tt
    block b s (Some x) e h =
        let p = and_parts (all_stand g x.instrs x.stack) (exit_stands bs x.exit (all_turned x.instrs x.stack)) (stands_at g bs bs b x typed e) in
        Can-and_then setting (HasStack (all_turned x.instrs x.stack)) _ (instrs_run x.instrs scene s) (exit_run (run_from bs n scene) x.exit)
        (all g setting scene f x.instrs x.stack s p.0 (serves_at setting.maps g.maps bs b x serves e) h)
        (λ s1 h1. exit x.exit (all_turned x.instrs x.stack) s1 p.1 h1)

  pub runs_ask : (n b : ℕ) (s : State) → HasShape (stack_in (slice_get bs b)) s.stack → MayAsk setting (run_from bs n scene b s)
  unfolding Finds
  runs_ask zero b s h = tt
  runs_ask (suc n) b s h = block n (runs_ask n) b s (slice_get bs b) refl h

-- ---- a whole probe

abbrev pub ground_of : IrProbe → Ground
ground_of p = record { variables = p.variables; maps = p.maps; formats = p.formats; frame = p.frame_need }

typed_parts : (p : IrProbe) → (stack_in (slice_get p.blocks.list (length p.blocks.list - 1)) ≡ []) × (each_stands (ground_of p) p.blocks.list p.blocks.list ≡ true)
typed_parts p =
    let q = and_parts (same_shapes (stack_in (slice_get p.blocks.list (length p.blocks.list - 1))) []) (each_stands (ground_of p) p.blocks.list p.blocks.list) p.typed in
    (same_shapes-is (stack_in (slice_get p.blocks.list (length p.blocks.list - 1))) [] q.0, q.1)

pub probe_ready : (setting : Setting) (p : IrProbe) (v : View) (context : Context) → v.maps.now ≡ p.maps → CanRun setting p context v.payload.now v.actor v.actors → AllReady setting v p.blocks.list
probe_ready setting p v context m can =
    all_ready (ground_of p) setting v m can.actors_are_the_ports p.blocks.list p.blocks.list (typed_parts p).1 can.payload_is_long can.maps_are_served

pub probe_asks : (setting : Setting) (p : IrProbe) (scene : Scene) (context : Context) (s : State) → scene.maps ≡ p.maps → s.stack ≡ [] → CanRun setting p context scene.payload scene.actor scene.actors → MayAsk setting (blocks_run p.blocks.list scene s)
probe_asks setting p scene context s m e can =
    runs_ask (ground_of p) setting scene (record { actor = omega (arith, can.actor_is_below, can.actors_are_the_ports); actors = sym can.actors_are_the_ports; maps = m }) p.blocks.list (typed_parts p).1 can.maps_are_served
    ((s.turns + 1) * length p.blocks.list) (length p.blocks.list - 1) s
    (subst (λ (l : List Shape). HasShape l s.stack) (sym (typed_parts p).0) (rw e tt))
