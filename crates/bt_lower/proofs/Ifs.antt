-- Lowering of `if`: the blocks of its arms.
use Rattle.std.proofs.Common.{◌≡◌, ℕ, ◌+◌, ◌*◌, ◌≤◌, List, [], ◌∷◌, ◌++◌, length, refl, sym, ap, ◌∙◌, subst, arith, append-nil, Bool, true, false}
use Rattle.std.specs.Prelude.{ℤ, max, cond}
use Rattle.std.proofs.Math.Nat.{le-max_left, le-max_right}
use Rattle.bt_core.specs.declared.ending.Ending.{Ending}
use Rattle.bt_core.specs.declared.map.Shape.{Shape}
use Rattle.bt_core.specs.declared.map.Shape.TheVariants as shapes
use Rattle.bt_core.specs.declared.value.Value.{Value}
use Rattle.bt_core.specs.declared.value.Value.TheVariants.{Int}
use Rattle.bt_core.specs.Interaction.{Interaction, Ended, and_then}
use Rattle.bt_core.proofs.InteractionLaws.{and_then_assoc}
use Rattle.typed_tree.specs.Parts.{TreePart}
use Rattle.typed_tree.specs.Scope.{Scope, all_fit}
use Rattle.walk_meaning.specs.declared.flow.Flow.{Flow}
use Rattle.walk_meaning.specs.declared.flow.Flow.TheVariants.{Next}
use Rattle.walk_meaning.specs.declared.flow.Frame.{Frame}
use Rattle.walk_meaning.specs.Does.{Does, given, bind, choose, if_holds, in_order}
use Rattle.map_ops.specs.Values.{holds, number_of}
use Rattle.walk_meaning.specs.Does.{BodyScene}
use Rattle.walk_meaning.specs.Exprs.{number_value}
use Rattle.ir_code.specs.declared.blocks.Block.{Block}
use Rattle.ir_code.specs.declared.blocks.Exit.TheVariants.{Goto, Branch}
use Rattle.ir_code.specs.Figures.{sizes_of}
use Rattle.ir_code.specs.Meaning.{Scene}
use Rattle.ir_code.specs.Stacks.{top}
use Rattle.bt_lower.specs.declared.code.Code.{Code}
use Rattle.bt_lower.specs.declared.code.Ways.{Ways}
use Rattle.bt_lower.specs.Code.{begun, closed, open_block}
use Rattle.bt_lower.specs.Lowers.{Stand, Grew, Runs, Reaches, state, seen_by, fuel, LowersValue, LowersStmt, LowersBlock}
use Rattle.bt_lower.specs.Needs.{Need, need, more}
use Rattle.bt_lower.specs.Sound.{Target}
use Rattle.bt_lower.proofs.Blocks.{and_then-same, Grew-refl, Grew-trans, Grew-one, Grew-length, Stand-later, Stand-before, Runs-is, Runs-more, Runs-goto, Reaches-close, Reaches-more, closed-length}
use Rattle.bt_lower.proofs.Choices.{Runs-branch}
use Rattle.bt_lower.proofs.Exprs.{in_order-one}
use Rattle.bt_lower.proofs.Lists.{sizes-append}
use Rattle.bt_lower.proofs.Opening.{Room-less, Sound-none, Sound-join, Sound-close, Target-close, Target-later, Opens-goto, Opens-branch}
use Rattle.bt_lower.proofs.Slots.{slots-closed, slots-begun}
use Rattle.bt_lower.proofs.Stmts.{fuel-depth, fuel-turns, WaysStand-on}

-- nothing more is done, and the block that follows comes next
pub Block-none : (qs : Bool → List TreePart) (after : ℕ) (way : Ways) (c : Code) → LowersBlock qs (given Next) (need 0 0) after way c c after
unfolding given
Block-none qs after way c = record {
  grew = Grew-refl c.blocks;
  depth = refl;
  slots = omega arith;
  stack = refl;
  does = λ bs stand most le t inside fits w maps frame values k kn kl ka ks. kn frame (omega arith);
  sound = λ bs stand t inside fits room ways target. (target, Sound-none t.ground bs (length c.blocks));
}

one_value : (vs : List Value) → length vs ≡ 1 → (v : Value) × (vs ≡ v ∷ [])
one_value [] h = absurd (omega arith)
one_value (v ∷ []) h = (v, refl)
one_value (v ∷ u ∷ vs) h = absurd (omega arith)

choose-flow : (b : Bool) (x y : Does Flow) (w : BodyScene) (frame : Frame) (k : (Flow × Frame) → Interaction Ending) → and_then (choose b x y w frame) k ≡ cond b (and_then (x w frame) k) (and_then (y w frame) k)
unfolding choose
choose-flow true x y w frame k = refl
choose-flow false x y w frame k = refl

pub test-is : (tst : Does ℤ) (x y : Does Flow) (w : BodyScene) (frame : Frame) (k : (Flow × Frame) → Interaction Ending) →
    and_then (if_holds tst x y w frame) k ≡ and_then (in_order (number_value tst ∷ []) w frame) (λ q. cond (holds (number_of (top q.0))) (and_then (x w q.1) k) (and_then (y w q.1) k))
unfolding bind given
test-is tst x y w frame k =
    and_then_assoc (tst w frame) (λ p. choose (holds p.0) x y w p.1) k
    ∙ and_then-same (tst w frame) _ _ (λ p. choose-flow (holds p.0) x y w p.1 k)
    ∙ sym (and_then_assoc (tst w frame) (λ p. Ended (Int p.0, p.1)) (λ p. cond (holds (number_of p.0)) (and_then (x w p.1) k) (and_then (y w p.1) k)))
    ∙ sym (in_order-one (number_value tst) w frame (λ q. cond (holds (number_of (top q.0))) (and_then (x w q.1) k) (and_then (y w q.1) k)))

pub branches : (bs : List Block) (c : Code) (first second n : ℕ) (scene : Scene) (values : List Value) (q : List Value × Frame) → length q.0 ≡ 1 → (t u : Frame → Interaction Ending) → Reaches bs first n scene (state q.1 values) (t q.1) → Reaches bs second n scene (state q.1 values) (u q.1) →
    Runs bs (begun (Branch first second) (shapes.Int ∷ []) c) n scene (state q.1 (values ++ q.0)) (cond (holds (number_of (top q.0))) (t q.1) (u q.1))
branches bs c first second n scene values q long t u p r =
    let (v, e) = one_value q.0 long in
    subst (λ (l : List Value). Runs bs (begun (Branch first second) (shapes.Int ∷ []) c) n scene (state q.1 (values ++ l)) (cond (holds (number_of (top l))) (t q.1) (u q.1))) (sym e)
    (Runs-branch bs c first second n (shapes.Int ∷ []) scene q.1 values v (t q.1) (u q.1) p r)

-- an arm: its test, its block, and what comes where the test does not hold, which is there already
pub Block-arm : (qs px py : Bool → List TreePart) (pt : List TreePart) (tst : Does ℤ) (x y : Does Flow) (nt nx ny : Need) (after second first b : ℕ) (way : Ways) (c c1 c2 c3 c4 new : Code) →
    ((s : Scope) (inside : Bool) → all_fit s (qs inside) ≡ true → (all_fit s pt ≡ true) × ((all_fit s (px inside) ≡ true) × (all_fit s (py inside) ≡ true))) →
    LowersBlock py y ny after way c c1 second → LowersBlock px x nx after way c1 c2 first → c3 ≡ begun (Branch first second) (shapes.Int ∷ []) c2 → LowersValue pt (number_value tst) shapes.Int nt c3 c4 → new ≡ closed c4 → b ≡ length c4.blocks →
    LowersBlock qs (if_holds tst x y) (need (max (max nt.frame nx.frame) ny.frame) (4 + (nt.code + nx.code) + ny.code)) after way c new b
Block-arm qs px py pt tst x y nt nx ny after second first b way c c1 c2 c3 c4 new fit ly lx e3 lt0 en eb =
    subst (λ z. LowersBlock qs (if_holds tst x y) (need (max (max nt.frame nx.frame) ny.frame) (4 + (nt.code + nx.code) + ny.code)) after way c new z) (sym eb)
    (subst (λ z. LowersBlock qs (if_holds tst x y) (need (max (max nt.frame nx.frame) ny.frame) (4 + (nt.code + nx.code) + ny.code)) after way c z (length c4.blocks)) (sym en) (record {
      grew = Grew-trans _ _ _ ly.grew (Grew-trans _ _ _ lx.grew (Grew-trans _ _ _ lt.grew one));
      depth = deep;
      slots = omega (arith, ly.slots, lx.slots, slots-begun (Branch first second) (shapes.Int ∷ []) c2, lt.slots, slots-closed c4);
      stack = lt.stack c2.stack refl ∙ lx.stack ∙ ly.stack;
      does = λ bs stand most le t inside fits w maps frame values k kn kl ka ks.
          let f = fit t.scope inside fits in
          let scene = seen_by t.ground.maps w in
          let wide1 : (turns : ℕ) → fuel most c turns ≤ fuel most c1 turns = λ turns. omega (arith, fuel-depth most turns c c1 ly.depth, Grew-length _ _ ly.grew) in
          Reaches-more bs _ _ _ scene _ _ (omega (arith, closed-length c4, fuel-depth most frame.turns c2 c4 lt.depth, fuel-depth most frame.turns c2 (closed c4) lt.depth))
          (Reaches-close bs c4 ((frame.turns + c2.depth) * most + length c4.blocks) scene (state frame values) (and_then (if_holds tst x y w frame) k) (Stand-later _ _ _ _ (omega (arith, Grew-length _ _ ly.grew, Grew-length _ _ lx.grew, Grew-length _ _ lt.grew)) stand)
          (Runs-is bs c4 _ scene _ _ _ (sym (test-is tst x y w frame k))
          (lt.does bs (Stand-later _ _ _ _ (omega (arith, Grew-length _ _ ly.grew, Grew-length _ _ lx.grew)) (Stand-before _ _ _ _ one stand)) ((frame.turns + c2.depth) * most) t.ground.maps w frame values (λ q. cond (holds (number_of (top q.0))) (and_then (x w q.1) k) (and_then (y w q.1) k))
          (λ q long turns. branches bs c2 first second _ scene values q long (λ q1. and_then (x w q1) k) (λ q1. and_then (y w q1) k)
          (Reaches-more bs _ _ _ scene _ _ (omega (arith, fuel-turns most q.1.turns frame.turns c2 turns))
          (lx.does bs (Stand-later _ _ _ _ (Grew-length _ _ ly.grew) (Stand-before _ _ _ _ (Grew-trans _ _ _ lt.grew one) stand)) most (omega (arith, closed-length c4, Grew-length _ _ lt.grew)) t inside f.1.0 w maps q.1 values k
          (λ st h. Reaches-more bs _ _ _ scene _ _ (wide1 st.turns) (kn st (omega (arith, turns)))) (λ st h. Reaches-more bs _ _ _ scene _ _ (wide1 st.turns) (kl st (omega (arith, turns)))) (λ st h. Reaches-more bs _ _ _ scene _ _ (wide1 st.turns) (ka st (omega (arith, turns)))) ks))
          (Reaches-more bs _ _ _ scene _ _ (omega (arith, fuel-turns most q.1.turns frame.turns c1 turns, fuel-depth most frame.turns c1 c2 lx.depth, Grew-length _ _ lx.grew))
          (ly.does bs (Stand-before _ _ _ _ (Grew-trans _ _ _ lx.grew (Grew-trans _ _ _ lt.grew one)) stand) most (omega (arith, closed-length c4, Grew-length _ _ lt.grew, Grew-length _ _ lx.grew)) t inside f.1.1 w maps q.1 values k
          (λ st h. kn st (omega (arith, turns))) (λ st h. kl st (omega (arith, turns))) (λ st h. ka st (omega (arith, turns))) ks))))));
      sound = λ bs stand t inside fits room ways target.
          let f = fit t.scope inside fits in
          let m1 : max nt.frame nx.frame ≤ max (max nt.frame nx.frame) ny.frame = le-max_left (max nt.frame nx.frame) ny.frame in
          let m2 : ny.frame ≤ max (max nt.frame nx.frame) ny.frame = le-max_right (max nt.frame nx.frame) ny.frame in
          let m3 : nt.frame ≤ max nt.frame nx.frame = le-max_left nt.frame nx.frame in
          let m4 : nx.frame ≤ max nt.frame nx.frame = le-max_right nt.frame nx.frame in
          let s1 : c1.stack ≡ c.stack = ly.stack in
          let s2 : c2.stack ≡ c.stack = lx.stack ∙ ly.stack in
          let d2 : c2.depth ≡ c.depth = lx.depth ∙ ly.depth in
          let py' = ly.sound bs (Stand-before _ _ _ _ (Grew-trans _ _ _ lx.grew (Grew-trans _ _ _ lt.grew one)) stand) t inside f.1.1 (Room-less t.ground _ _ (omega arith) room) ways target in
          let t1 : Target bs (length c1.blocks) c1.depth c1.stack after = move bs c c1 after ly.depth s1 (Grew-length _ _ ly.grew) target in
          let px' = lx.sound bs (Stand-later _ _ _ _ (Grew-length _ _ ly.grew) (Stand-before _ _ _ _ (Grew-trans _ _ _ lt.grew one) stand)) t inside f.1.0 (Room-less t.ground _ _ (omega (arith, ap sizes_of s1)) room) (WaysStand-on bs way.leave way.again c c1 ly.depth s1 (Grew-length _ _ ly.grew) ways) t1 in
          let b1 : Target bs (length c2.blocks) c2.depth c2.stack first = subst (λ (l : List Shape). Target bs (length c2.blocks) c2.depth l first) (sym lx.stack) (subst (λ (m : ℕ). Target bs (length c2.blocks) m c1.stack first) (sym lx.depth) px'.0) in
          let b2 : Target bs (length c2.blocks) c2.depth c2.stack second = subst (λ (l : List Shape). Target bs (length c2.blocks) c2.depth l second) (sym s2) (subst (λ (m : ℕ). Target bs (length c2.blocks) m c.stack second) (sym d2) (Target-later bs _ _ c.depth _ _ (Grew-length _ _ lx.grew) py'.0)) in
          let z : sizes_of (c2.stack ++ shapes.Int ∷ []) ≡ sizes_of c2.stack + sizes_of (shapes.Int ∷ []) = sizes-append c2.stack (shapes.Int ∷ []) in
          let pt' = lt.sound bs (Stand-later _ _ _ _ (omega (arith, Grew-length _ _ ly.grew, Grew-length _ _ lx.grew)) (Stand-before _ _ _ _ one stand)) t f.0 c2.stack refl (Room-less t.ground _ _ (omega (arith, ap sizes_of s2)) room)
          (Opens-branch t.ground bs c2 first second (Room-less t.ground _ _ (omega (arith, lt.sizes, ap sizes_of s2)) room) b1 b2) in
          let st : Stand (length c4.blocks) (closed c4).blocks bs = Stand-later _ _ _ _ (omega (arith, Grew-length _ _ ly.grew, Grew-length _ _ lx.grew, Grew-length _ _ lt.grew)) stand in (
            subst (λ (l : List Shape). Target bs (length (closed c4).blocks) c.depth l (length c4.blocks)) (lt.stack c2.stack refl ∙ s2) (Target-close bs c4 (length (closed c4).blocks) c.depth st (omega (arith, closed-length c4)) (omega (arith, deep))),
            Sound-join t.ground bs (length c.blocks) (length c1.blocks) (length (closed c4).blocks) py'.1
                (Sound-join t.ground bs (length c1.blocks) (length c2.blocks) (length (closed c4).blocks) px'.1
                (Sound-join t.ground bs (length c2.blocks) (length c4.blocks) (length (closed c4).blocks) pt'.1 (Sound-close t.ground bs c4 st pt'.0))),
          );
    }))
  where
    lt : LowersValue pt (number_value tst) shapes.Int nt (begun (Branch first second) (shapes.Int ∷ []) c2) c4
    lt = subst (λ z. LowersValue pt (number_value tst) shapes.Int nt z c4) e3 lt0

    one : Grew c4.blocks (closed c4).blocks
    one = Grew-one c4.blocks (open_block c4)

    deep : c4.depth ≡ c.depth
    deep = lt.depth ∙ lx.depth ∙ ly.depth

    move : (bs : List Block) (a d : Code) (to : ℕ) → d.depth ≡ a.depth → d.stack ≡ a.stack → length a.blocks ≤ length d.blocks → Target bs (length a.blocks) a.depth a.stack to → Target bs (length d.blocks) d.depth d.stack to
    move bs a d to ed es le t = subst (λ (l : List Shape). Target bs (length d.blocks) d.depth l to) (sym es) (subst (λ (m : ℕ). Target bs (length d.blocks) m a.stack to) (sym ed) (Target-later bs _ _ a.depth to a.stack le t))

-- what is open goes on to the first arm
pub If-open : (qs : Bool → List TreePart) (d : Does Flow) (n : Need) (after second : ℕ) (way : Ways) (c c1 c2 new : Code) → c1 ≡ closed c → after ≡ length c.blocks → LowersBlock qs d n after way c1 c2 second → new ≡ begun (Goto second) [] c2 → LowersStmt qs d (more 2 n) way c new
If-open qs d n after second way c c1 c2 new e1 ea l1 en =
    subst (λ z. LowersStmt qs d (more 2 n) way c z) (sym en) (record {
      grew = Grew-trans _ _ _ one l.grew;
      depth = l.depth;
      slots = omega (arith, slots-closed c, l.slots, slots-begun (Goto second) [] c2);
      stack = append-nil c2.stack ∙ l.stack;
      does = λ bs stand most le t inside fits w maps frame values k fo.
          let scene = seen_by t.ground.maps w in
          let wide : (turns : ℕ) → fuel most c turns + 1 ≡ fuel most (closed c) turns = λ turns. omega (arith, closed-length c) in
          Runs-more bs _ _ _ scene _ _ (omega (arith, fuel-depth most frame.turns c2 (begun (Goto second) [] c2) refl))
          (Runs-goto bs c2 second _ [] scene _ _
          (l.does bs (Stand-later _ _ _ _ (Grew-length _ _ one) stand) most le t inside fits w maps frame values k
          (λ st h. Reaches-more bs _ _ _ scene _ _ (omega (arith, wide st.turns)) (Reaches-close bs c (fuel most c st.turns) scene (state st values) (k (Next, st)) (Stand-before _ _ _ _ l.grew stand) (fo.next st h)))
          (λ st h. Reaches-more bs _ _ _ scene _ _ (omega (arith, wide st.turns)) (fo.leave st h))
          (λ st h. Reaches-more bs _ _ _ scene _ _ (omega (arith, wide st.turns)) (fo.again st h))
          fo.stop));
      sound = λ bs stand t inside fits room ways o.
          let st : Stand (length c.blocks) (closed c).blocks bs = Stand-before _ _ _ _ l.grew stand in
          let at : Target bs (length (closed c).blocks) c.depth c.stack (length c.blocks) = Target-close bs c (length (closed c).blocks) c.depth st (omega (arith, closed-length c)) (omega arith) in
          let p = l.sound bs (Stand-later _ _ _ _ (Grew-length _ _ one) stand) t inside fits room (WaysStand-on bs way.leave way.again c (closed c) refl refl (Grew-length _ _ one) ways) at in
          let to : Target bs (length c2.blocks) c2.depth (c2.stack ++ []) second = subst (λ (x : List Shape). Target bs (length c2.blocks) c2.depth x second) (sym (append-nil c2.stack ∙ l.stack)) (subst (λ (m : ℕ). Target bs (length c2.blocks) m c.stack second) (sym l.depth) p.0) in (
            Opens-goto t.ground bs c2 [] second (Room-less t.ground _ _ (omega (arith, ap sizes_of (append-nil c2.stack ∙ l.stack))) room) to,
            Sound-join t.ground bs (length c.blocks) (length (closed c).blocks) (length c2.blocks) (Sound-close t.ground bs c st o) p.1,
          );
    })
  where
    l : LowersBlock qs d n (length c.blocks) way (closed c) c2 second
    l = subst (λ z. LowersBlock qs d n (length c.blocks) way z c2 second) e1 (subst (λ (m : ℕ). LowersBlock qs d n m way c1 c2 second) ea l1)

    one : Grew c.blocks (closed c).blocks
    one = Grew-one c.blocks (open_block c)
