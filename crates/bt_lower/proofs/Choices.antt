-- Lowering of choices between expressions.
use Rattle.std.proofs.Common.{◌≡◌, ℕ, ◌+◌, ◌≤◌, List, [], ◌∷◌, ◌++◌, length, refl, sym, ap, ◌∙◌, subst, arith, Bool, true, false}
use Rattle.std.specs.Prelude.{ℤ, max, cond}
use Rattle.std.proofs.Math.Nat.{le-max_left, le-max_right}
use Rattle.bt_core.specs.declared.ending.Ending.{Ending}
use Rattle.bt_core.specs.declared.map.MapDecl.{MapDecl}
use Rattle.bt_core.specs.declared.map.Shape.{Shape}
use Rattle.bt_core.specs.declared.map.Shape.TheVariants as shapes
use Rattle.bt_core.specs.declared.value.Value.{Value}
use Rattle.bt_core.specs.declared.value.Value.TheVariants.{Int}
use Rattle.bt_core.specs.Interaction.{Interaction, Ended, and_then}
use Rattle.bt_core.proofs.InteractionLaws.{and_then_assoc}
use Rattle.typed_tree.specs.Parts.{TreePart}
use Rattle.typed_tree.specs.Scope.{Scope, all_fit}
use Rattle.walk_meaning.specs.declared.flow.Frame.{Frame}
use Rattle.walk_meaning.specs.Does.{Does, given, bind, choose, if_holds, in_order}
use Rattle.map_ops.specs.Values.{holds, number_of}
use Rattle.walk_meaning.specs.Does.{BodyScene}
use Rattle.walk_meaning.specs.Exprs.{number_value}
use Rattle.ir_code.specs.declared.blocks.Block.{Block}
use Rattle.ir_code.specs.declared.blocks.Exit.TheVariants.{Goto, Branch}
use Rattle.ir_code.specs.declared.state.State.{State}
use Rattle.ir_code.specs.declared.state.Way.TheVariants.{To}
use Rattle.ir_code.specs.Figures.{sizes_of}
use Rattle.ir_code.specs.Meaning.{Scene, run_from, goes_on}
use Rattle.ir_code.specs.Typing.{front_of}
use Rattle.ir_code.specs.Stacks.{top, below}
use Rattle.bt_lower.specs.declared.code.Code.{Code}
use Rattle.bt_lower.specs.Code.{begun, closed, untyped, open_block}
use Rattle.bt_lower.specs.Lowers.{Stand, Grew, Runs, Reaches, state, seen_by, LowersValue, LowersArm}
use Rattle.bt_lower.specs.Needs.{Need, need, more}
use Rattle.bt_lower.specs.Sound.{Target}
use Rattle.bt_lower.proofs.Blocks.{and_then-same, Grew-trans, Grew-one, Grew-length, Stand-later, Stand-before, Runs-is, Runs-goto, Reaches-close, Reaches-more, closed-length}
use Rattle.bt_lower.proofs.Exprs.{in_order-one}
use Rattle.bt_lower.proofs.Lists.{top-append, below-append, front-append, sizes-append}
use Rattle.bt_lower.proofs.Opening.{Room-less, Sound-join, Sound-close, Target-close, Target-later, Opens-goto, Opens-branch}
use Rattle.bt_lower.proofs.Slots.{slots-closed, slots-untyped, slots-begun}

one_value : (vs : List Value) → length vs ≡ 1 → (v : Value) × (vs ≡ v ∷ [])
one_value [] h = absurd (omega arith)
one_value (v ∷ []) h = (v, refl)
one_value (v ∷ u ∷ vs) h = absurd (omega arith)

one_goes : (bs : List Block) (c : Code) (after base : ℕ) (maps : List MapDecl) (w : BodyScene) (values : List Value) (on : List Shape) (k : (List Value × Frame) → Interaction Ending) (p : List Value × Frame) → length p.0 ≡ 1 →
    ((v : Value) → p.0 ≡ v ∷ [] → Reaches bs after (base + length c.blocks) (seen_by maps w) (state p.1 (values ++ v ∷ [])) (k (v ∷ [], p.1))) → Runs bs (begun (Goto after) on c) (base + length c.blocks) (seen_by maps w) (state p.1 (values ++ p.0)) (k p)
one_goes bs c after base maps w values on k p long h =
    let (v, e) = one_value p.0 long in
    Runs-goto bs c after _ on (seen_by maps w) _ _
    (subst (λ (l : List Value). Reaches bs after (base + length c.blocks) (seen_by maps w) (state p.1 (values ++ l)) (k (l, p.1))) (sym e) (h v e))

-- ---- a block of its own

pub Lowers-arm : (ps : List TreePart) (d : Does Value) (shape : Shape) (n : Need) (after : ℕ) (c c0 c1 new : Code) (b : ℕ) → c0 ≡ begun (Goto after) (shape ∷ []) c → LowersValue ps d shape n c0 c1 → new ≡ closed c1 → b ≡ length c1.blocks → LowersArm ps d shape (more 1 n) after c new b
Lowers-arm ps d shape n after c c0 c1 new b e0 l0 en eb =
    let l = subst (λ x. LowersValue ps d shape n x c1) e0 l0 in
    let same : c1.stack ≡ c.stack = l.stack c.stack refl in
    let arm : LowersArm ps d shape (more 1 n) after c (closed c1) (length c1.blocks) = record {
      grew = Grew-trans _ _ _ l.grew (Grew-one c1.blocks (open_block c1));
      depth = l.depth;
      slots = omega (arith, slots-begun (Goto after) (shape ∷ []) c, l.slots, slots-closed c1);
      sizes = l.sizes;
      stack = same;
      does = λ bs stand base maps w frame values k h.
          Reaches-more bs _ _ _ (seen_by maps w) _ _ (omega (arith, closed-length c1))
          (Reaches-close bs c1 (base + length c1.blocks) (seen_by maps w) (state frame values) (and_then (d w frame) k) (Stand-later _ _ _ _ (Grew-length _ _ l.grew) stand)
          (Runs-is bs c1 _ (seen_by maps w) _ _ _ (in_order-one d w frame (λ q. k (top q.0, q.1)))
          (l.does bs (Stand-before _ _ _ _ (Grew-one c1.blocks (open_block c1)) stand) base maps w frame values (λ q. k (top q.0, q.1))
          (λ p long turns. one_goes bs c after base maps w values (shape ∷ []) (λ q. k (top q.0, q.1)) p long (λ v e. h (v, p.1) turns)))));
      sound = λ bs stand t fits room target.
          let z : sizes_of (c.stack ++ shape ∷ []) ≡ sizes_of c.stack + sizes_of (shape ∷ []) = sizes-append c.stack (shape ∷ []) in
          let p = l.sound bs (Stand-before _ _ _ _ (Grew-one c1.blocks (open_block c1)) stand) t fits c.stack refl room
          (Opens-goto t.ground bs c (shape ∷ []) after (Room-less t.ground (sizes_of (c.stack ++ shape ∷ [])) (sizes_of c.stack + n.frame) (omega (arith, l.sizes)) room) target) in
          let s = Sound-close t.ground bs c1 (Stand-later _ _ _ _ (Grew-length _ _ l.grew) stand) p.0 in (
            subst (λ (x : List Shape). Target bs (length (closed c1).blocks) c.depth x (length c1.blocks)) same
                (Target-close bs c1 (length (closed c1).blocks) c.depth (Stand-later _ _ _ _ (Grew-length _ _ l.grew) stand) (omega (arith, closed-length c1)) (omega (arith, l.depth))),
            Sound-join t.ground bs (length c.blocks) (length c1.blocks) (length (closed c1).blocks) p.1 s,
          );
    } in
    subst (λ x. LowersArm ps d shape (more 1 n) after c new x) (sym eb) (subst (λ x. LowersArm ps d shape (more 1 n) after c x (length c1.blocks)) (sym en) arm)

-- ---- a branch

cond-goes : (b : Bool) (go : ℕ → State → Interaction Ending) (first second : ℕ) (s : State) → goes_on go (cond b (To first) (To second)) s ≡ cond b (go first s) (go second s)
cond-goes true go first second s = refl
cond-goes false go first second s = refl

cond-same : (b : Bool) (t u v x : Interaction Ending) → t ≡ v → u ≡ x → cond b t u ≡ cond b v x
cond-same true t u v x p q = p
cond-same false t u v x p q = q

pub Runs-branch : (bs : List Block) (c : Code) (first second n : ℕ) (on : List Shape) (scene : Scene) (frame : Frame) (values : List Value) (v : Value) (t u : Interaction Ending) →
    Reaches bs first n scene (state frame values) t → Reaches bs second n scene (state frame values) u → Runs bs (begun (Branch first second) on c) n scene (state frame (values ++ v ∷ [])) (cond (holds (number_of v)) t u)
Runs-branch bs c first second n on scene frame values v t u p q = record {
  by = λ m h.
      ap (λ (x : Value). goes_on (run_from bs m scene) (cond (holds (number_of x)) (To first) (To second)) (state frame (below (values ++ v ∷ [])))) (top-append values v)
      ∙ ap (λ (l : List Value). goes_on (run_from bs m scene) (cond (holds (number_of v)) (To first) (To second)) (state frame l)) (below-append values v)
      ∙ cond-goes (holds (number_of v)) (run_from bs m scene) first second (state frame values)
      ∙ cond-same (holds (number_of v)) _ _ _ _ (p.by m h) (q.by m h);
}

choose-then : {A : Type 0} (b : Bool) (x y : Does A) (w : BodyScene) (frame : Frame) (k : (A × Frame) → Interaction Ending) → and_then (choose b x y w frame) k ≡ cond b (and_then (x w frame) k) (and_then (y w frame) k)
unfolding choose
choose-then true x y w frame k = refl
choose-then false x y w frame k = refl

-- a test, and what follows it
pub if_holds-is : (tst : Does ℤ) (x y : Does Value) (w : BodyScene) (frame : Frame) (k : (Value × Frame) → Interaction Ending) →
    and_then (if_holds tst x y w frame) k ≡ and_then (in_order (number_value tst ∷ []) w frame) (λ q. cond (holds (number_of (top q.0))) (and_then (x w q.1) k) (and_then (y w q.1) k))
unfolding bind given
if_holds-is tst x y w frame k =
    and_then_assoc (tst w frame) (λ p. choose (holds p.0) x y w p.1) k
    ∙ and_then-same (tst w frame) _ _ (λ p. choose-then (holds p.0) x y w p.1 k)
    ∙ sym (and_then_assoc (tst w frame) (λ p. Ended (Int p.0, p.1)) (λ p. cond (holds (number_of p.0)) (and_then (x w p.1) k) (and_then (y w p.1) k)))
    ∙ sym (in_order-one (number_value tst) w frame (λ q. cond (holds (number_of (top q.0))) (and_then (x w q.1) k) (and_then (y w q.1) k)))

pub Lowers-either : (ps pt px py : List TreePart) (tst : Does ℤ) (x y : Does Value) (shape : Shape) (nt nx ny : Need) (c c0 c1 c2 c3 c4 new : Code) (after first second : ℕ) →
    ((s : Scope) → all_fit s ps ≡ true → (all_fit s pt ≡ true) × ((all_fit s px ≡ true) × (all_fit s py ≡ true))) →
    c0 ≡ closed c → after ≡ length c.blocks → c1 ≡ untyped c0 → LowersArm py y shape ny after c1 c2 second → LowersArm px x shape nx after c2 c3 first → c4 ≡ begun (Branch first second) (shapes.Int ∷ []) c3 → LowersValue pt (number_value tst) shapes.Int nt c4 new →
    LowersValue ps (if_holds tst x y) shape (need (max nt.frame (max nx.frame ny.frame)) (3 + nt.code + nx.code + ny.code)) c new
Lowers-either ps pt px py tst x y shape nt nx ny c c0 c1 c2 c3 c4 new after first second fit e0 ea e1 ly0 lx0 e4 lt0 = record {
  grew = Grew-trans _ _ _ one (Grew-trans _ _ _ ly.grew (Grew-trans _ _ _ lx.grew lt.grew));
  depth = lt.depth ∙ lx.depth ∙ ly.depth;
  slots = omega (arith, slots-closed c, slots-untyped (closed c), ly.slots, lx.slots, slots-begun (Branch first second) (shapes.Int ∷ []) c3, lt.slots);
  sizes = omega (arith, lx.sizes, le-max_left nx.frame ny.frame, le-max_right nt.frame (max nx.frame ny.frame));
  stack = λ rest e. lt.stack rest (ap (λ l. l ++ shapes.Int ∷ []) (lx.stack ∙ ly.stack ∙ front rest e));
  does = λ bs stand base maps w frame values k h.
      let k1 : (Value × Frame) → Interaction Ending = λ q. k (q.0 ∷ [], q.1) in
      let after_does : (q : Value × Frame) → q.1.turns ≡ frame.turns → Reaches bs (length c.blocks) (base + length (closed c).blocks) (seen_by maps w) (state q.1 (values ++ q.0 ∷ [])) (k1 q) =
      λ q turns. Reaches-more bs _ _ _ (seen_by maps w) _ _ (omega (arith, closed-length c))
      (Reaches-close bs c (base + length c.blocks) (seen_by maps w) (state q.1 (values ++ q.0 ∷ [])) (k1 q) (Stand-before _ _ _ _ tail stand) (h (q.0 ∷ [], q.1) refl turns)) in
      Runs-is bs new _ (seen_by maps w) _ _ _ (sym (in_order-one (if_holds tst x y) w frame k ∙ if_holds-is tst x y w frame k1))
      (lt.does bs (Stand-later _ _ _ _ (omega (arith, Grew-length _ _ one, Grew-length _ _ ly.grew, Grew-length _ _ lx.grew)) stand) base maps w frame values (λ q. cond (holds (number_of (top q.0))) (and_then (x w q.1) k1) (and_then (y w q.1) k1))
      (λ q long turns. branches bs (base + length c3.blocks) maps w values q long (λ q1. and_then (x w q1) k1) (λ q1. and_then (y w q1) k1)
      (lx.does bs (Stand-later _ _ _ _ (omega (arith, Grew-length _ _ one, Grew-length _ _ ly.grew)) (Stand-before _ _ _ _ lt.grew stand)) base maps w q.1 values k1
      (λ r t2. Reaches-more bs _ _ _ (seen_by maps w) _ _ (omega (arith, Grew-length _ _ ly.grew)) (after_does r (t2 ∙ turns))))
      (Reaches-more bs _ _ _ (seen_by maps w) _ _ (omega (arith, Grew-length _ _ lx.grew))
      (ly.does bs (Stand-later _ _ _ _ (Grew-length _ _ one) (Stand-before _ _ _ _ (Grew-trans _ _ _ lx.grew lt.grew) stand)) base maps w q.1 values k1 (λ r t2. after_does r (t2 ∙ turns))))));
  sound = λ bs stand t fits rest e room o.
      let f = fit t.scope fits in
      let ml : nt.frame ≤ max nt.frame (max nx.frame ny.frame) = le-max_left nt.frame (max nx.frame ny.frame) in
      let mr : max nx.frame ny.frame ≤ max nt.frame (max nx.frame ny.frame) = le-max_right nt.frame (max nx.frame ny.frame) in
      let mx : nx.frame ≤ max nx.frame ny.frame = le-max_left nx.frame ny.frame in
      let my : ny.frame ≤ max nx.frame ny.frame = le-max_right nx.frame ny.frame in
      let s1 : (untyped (closed c)).stack ≡ rest = front rest e in
      let s2 : c2.stack ≡ rest = ly.stack ∙ s1 in
      let s3 : c3.stack ≡ rest = lx.stack ∙ s2 in
      let d2 : c2.depth ≡ c.depth = ly.depth in
      let d3 : c3.depth ≡ c.depth = lx.depth ∙ ly.depth in
      let st : Stand (length c.blocks) (closed c).blocks bs = Stand-before _ _ _ _ tail stand in
      let at : Target bs (length (closed c).blocks) c.depth c.stack (length c.blocks) = Target-close bs c (length (closed c).blocks) c.depth st (omega (arith, closed-length c)) (omega arith) in
      let a1 : Target bs (length (closed c).blocks) c.depth ((untyped (closed c)).stack ++ shape ∷ []) (length c.blocks) = subst (λ (l : List Shape). Target bs (length (closed c).blocks) c.depth l (length c.blocks)) (e ∙ ap (λ l. l ++ shape ∷ []) (sym s1)) at in
      let py' = ly.sound bs (Stand-later _ _ _ _ (Grew-length _ _ one) (Stand-before _ _ _ _ (Grew-trans _ _ _ lx.grew lt.grew) stand)) t f.1.1 (Room-less t.ground _ _ (omega (arith, ap sizes_of s1)) room) a1 in
      let a2 : Target bs (length c2.blocks) c2.depth (c2.stack ++ shape ∷ []) (length c.blocks) =
      subst (λ (l : List Shape). Target bs (length c2.blocks) c2.depth (l ++ shape ∷ []) (length c.blocks)) (s1 ∙ sym s2)
      (subst (λ (m : ℕ). Target bs (length c2.blocks) m ((untyped (closed c)).stack ++ shape ∷ []) (length c.blocks)) (sym d2) (Target-later bs _ _ c.depth _ _ (Grew-length _ _ ly.grew) a1)) in
      let px' = lx.sound bs (Stand-later _ _ _ _ (omega (arith, Grew-length _ _ one, Grew-length _ _ ly.grew)) (Stand-before _ _ _ _ lt.grew stand)) t f.1.0 (Room-less t.ground _ _ (omega (arith, ap sizes_of s2)) room) a2 in
      let b1 : Target bs (length c3.blocks) c3.depth c3.stack first =
      subst (λ (l : List Shape). Target bs (length c3.blocks) c3.depth l first) (s2 ∙ sym s3) (subst (λ (m : ℕ). Target bs (length c3.blocks) m c2.stack first) (d2 ∙ sym d3) px'.0) in
      let b2 : Target bs (length c3.blocks) c3.depth c3.stack second =
      subst (λ (l : List Shape). Target bs (length c3.blocks) c3.depth l second) (s1 ∙ sym s3) (subst (λ (m : ℕ). Target bs (length c3.blocks) m (untyped (closed c)).stack second) (sym d3) (Target-later bs _ _ c.depth _ _ (Grew-length _ _ lx.grew) py'.0)) in
      let z : sizes_of (c3.stack ++ shapes.Int ∷ []) ≡ sizes_of c3.stack + sizes_of (shapes.Int ∷ []) = sizes-append c3.stack (shapes.Int ∷ []) in
      let pt' = lt.sound bs (Stand-later _ _ _ _ (omega (arith, Grew-length _ _ one, Grew-length _ _ ly.grew, Grew-length _ _ lx.grew)) stand) t f.0 rest (ap (λ l. l ++ shapes.Int ∷ []) s3) (Room-less t.ground _ _ (omega arith) room)
      (Opens-branch t.ground bs c3 first second (Room-less t.ground _ _ (omega (arith, lt.sizes, ap sizes_of s3)) room) b1 b2) in (
        pt'.0,
        Sound-join t.ground bs (length c.blocks) (length (closed c).blocks) (length new.blocks) (Sound-close t.ground bs c st o)
            (Sound-join t.ground bs (length (closed c).blocks) (length c2.blocks) (length new.blocks) py'.1 (Sound-join t.ground bs (length c2.blocks) (length c3.blocks) (length new.blocks) px'.1 pt'.1)),
      );
}
  where
    e01 : c1 ≡ untyped (closed c)
    e01 = e1 ∙ ap untyped e0

    ly : LowersArm py y shape ny (length c.blocks) (untyped (closed c)) c2 second
    ly = subst (λ z. LowersArm py y shape ny (length c.blocks) z c2 second) e01 (subst (λ (m : ℕ). LowersArm py y shape ny m c1 c2 second) ea ly0)

    lx : LowersArm px x shape nx (length c.blocks) c2 c3 first
    lx = subst (λ (m : ℕ). LowersArm px x shape nx m c2 c3 first) ea lx0

    lt : LowersValue pt (number_value tst) shapes.Int nt (begun (Branch first second) (shapes.Int ∷ []) c3) new
    lt = subst (λ z. LowersValue pt (number_value tst) shapes.Int nt z new) e4 lt0

    one : Grew c.blocks (closed c).blocks
    one = Grew-one c.blocks (open_block c)

    tail : Grew (closed c).blocks new.blocks
    tail = Grew-trans _ _ _ ly.grew (Grew-trans _ _ _ lx.grew lt.grew)

    front : (rest : List Shape) → c.stack ≡ rest ++ shape ∷ [] → (untyped (closed c)).stack ≡ rest
    front rest e = ap (λ l. front_of 1 l) e ∙ front-append 1 rest (shape ∷ []) refl

    branches : (bs : List Block) (n : ℕ) (maps : List MapDecl) (w : BodyScene) (values : List Value) (q : List Value × Frame) → length q.0 ≡ 1 → (t u : Frame → Interaction Ending) → Reaches bs first n (seen_by maps w) (state q.1 values) (t q.1) → Reaches bs second n (seen_by maps w) (state q.1 values) (u q.1) →
        Runs bs (begun (Branch first second) (shapes.Int ∷ []) c3) n (seen_by maps w) (state q.1 (values ++ q.0)) (cond (holds (number_of (top q.0))) (t q.1) (u q.1))
    branches bs n maps w values q long t u p r =
        let (v, e) = one_value q.0 long in
        subst (λ (l : List Value). Runs bs (begun (Branch first second) (shapes.Int ∷ []) c3) n (seen_by maps w) (state q.1 (values ++ l)) (cond (holds (number_of (top l))) (t q.1) (u q.1))) (sym e)
        (Runs-branch bs c3 first second n (shapes.Int ∷ []) (seen_by maps w) q.1 values v (t q.1) (u q.1) p r)
