-- Lowering of statements, construct by construct.
use Rattle.std.proofs.Common.{◌≡◌, ℕ, ◌+◌, ◌*◌, ◌≤◌, List, [], ◌∷◌, ◌++◌, length, refl, sym, ap, ◌∙◌, subst, arith, append-nil, Bool, true}
use Rattle.std.specs.Prelude.{max}
use Rattle.std.proofs.Math.Nat.{le-max_left, le-max_right}
use Rattle.bt_core.specs.declared.ending.Ending.{Ending}
use Rattle.bt_core.specs.declared.ending.Ending.TheVariants.{Return, Exit as Exited}
use Rattle.bt_core.specs.declared.map.Shape.{Shape}
use Rattle.bt_core.specs.declared.value.Value.{Value}
use Rattle.bt_core.specs.Interaction.{Interaction, Ended, and_then}
use Rattle.bt_core.proofs.InteractionLaws.{and_then_assoc}
use Rattle.typed_tree.specs.Parts.{TreePart}
use Rattle.typed_tree.specs.Scope.{Scope, all_fit}
use Rattle.walk_meaning.specs.declared.flow.Flow.{Flow}
use Rattle.walk_meaning.specs.declared.flow.Flow.TheVariants.{Next, Break, Continue, Stop}
use Rattle.walk_meaning.specs.declared.flow.Frame.{Frame}
use Rattle.walk_meaning.specs.Does.{Does, given, bind, lifted, in_order}
use Rattle.walk_meaning.specs.Does.{BodyScene}
use Rattle.walk_meaning.specs.Stmts.{in_sequence, if_next, jump_to}
use Rattle.typed_tree.specs.declared.stmt.Jump.TheVariants as jumps
use Rattle.ir_code.specs.declared.blocks.Block.{Block}
use Rattle.ir_code.specs.declared.blocks.Exit.{Exit}
use Rattle.ir_code.specs.declared.blocks.Exit.TheVariants.{Goto, End}
use Rattle.ir_code.specs.declared.instr.Instr.{Instr}
use Rattle.ir_code.specs.declared.instr.Instr.TheVariants as i
use Rattle.bt_core.specs.declared.step.ObjectId.TheVariants.{Clock}
use Rattle.bt_core.specs.declared.step.Op.TheVariants as ops
use Rattle.map_ops.specs.Asking.{tells}
use Rattle.ir_code.specs.Figures.{sizes_of, instr_slots, instr_bytes}
use Rattle.ir_code.specs.Meaning.{Scene, instr_run}
use Rattle.ir_code.specs.Serving.{end_read}
use Rattle.ir_code.specs.Typing.{operand_shapes, gives, names}
use Rattle.bt_lower.specs.declared.code.Code.{Code}
use Rattle.bt_lower.specs.declared.code.Ways.{Ways}
use Rattle.bt_lower.specs.Code.{pushed, begun, closed, open_block, code_slots}
use Rattle.bt_lower.specs.Lowers.{Runs, state, seen_by, fuel, Follows, LowersParts, LowersStmt, LowersBlock}
use Rattle.bt_lower.specs.Needs.{Need, need, greater}
use Rattle.bt_lower.specs.Sound.{ground_in, Site, HasRoom, Opens, Target, WaysStand}
use Rattle.bt_lower.proofs.Blocks.{and_then-same, Grew-refl, Grew-trans, Grew-one, Grew-length, Stand-later, Stand-before, Runs-is, Runs-more, Runs-push, Runs-goto, Reaches-close, Reaches-more, closed-length}
use Rattle.bt_lower.proofs.Lists.{sizes-append}
use Rattle.bt_lower.proofs.Opening.{Room-less, none-read, Sound-none, Sound-join, Sound-close, Target-close, Target-later, Opens-push, Opens-goto, pushed-stack}
use Rattle.bt_lower.proofs.Slots.{slots-pushed, slots-closed, slots-begun}

-- the fuel depends on the depth by its value alone
pub fuel-depth : (most turns : ℕ) (c d : Code) → d.depth ≡ c.depth → fuel most d turns ≡ (turns + c.depth) * most + length d.blocks
fuel-depth most turns c d e = ap (λ (n : ℕ). (turns + n) * most + length d.blocks) e

pub fuel-turns : (most a b : ℕ) (c : Code) → a ≡ b → fuel most c a ≡ fuel most c b
fuel-turns most a b c e = ap (λ (n : ℕ). fuel most c n) e

pub Follows-less : (bs : List Block) (way : Ways) (c : Code) (most : ℕ) (scene : Scene) (turns fewer : ℕ) (values : List Value) (k : (Flow × Frame) → Interaction Ending) → fewer ≤ turns → Follows bs way c most scene turns values k → Follows bs way c most scene fewer values k
Follows-less bs way c most scene turns fewer values k le f = record {
  next = λ st h. f.next st (omega arith);
  leave = λ st h. f.leave st (omega arith);
  again = λ st h. f.again st (omega arith);
  stop = f.stop;
}

pub Stmt-less : (ps : Bool → List TreePart) (d : Does Flow) (n m : Need) (way : Ways) (old new : Code) → n.frame ≤ m.frame → n.code ≤ m.code → LowersStmt ps d n way old new → LowersStmt ps d m way old new
Stmt-less ps d n m way old new hf hc l = record {
  grew = l.grew;
  depth = l.depth;
  slots = omega (arith, l.slots);
  stack = l.stack;
  does = l.does;
  sound = λ bs stand t inside fits room ways o. l.sound bs stand t inside fits (Room-less t.ground _ _ (omega arith) room) ways o;
}

pub Stmt-fit : (ps qs : Bool → List TreePart) (d : Does Flow) (n : Need) (way : Ways) (old new : Code) → ((s : Scope) (inside : Bool) → all_fit s (qs inside) ≡ true → all_fit s (ps inside) ≡ true) → LowersStmt ps d n way old new → LowersStmt qs d n way old new
Stmt-fit ps qs d n way old new f l = record {
  grew = l.grew;
  depth = l.depth;
  slots = l.slots;
  stack = l.stack;
  does = λ bs stand most le t inside fits. l.does bs stand most le t inside (f t.scope inside fits);
  sound = λ bs stand t inside fits. l.sound bs stand t inside (f t.scope inside fits);
}

-- ---- an instruction behind its operands

-- what an instruction does with values that are there: it asks, and the frame is another
pub record Acts (qs : Bool → List TreePart) (i : Instr) (ds : List (Does Value)) (ss : List Shape) (d : Does Flow) {A : Type 0} (t : BodyScene → List Value → Frame → Interaction A) (fr : List Value → Frame → A → Frame) : Type 0 where
  pub takes_them : operand_shapes i ≡ ss
  pub reads_none : end_read i ≡ 0
  pub gives_none : gives i ≡ []
  pub is : (w : BodyScene) (frame : Frame) → d w frame ≡ and_then (in_order ds w frame) (λ p. and_then (t w p.0 p.1) (λ a. Ended (Next, fr p.0 p.1 a)))
  pub runs : (s : Site) (inside : Bool) → all_fit s.scope (qs inside) ≡ true → (w : BodyScene) → w.maps ≡ s.scope.maps → (frame : Frame) (values vs : List Value) → length vs ≡ length ss →
      instr_run i (seen_by s.ground.maps w) (state frame (values ++ vs)) ≡ and_then (t w vs frame) (λ a. Ended (state (fr vs frame a) values))
  pub turns : (vs : List Value) (frame : Frame) (a : A) → (fr vs frame a).turns ≡ frame.turns

pub Lowers-act : {A : Type 0} (qs : Bool → List TreePart) (i : Instr) (ps : List TreePart) (ds : List (Does Value)) (ss : List Shape) (d : Does Flow) (t : BodyScene → List Value → Frame → Interaction A) (fr : List Value → Frame → A → Frame) (n : Need) (way : Ways) (c c1 new : Code) →
    Acts qs i ds ss d t fr → ((s : Site) (inside : Bool) → all_fit s.scope (qs inside) ≡ true → (names (ground_in s.ground) i ≡ true) × (all_fit s.scope ps ≡ true)) → c1 ≡ pushed i c → LowersParts ps ds ss n c1 new →
    LowersStmt qs d (need (max n.frame (sizes_of ss + instr_bytes i)) (instr_slots i + n.code)) way c new
Lowers-act qs i ps ds ss d t fr n way c c1 new ac named e1 l1 = record {
  grew = l.grew;
  depth = l.depth;
  slots = omega (arith, slots-pushed i c, l.slots);
  stack = l.stack c.stack stacked;
  does = λ bs stand most le s inside fits w same frame values k f.
      Runs-is bs new _ (seen_by s.ground.maps w) _ _ _
      (sym (ap (λ x. and_then x k) (ac.is w frame)
      ∙ and_then_assoc (in_order ds w frame) (λ p. and_then (t w p.0 p.1) (λ a. Ended (Next, fr p.0 p.1 a))) k
      ∙ and_then-same (in_order ds w frame) _ _ (λ p. and_then_assoc (t w p.0 p.1) (λ a. Ended (Next, fr p.0 p.1 a)) k)))
      (Runs-more bs new _ _ (seen_by s.ground.maps w) _ _ (omega (arith, fuel-depth most frame.turns c new l.depth))
      (l.does bs stand ((frame.turns + c.depth) * most) s.ground.maps w frame values (λ p. and_then (t w p.0 p.1) (λ a. k (Next, fr p.0 p.1 a)))
      (λ p long turns. Runs-push bs c i _ (seen_by s.ground.maps w) (state p.1 (values ++ p.0)) (t w p.0 p.1) (λ a. state (fr p.0 p.1 a) values) (λ a. k (Next, fr p.0 p.1 a))
      (ac.runs s inside fits w same p.1 values p.0 long)
      (λ a. let kept : (fr p.0 p.1 a).turns ≡ frame.turns = ac.turns p.0 p.1 a ∙ turns in
      Runs-more bs c _ _ (seen_by s.ground.maps w) _ _ (omega (arith, fuel-turns most (fr p.0 p.1 a).turns frame.turns c kept)) (f.next (fr p.0 p.1 a) (omega arith))))));
  sound = λ bs stand s inside fits room ways o.
      let f = named s inside fits in
      let a : n.frame ≤ max n.frame (sizes_of ss + instr_bytes i) = le-max_left n.frame (sizes_of ss + instr_bytes i) in
      let b : sizes_of ss + instr_bytes i ≤ max n.frame (sizes_of ss + instr_bytes i) = le-max_right n.frame (sizes_of ss + instr_bytes i) in
      let z : sizes_of (c.stack ++ ss) ≡ sizes_of c.stack + sizes_of ss = sizes-append c.stack ss in
      let y : sizes_of (c.stack ++ operand_shapes i) ≡ sizes_of (c.stack ++ ss) = ap (λ x. sizes_of (c.stack ++ x)) ac.takes_them in
      l.sound bs stand s f.1 c.stack stacked (Room-less s.ground _ _ (omega arith) room) (Opens-push s.ground bs c i c.stack ends f.0 (omega (arith, ac.reads_none)) (Room-less s.ground _ _ (omega arith) room) o);
}
  where
    l : LowersParts ps ds ss n (pushed i c) new
    l = subst (λ x. LowersParts ps ds ss n x new) e1 l1

    ends : c.stack ≡ c.stack ++ gives i
    ends = sym (append-nil c.stack) ∙ ap (λ x. c.stack ++ x) (sym ac.gives_none)

    stacked : (pushed i c).stack ≡ c.stack ++ ss
    stacked = pushed-stack c i c.stack ends ∙ ap (λ x. c.stack ++ x) ac.takes_them

-- ---- statements that go elsewhere

abbrev Goes : (flow : Flow) (qs : Bool → List TreePart) (x : Exit) (n : Need) (way : Ways) (c : Code) → Type 0
Goes flow qs x n way c = LowersStmt qs (given flow) n way c (begun x [] c)

Lowers-goes : (flow : Flow) (qs : Bool → List TreePart) (x : Exit) (n : Need) (way : Ways) (c : Code) → code_slots (begun x [] c) ≤ code_slots c + n.code →
    ((bs : List Block) (most : ℕ) (scene : Scene) (frame : Frame) (values : List Value) (k : (Flow × Frame) → Interaction Ending) → Follows bs way c most scene frame.turns values k → Runs bs (begun x [] c) (fuel most c frame.turns) scene (state frame values) (k (flow, frame))) →
    ((bs : List Block) (t : Site) → HasRoom t.ground (sizes_of c.stack) → WaysStand bs way.leave way.again c → Opens t.ground bs (begun x [] c)) → Goes flow qs x n way c
unfolding given
Lowers-goes flow qs x n way c slots h o = record {
  grew = Grew-refl c.blocks;
  depth = refl;
  slots = slots;
  stack = append-nil c.stack;
  does = λ bs stand most le t inside fits w same frame values k f. h bs most (seen_by t.ground.maps w) frame values k f;
  sound = λ bs stand t inside fits room ways op. (o bs t (Room-less t.ground _ _ (omega arith) room) ways, Sound-none t.ground bs (length c.blocks));
}

none-room : (t : Site) (c : Code) → HasRoom t.ground (sizes_of c.stack) → HasRoom t.ground (sizes_of (c.stack ++ []))
none-room t c r = subst (λ (l : List Shape). HasRoom t.ground (sizes_of l)) (sym (append-nil c.stack)) r

none-target : (bs : List Block) (c : Code) (to : ℕ) → Target bs (length c.blocks) c.depth c.stack to → Target bs (length c.blocks) c.depth (c.stack ++ []) to
none-target bs c to t = subst (λ (l : List Shape). Target bs (length c.blocks) c.depth l to) (sym (append-nil c.stack)) t

pub Lowers-break : (qs : Bool → List TreePart) (way : Ways) (c new : Code) → new ≡ begun (Goto way.leave) [] c → LowersStmt qs (given Break) (need 0 4) way c new
Lowers-break qs way c new e = subst (λ x. LowersStmt qs (given Break) (need 0 4) way c x) (sym e)
    (Lowers-goes Break qs (Goto way.leave) (need 0 4) way c (omega (arith, slots-begun (Goto way.leave) [] c))
    (λ bs most scene frame values k f. Runs-goto bs c way.leave _ [] scene _ _ (f.leave frame (omega arith)))
    (λ bs t room ways. Opens-goto t.ground bs c [] way.leave (none-room t c room) (none-target bs c way.leave ways.leaves)))

pub Lowers-continue : (qs : Bool → List TreePart) (way : Ways) (c new : Code) → new ≡ begun (Goto way.again) [] c → LowersStmt qs (given Continue) (need 0 4) way c new
Lowers-continue qs way c new e = subst (λ x. LowersStmt qs (given Continue) (need 0 4) way c x) (sym e)
    (Lowers-goes Continue qs (Goto way.again) (need 0 4) way c (omega (arith, slots-begun (Goto way.again) [] c))
    (λ bs most scene frame values k f. Runs-goto bs c way.again _ [] scene _ _ (f.again frame (omega arith)))
    (λ bs t room ways. Opens-goto t.ground bs c [] way.again (none-room t c room) (none-target bs c way.again ways.goes_on)))

Opens-end : (bs : List Block) (t : Site) (c : Code) (ending : Ending) → HasRoom t.ground (sizes_of c.stack) → Opens t.ground bs (begun (End ending) [] c)
Opens-end bs t c ending room = record { after = c.stack ++ []; turns = (refl, none-room t c room); leads = tt }

pub Lowers-return : (qs : Bool → List TreePart) (way : Ways) (c new : Code) → new ≡ begun (End Return) [] c → LowersStmt qs (given (Stop Return)) (need 0 4) way c new
Lowers-return qs way c new e = subst (λ x. LowersStmt qs (given (Stop Return)) (need 0 4) way c x) (sym e)
    (Lowers-goes (Stop Return) qs (End Return) (need 0 4) way c (omega (arith, slots-begun (End Return) [] c))
    (λ bs most scene frame values k f. record { by = λ m h. sym (f.stop Return frame) })
    (λ bs t room ways. Opens-end bs t c Return room))

pub Lowers-exit : (qs : Bool → List TreePart) (way : Ways) (c c1 new : Code) → c1 ≡ begun (End Exited) [] c → new ≡ pushed i.Stop c1 → LowersStmt qs (jump_to jumps.Exit) (need 0 12) way c new
unfolding given bind lifted
Lowers-exit qs way c c1 new e1 e =
    subst (λ x. LowersStmt qs (jump_to jumps.Exit) (need 0 12) way c x) (sym (e ∙ ap (pushed i.Stop) e1)) (record {
      grew = Grew-refl c.blocks;
      depth = refl;
      slots = omega (arith, slots-pushed i.Stop (begun (End Exited) [] c), slots-begun (End Exited) [] c);
      stack = pushed-stack (begun (End Exited) [] c) i.Stop c.stack refl ∙ append-nil c.stack;
      does = λ bs stand most le t inside fits w same frame values k f.
          Runs-push bs (begun (End Exited) [] c) i.Stop _ (seen_by t.ground.maps w) (state frame values) (tells Clock ops.Stop) (λ u. state frame values) (λ u. k (Stop Exited, frame)) refl
          (λ u. record { by = λ m h. sym (f.stop Exited frame) });
      sound = λ bs stand t inside fits room ways o.
          (Opens-push t.ground bs (begun (End Exited) [] c) i.Stop c.stack refl refl (none-read t.ground.payload) (Room-less t.ground _ _ (omega (arith, ap sizes_of (append-nil c.stack))) room) (Opens-end bs t c Exited (Room-less t.ground _ _ (omega arith) room)), Sound-none t.ground bs (length c.blocks));
    })

-- ---- statements one after another

pub Lowers-none : (qs : Bool → List TreePart) (way : Ways) (c : Code) → LowersStmt qs (in_sequence []) (need 0 0) way c c
unfolding given
Lowers-none qs way c = record {
  grew = Grew-refl c.blocks;
  depth = refl;
  slots = omega arith;
  stack = refl;
  does = λ bs stand most le t inside fits w same frame values k f. f.next frame (omega arith);
  sound = λ bs stand t inside fits room ways o. (o, Sound-none t.ground bs (length c.blocks));
}

pub WaysStand-on : (bs : List Block) (leave again : ℕ) (c d : Code) → d.depth ≡ c.depth → d.stack ≡ c.stack → length c.blocks ≤ length d.blocks → WaysStand bs leave again c → WaysStand bs leave again d
WaysStand-on bs leave again c d ed es le w = record { leaves = move leave w.leaves; goes_on = move again w.goes_on }
  where
    move : (to : ℕ) → Target bs (length c.blocks) c.depth c.stack to → Target bs (length d.blocks) d.depth d.stack to
    move to t = subst (λ (l : List Shape). Target bs (length d.blocks) d.depth l to) (sym es) (subst (λ (m : ℕ). Target bs (length d.blocks) m c.stack to) (sym ed) (Target-later bs _ _ c.depth to c.stack le t))

pub Lowers-then : (ps qs rs : Bool → List TreePart) (d : Does Flow) (ds : List (Does Flow)) (n m : Need) (way : Ways) (c c1 new : Code) →
    ((s : Scope) (inside : Bool) → all_fit s (rs inside) ≡ true → (all_fit s (ps inside) ≡ true) × (all_fit s (qs inside) ≡ true)) →
    LowersStmt qs (in_sequence ds) m way c c1 → LowersStmt ps d n way c1 new → LowersStmt rs (in_sequence (d ∷ ds)) (greater n m) way c new
unfolding bind given
Lowers-then ps qs rs d ds n m way c c1 new fit lg lf = record {
  grew = Grew-trans _ _ _ lg.grew lf.grew;
  depth = lf.depth ∙ lg.depth;
  slots = omega (arith, lg.slots, lf.slots);
  stack = lf.stack ∙ lg.stack;
  does = λ bs stand most le t inside fits w same frame values k fo.
      let f = fit t.scope inside fits in
      let wider : (turns : ℕ) → fuel most c turns ≤ fuel most c1 turns = λ turns. omega (arith, fuel-depth most turns c c1 lg.depth, Grew-length _ _ lg.grew) in
      Runs-is bs new _ (seen_by t.ground.maps w) _ _ _ (sym (and_then_assoc (d w frame) (λ x. if_next x.0 (in_sequence ds) w x.1) k))
      (lf.does bs (Stand-later _ _ _ _ (Grew-length _ _ lg.grew) stand) most le t inside f.0 w same frame values (λ x. and_then (if_next x.0 (in_sequence ds) w x.1) k) (record {
        next = λ st h. lg.does bs (Stand-before _ _ _ _ lf.grew stand) most (omega (arith, Grew-length _ _ lf.grew)) t inside f.1 w same st values k (Follows-less bs way c most (seen_by t.ground.maps w) frame.turns st.turns values k h fo);
        leave = λ st h. Reaches-more bs _ _ _ (seen_by t.ground.maps w) _ _ (wider st.turns) (fo.leave st h);
        again = λ st h. Reaches-more bs _ _ _ (seen_by t.ground.maps w) _ _ (wider st.turns) (fo.again st h);
        stop = λ e st. fo.stop e st;
      }));
  sound = λ bs stand t inside fits room ways o.
      let f = fit t.scope inside fits in
      let a : n.frame ≤ max n.frame m.frame = le-max_left n.frame m.frame in
      let b : m.frame ≤ max n.frame m.frame = le-max_right n.frame m.frame in
      let p = lg.sound bs (Stand-before _ _ _ _ lf.grew stand) t inside f.1 (Room-less t.ground _ _ (omega arith) room) ways o in
      let q = lf.sound bs (Stand-later _ _ _ _ (Grew-length _ _ lg.grew) stand) t inside f.0 (Room-less t.ground _ _ (omega (arith, ap sizes_of lg.stack)) room) (WaysStand-on bs way.leave way.again c c1 lg.depth lg.stack (Grew-length _ _ lg.grew) ways) p.0 in
      (q.0, Sound-join t.ground bs (length c.blocks) (length c1.blocks) (length new.blocks) p.1 q.1);
}

-- ---- a block of its own

pub Lowers-into : (ps : Bool → List TreePart) (d : Does Flow) (n : Need) (after : ℕ) (way : Ways) (c c0 c1 new : Code) (b : ℕ) → c0 ≡ begun (Goto after) [] c → LowersStmt ps d n way c0 c1 → new ≡ closed c1 → b ≡ length c1.blocks → LowersBlock ps d n after way c new b
Lowers-into ps d n after way c c0 c1 new b e0 l0 en eb =
    let l = subst (λ x. LowersStmt ps d n way x c1) e0 l0 in
    let same : c1.stack ≡ c.stack = l.stack ∙ append-nil c.stack in
    let block : LowersBlock ps d n after way c (closed c1) (length c1.blocks) = record {
      grew = Grew-trans _ _ _ l.grew (Grew-one c1.blocks (open_block c1));
      depth = l.depth;
      slots = omega (arith, slots-begun (Goto after) [] c, l.slots, slots-closed c1);
      stack = same;
      does = λ bs stand most le t inside fits w maps frame values k kn kl ka ks.
          Reaches-more bs _ _ _ (seen_by t.ground.maps w) _ _ (omega (arith, closed-length c1))
          (Reaches-close bs c1 (fuel most c1 frame.turns) (seen_by t.ground.maps w) (state frame values) (and_then (d w frame) k) (Stand-later _ _ _ _ (Grew-length _ _ l.grew) stand)
          (l.does bs (Stand-before _ _ _ _ (Grew-one c1.blocks (open_block c1)) stand) most (omega (arith, closed-length c1)) t inside fits w maps frame values k
          (record { next = λ st h. Runs-goto bs c after _ [] (seen_by t.ground.maps w) _ _ (kn st h); leave = kl; again = ka; stop = ks })));
      sound = λ bs stand t inside fits room ways target.
          let r0 : HasRoom t.ground (sizes_of (c.stack ++ []) + n.frame) = Room-less t.ground _ _ (omega (arith, ap sizes_of (append-nil c.stack))) room in
          let ways0 : WaysStand bs way.leave way.again (begun (Goto after) [] c) = WaysStand-on bs way.leave way.again c (begun (Goto after) [] c) refl (append-nil c.stack) (omega arith) ways in
          let p = l.sound bs (Stand-before _ _ _ _ (Grew-one c1.blocks (open_block c1)) stand) t inside fits r0 ways0
          (Opens-goto t.ground bs c [] after (none-room t c (Room-less t.ground _ _ (omega arith) room)) (none-target bs c after target)) in
          let s = Sound-close t.ground bs c1 (Stand-later _ _ _ _ (Grew-length _ _ l.grew) stand) p.0 in (
            subst (λ (x : List Shape). Target bs (length (closed c1).blocks) c.depth x (length c1.blocks)) same
                (Target-close bs c1 (length (closed c1).blocks) c.depth (Stand-later _ _ _ _ (Grew-length _ _ l.grew) stand) (omega (arith, closed-length c1)) (omega (arith, l.depth))),
            Sound-join t.ground bs (length c.blocks) (length c1.blocks) (length (closed c1).blocks) p.1 s,
          );
    } in
    subst (λ x. LowersBlock ps d n after way c new x) (sym eb) (subst (λ x. LowersBlock ps d n after way c x (length c1.blocks)) (sym en) block)
