-- Lowering of expressions, construct by construct.
use Rattle.std.proofs.Common.{◌≡◌, ◌+◌, ◌≤◌, List, [], ◌∷◌, ◌++◌, length, refl, sym, ap, ◌∙◌, subst, arith, append_assoc, append-nil, length-append, true}
use Rattle.std.specs.Prelude.{max}
use Rattle.std.proofs.Math.Nat.{le-max_left, le-max_right}
use Rattle.bt_core.specs.declared.map.MapDecl.{MapDecl}
use Rattle.bt_core.specs.declared.map.Shape.{Shape}
use Rattle.bt_core.specs.declared.value.Value.{Value}
use Rattle.bt_core.specs.Interaction.{Interaction, Ended, and_then}
use Rattle.bt_core.proofs.InteractionLaws.{and_then_assoc}
use Rattle.typed_tree.specs.Parts.{TreePart}
use Rattle.typed_tree.specs.Scope.{Scope, all_fit}
use Rattle.walk_meaning.specs.declared.flow.Frame.{Frame}
use Rattle.walk_meaning.specs.Does.{Does, given, bind, gathered, in_order}
use Rattle.walk_meaning.specs.Does.{BodyScene}
use Rattle.ir_code.specs.declared.instr.Instr.{Instr}
use Rattle.ir_code.specs.Figures.{sizes_of, instr_slots, instr_bytes}
use Rattle.ir_code.specs.Meaning.{instr_run}
use Rattle.ir_code.specs.Serving.{end_read}
use Rattle.ir_code.specs.Typing.{operand_shapes, gives, names}
use Rattle.bt_lower.specs.declared.code.Code.{Code}
use Rattle.bt_lower.specs.Code.{pushed}
use Rattle.bt_lower.specs.Lowers.{Runs, state, seen_by, LowersParts, LowersValue}
use Rattle.bt_lower.specs.Needs.{Need, need}
use Rattle.bt_lower.specs.Sound.{ground_in, Site}
use Rattle.bt_lower.proofs.Blocks.{and_then-same, Grew-refl, Grew-trans, Grew-length, Stand-later, Stand-before, Runs-is, Runs-push}
use Rattle.bt_lower.proofs.Lists.{sizes-append, fit-parts}
use Rattle.bt_lower.proofs.Opening.{Room-less, Sound-none, Sound-join, Opens-push, pushed-stack}
use Rattle.bt_lower.proofs.Slots.{slots-pushed}

-- ---- one after another

gathered-append : (vs : List Value) (ds es : List (Does Value)) (w : BodyScene) (frame : Frame) → gathered vs (ds ++ es) w frame ≡ and_then (gathered vs ds w frame) (λ p. gathered p.0 es w p.1)
unfolding given bind
gathered-append vs [] es w frame = refl
gathered-append vs (d ∷ ds) es w frame =
    and_then-same (d w frame) _ _ (λ p. gathered-append (vs ++ p.0 ∷ []) ds es w p.1)
    ∙ sym (and_then_assoc (d w frame) (λ p. gathered (vs ++ p.0 ∷ []) ds w p.1) (λ p. gathered p.0 es w p.1))

gathered-behind : (vs us : List Value) (es : List (Does Value)) (w : BodyScene) (frame : Frame) → gathered (vs ++ us) es w frame ≡ and_then (gathered us es w frame) (λ q. Ended (vs ++ q.0, q.1))
unfolding given bind
gathered-behind vs us [] w frame = refl
gathered-behind vs us (e ∷ es) w frame =
    and_then-same (e w frame) _ _ (λ p. ap (λ l. gathered l es w p.1) (append_assoc vs us (p.0 ∷ [])) ∙ gathered-behind vs (us ++ p.0 ∷ []) es w p.1)
    ∙ sym (and_then_assoc (e w frame) (λ p. gathered (us ++ p.0 ∷ []) es w p.1) (λ q. Ended (vs ++ q.0, q.1)))

pub in_order-append : {B : Type 0} (ds es : List (Does Value)) (w : BodyScene) (frame : Frame) (k : (List Value × Frame) → Interaction B) → and_then (in_order (ds ++ es) w frame) k ≡ and_then (in_order ds w frame) (λ p. and_then (in_order es w p.1) (λ q. k (p.0 ++ q.0, q.1)))
in_order-append ds es w frame k =
    ap (λ t. and_then t k) (gathered-append [] ds es w frame)
    ∙ and_then_assoc (in_order ds w frame) (λ p. gathered p.0 es w p.1) k
    ∙ and_then-same (in_order ds w frame) _ _ (λ p.
    ap (λ t. and_then t k) (ap (λ l. gathered l es w p.1) (sym (append-nil p.0)) ∙ gathered-behind p.0 [] es w p.1)
    ∙ and_then_assoc (in_order es w p.1) (λ q. Ended (p.0 ++ q.0, q.1)) k)

pub in_order-one : {B : Type 0} (d : Does Value) (w : BodyScene) (frame : Frame) (k : (List Value × Frame) → Interaction B) → and_then (in_order (d ∷ []) w frame) k ≡ and_then (d w frame) (λ p. k (p.0 ∷ [], p.1))
unfolding given bind
in_order-one d w frame k = and_then_assoc (d w frame) (λ p. Ended (p.0 ∷ [], p.1)) k

-- ---- parts

pub Parts-none : (c : Code) → LowersParts [] [] [] (need 0 0) c c
unfolding given
Parts-none c = record {
  grew = Grew-refl c.blocks;
  depth = refl;
  slots = omega arith;
  sizes = omega arith;
  stack = λ rest e. e ∙ append-nil rest;
  does = λ bs stand base maps w frame values k h. subst (λ (l : List Value). Runs bs c (base + length c.blocks) (seen_by maps w) (state frame l) (k ([], frame))) (append-nil values) (h ([], frame) refl refl);
  sound = λ bs stand t fits rest e room o. (o, Sound-none t.ground bs (length c.blocks));
}

pub Parts-less : (parts : List TreePart) (ds : List (Does Value)) (shapes : List Shape) (n m : Need) (old new : Code) → n.frame ≤ m.frame → n.code ≤ m.code → LowersParts parts ds shapes n old new → LowersParts parts ds shapes m old new
Parts-less parts ds shapes n m old new hf hc l = record {
  grew = l.grew;
  depth = l.depth;
  slots = omega (arith, l.slots);
  sizes = omega (arith, l.sizes);
  stack = l.stack;
  does = l.does;
  sound = λ bs stand t fits rest e room o. l.sound bs stand t fits rest e (Room-less t.ground _ _ (omega arith) room) o;
}

pub Parts-fit : (ps qs : List TreePart) (ds : List (Does Value)) (shapes : List Shape) (n : Need) (old new : Code) → ((s : Scope) → all_fit s qs ≡ true → all_fit s ps ≡ true) → LowersParts ps ds shapes n old new → LowersParts qs ds shapes n old new
Parts-fit ps qs ds shapes n old new f l = record {
  grew = l.grew;
  depth = l.depth;
  slots = l.slots;
  sizes = l.sizes;
  stack = l.stack;
  does = l.does;
  sound = λ bs stand t fits rest e room o. l.sound bs stand t (f t.scope fits) rest e room o;
}

pub Parts-append : (ps qs : List TreePart) (ds es : List (Does Value)) (ss ts : List Shape) (n m : Need) (c c1 new : Code) → LowersParts qs es ts m c c1 → LowersParts ps ds ss n c1 new →
    LowersParts (ps ++ qs) (ds ++ es) (ss ++ ts) (need (max n.frame (sizes_of ss + m.frame)) (n.code + m.code)) c new
Parts-append ps qs ds es ss ts n m c c1 new le ld = record {
  grew = Grew-trans _ _ _ le.grew ld.grew;
  depth = ld.depth ∙ le.depth;
  slots = omega (arith, le.slots, ld.slots);
  sizes = omega (arith, le.sizes, sizes-append ss ts, le-max_right n.frame (sizes_of ss + m.frame));
  stack = λ rest e. ld.stack rest (le.stack (rest ++ ss) (e ∙ sym (append_assoc rest ss ts)));
  does = λ bs stand base maps w frame values k h.
      Runs-is bs new _ (seen_by maps w) _ _ _ (sym (in_order-append ds es w frame k))
      (ld.does bs (Stand-later _ _ _ _ (Grew-length _ _ le.grew) stand) base maps w frame values (λ p. and_then (in_order es w p.1) (λ q. k (p.0 ++ q.0, q.1)))
      (λ p long turns. le.does bs (Stand-before _ _ _ _ ld.grew stand) base maps w p.1 (values ++ p.0) (λ q. k (p.0 ++ q.0, q.1))
      (λ q long2 turns2. subst (λ (l : List Value). Runs bs c (base + length c.blocks) (seen_by maps w) (state q.1 l) (k (p.0 ++ q.0, q.1))) (sym (append_assoc values p.0 q.0))
      (h (p.0 ++ q.0, q.1) (omega (arith, length-append p.0 q.0, length-append ss ts, long, long2)) (turns2 ∙ turns)))));
  sound = λ bs stand t fits rest e room o.
      let f = fit-parts t.scope ps qs fits in
      let s : sizes_of (rest ++ ss) ≡ sizes_of rest + sizes_of ss = sizes-append rest ss in
      let a : n.frame ≤ max n.frame (sizes_of ss + m.frame) = le-max_left n.frame (sizes_of ss + m.frame) in
      let b : sizes_of ss + m.frame ≤ max n.frame (sizes_of ss + m.frame) = le-max_right n.frame (sizes_of ss + m.frame) in
      let e1 : c.stack ≡ (rest ++ ss) ++ ts = e ∙ sym (append_assoc rest ss ts) in
      let p = le.sound bs (Stand-before _ _ _ _ ld.grew stand) t f.1 (rest ++ ss) e1 (Room-less t.ground _ _ (omega arith) room) o in
      let q = ld.sound bs (Stand-later _ _ _ _ (Grew-length _ _ le.grew) stand) t f.0 rest (le.stack (rest ++ ss) e1) (Room-less t.ground _ _ (omega arith) room) p.0 in
      (q.0, Sound-join t.ground bs (length c.blocks) (length c1.blocks) (length new.blocks) p.1 q.1);
}

-- ---- an instruction behind its operands

-- what an instruction does with values that are there: it asks, and puts a value, and the frame is another
pub record Puts (i : Instr) (ds : List (Does Value)) (ss : List Shape) (shape : Shape) (d : Does Value) {A : Type 0} (t : BodyScene → List Value → Frame → Interaction A) (v : BodyScene → List Value → Frame → A → Value) (fr : List Value → Frame → A → Frame) : Type 0 where
  pub takes_them : operand_shapes i ≡ ss
  pub gives_one : gives i ≡ shape ∷ []
  pub fits : sizes_of (shape ∷ []) ≤ sizes_of ss + instr_bytes i
  pub is : (w : BodyScene) (frame : Frame) → d w frame ≡ and_then (in_order ds w frame) (λ p. and_then (t w p.0 p.1) (λ a. Ended (v w p.0 p.1 a, fr p.0 p.1 a)))
  pub runs : (maps : List MapDecl) (w : BodyScene) (frame : Frame) (values vs : List Value) → length vs ≡ length ss →
      instr_run i (seen_by maps w) (state frame (values ++ vs)) ≡ and_then (t w vs frame) (λ a. Ended (state (fr vs frame a) (values ++ v w vs frame a ∷ [])))
  pub turns : (vs : List Value) (frame : Frame) (a : A) → (fr vs frame a).turns ≡ frame.turns

pub Parts-put : {A : Type 0} (i : Instr) (ps : List TreePart) (head : TreePart) (ds : List (Does Value)) (ss : List Shape) (shape : Shape) (d : Does Value) (t : BodyScene → List Value → Frame → Interaction A) (v : BodyScene → List Value → Frame → A → Value) (fr : List Value → Frame → A → Frame) (n : Need) (c c1 new : Code) →
    Puts i ds ss shape d t v fr → ((s : Site) → all_fit s.scope (head ∷ ps) ≡ true → (names (ground_in s.ground) i ≡ true) × (all_fit s.scope ps ≡ true)) → ((s : Site) → all_fit s.scope (head ∷ ps) ≡ true → end_read i ≤ s.ground.payload) → c1 ≡ pushed i c → LowersParts ps ds ss n c1 new →
    LowersValue (head ∷ ps) d shape (need (max n.frame (sizes_of ss + instr_bytes i)) (instr_slots i + n.code)) c new
Parts-put i ps head ds ss shape d t v fr n c c1 new pu named reads e1 l1 =
    let l = subst (λ x. LowersParts ps ds ss n x new) e1 l1 in
    let stacked : (rest : List Shape) → c.stack ≡ rest ++ shape ∷ [] → (pushed i c).stack ≡ rest ++ ss =
    λ rest e. pushed-stack c i rest (e ∙ ap (λ x. rest ++ x) (sym pu.gives_one)) ∙ ap (λ x. rest ++ x) pu.takes_them in
    record {
      grew = l.grew;
      depth = l.depth;
      slots = omega (arith, slots-pushed i c, l.slots);
      sizes = omega (arith, pu.fits, le-max_right n.frame (sizes_of ss + instr_bytes i));
      stack = λ rest e. l.stack rest (stacked rest e);
      does = λ bs stand base maps w frame values k h.
          Runs-is bs new _ (seen_by maps w) _ _ _
          (sym (in_order-one d w frame k ∙ ap (λ x. and_then x (λ p. k (p.0 ∷ [], p.1))) (pu.is w frame)
          ∙ and_then_assoc (in_order ds w frame) (λ p. and_then (t w p.0 p.1) (λ a. Ended (v w p.0 p.1 a, fr p.0 p.1 a))) (λ p. k (p.0 ∷ [], p.1))
          ∙ and_then-same (in_order ds w frame) _ _ (λ p. and_then_assoc (t w p.0 p.1) (λ a. Ended (v w p.0 p.1 a, fr p.0 p.1 a)) (λ p. k (p.0 ∷ [], p.1)))))
          (l.does bs stand base maps w frame values (λ p. and_then (t w p.0 p.1) (λ a. k (v w p.0 p.1 a ∷ [], fr p.0 p.1 a)))
          (λ p long turns. Runs-push bs c i _ (seen_by maps w) (state p.1 (values ++ p.0)) (t w p.0 p.1) (λ a. state (fr p.0 p.1 a) (values ++ v w p.0 p.1 a ∷ [])) (λ a. k (v w p.0 p.1 a ∷ [], fr p.0 p.1 a))
          (pu.runs maps w p.1 values p.0 long)
          (λ a. h (v w p.0 p.1 a ∷ [], fr p.0 p.1 a) refl (pu.turns p.0 p.1 a ∙ turns))));
      sound = λ bs stand s fits rest e room o.
          let f = named s fits in
          let a : n.frame ≤ max n.frame (sizes_of ss + instr_bytes i) = le-max_left n.frame (sizes_of ss + instr_bytes i) in
          let b : sizes_of ss + instr_bytes i ≤ max n.frame (sizes_of ss + instr_bytes i) = le-max_right n.frame (sizes_of ss + instr_bytes i) in
          let z : sizes_of (rest ++ ss) ≡ sizes_of rest + sizes_of ss = sizes-append rest ss in
          let y : sizes_of (rest ++ operand_shapes i) ≡ sizes_of (rest ++ ss) = ap (λ x. sizes_of (rest ++ x)) pu.takes_them in
          l.sound bs stand s f.1 rest (stacked rest e) (Room-less s.ground _ _ (omega arith) room)
          (Opens-push s.ground bs c i rest (e ∙ ap (λ x. rest ++ x) (sym pu.gives_one)) f.0 (reads s fits) (Room-less s.ground _ _ (omega arith) room) o);
    }
