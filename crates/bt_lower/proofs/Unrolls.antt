-- Lowering of `unroll`: how many turns are left is the value at the end of the stack, up to the block that leaves the loop.
use Rattle.std.proofs.Common.{◌≡◌, ℕ, zero, suc, ◌+◌, ◌-◌, ◌*◌, ◌≤◌, List, [], ◌∷◌, ◌++◌, length, refl, sym, ap, ◌∙◌, subst, arith, append-nil, Bool, true, Some, length-append, length-set}
use Rattle.std.specs.Prelude.{pos, slice_get, slice_set}
use Rattle.bt_core.specs.declared.ending.Ending.{Ending}
use Rattle.bt_core.specs.declared.ending.Ending.TheVariants.{Cut as AtCut}
use Rattle.bt_core.specs.declared.map.Shape.{Shape}
use Rattle.bt_core.specs.declared.map.Shape.TheVariants as shapes
use Rattle.bt_core.specs.declared.value.Value.{Value}
use Rattle.bt_core.specs.declared.value.Value.TheVariants.{Int}
use Rattle.bt_core.specs.Interaction.{Interaction, Ended, and_then}
use Rattle.typed_tree.specs.Parts.{TreePart}
use Rattle.typed_tree.specs.Scope.{Scope, all_fit}
use Rattle.walk_meaning.specs.declared.flow.Flow.{Flow}
use Rattle.walk_meaning.specs.declared.flow.Flow.TheVariants.{Next, Stop}
use Rattle.walk_meaning.specs.declared.flow.Frame.{Frame}
use Rattle.walk_meaning.specs.Does.{Does, given}
use Rattle.walk_meaning.specs.Does.{BodyScene}
use Rattle.walk_meaning.specs.Stmts.{turns}
use Rattle.ir_code.specs.declared.blocks.Block.{Block}
use Rattle.ir_code.specs.declared.blocks.Exit.TheVariants.{Count, End}
use Rattle.ir_code.specs.declared.instr.Instr.TheVariants as i
use Rattle.ir_code.specs.declared.state.State.{State}
use Rattle.ir_code.specs.Figures.{sizes_of, blocks_slots}
use Rattle.ir_code.specs.Meaning.{Scene, run_from, exit_run, goes_on, count_way, counted}
use Rattle.ir_code.specs.Typing.{stack_in}
use Rattle.map_ops.specs.Values.{number_of}
use Rattle.ir_code.specs.Stacks.{below}
use Rattle.ir_code.specs.Ways.{depth_in}
use Rattle.bt_lower.specs.declared.code.Code.{Code}
use Rattle.bt_lower.specs.declared.code.Ways.{Ways}
use Rattle.bt_lower.specs.Code.{pushed, begun, closed, open_block, reserved, placeholder, gated, patched, turn_end, with_cut, code_slots}
use Rattle.bt_lower.specs.Lowers.{Stand, Grew, Runs, Reaches, state, seen_by, fuel, Follows, LowersBlock, LowersStmt}
use Rattle.bt_lower.specs.Needs.{Need, need}
use Rattle.bt_lower.specs.Sound.{Site, HasRoom, Opens, Sound, Target, Back}
use Rattle.bt_lower.proofs.Blocks.{Grew-trans, Grew-one, Grew-length, Stand-later, Runs-push, Reaches-close, Reaches-more, closed-length, here-closed}
use Rattle.bt_lower.proofs.Lists.{top-append, below-append, sizes-append}
use Rattle.bt_lower.proofs.Loops.{over, stands1, stands2, stands4, stands6, here, g09, loop_turn, some-below, set-slots, Sound-end}
use Rattle.bt_lower.proofs.Opening.{Room-less, Sound-join, Sound-close, Target-close, Opens-push, none-read, pushed-stack}
use Rattle.bt_lower.proofs.Patches.{Grew-set}
use Rattle.bt_lower.proofs.Slots.{slots-pushed, slots-closed, slots-begun, slots-reserved, slots-gated}
use Rattle.bt_lower.proofs.Whiles.{cut-stack, cut-slots, cut-sound, cut-target, placed}

-- where a count leads, with this value at the end of the stack
count-way : (go : ℕ → State → Interaction Ending) (block leave : ℕ) (frame : Frame) (values : List Value) (v : Value) →
    exit_run go (Count block leave) (state frame (values ++ v ∷ [])) ≡ goes_on go (count_way block leave (number_of v)) (state frame (values ++ Int (counted (number_of v)) ∷ []))
count-way go block leave frame values v =
    ap (λ (x : Value). goes_on go (count_way block leave (number_of x)) (state frame (below (values ++ v ∷ []) ++ Int (counted (number_of x)) ∷ []))) (top-append values v)
    ∙ ap (λ (l : List Value). goes_on go (count_way block leave (number_of v)) (state frame (l ++ Int (counted (number_of v)) ∷ []))) (below-append values v)

-- what is open lets the value at the end of the stack go
Runs-pop : (bs : List Block) (c : Code) (n : ℕ) (scene : Scene) (frame : Frame) (values : List Value) (v : Value) (u : Interaction Ending) → Runs bs c n scene (state frame values) u → Runs bs (pushed i.Pop c) n scene (state frame (values ++ v ∷ [])) u
Runs-pop bs c n scene frame values v u r =
    Runs-push bs c i.Pop n scene (state frame (values ++ v ∷ [])) (Ended (tt {0})) (λ x. state frame values) (λ x. u)
    (ap (λ (l : List Value). Ended (state frame l)) (below-append values v)) (λ x. r)

-- what stands at the head: `c` lets the count go and does what follows the loop, `c4` has the loop's block
abbrev pub counting : ℕ → ℕ → Code → Code → Code
counting line block c c4 = begun (Count (length c4.blocks) (length c.blocks)) [] (closed (gated block (length (closed c).blocks) c4))

module _ (ps : Bool → List TreePart) (body : Does Flow) (n : Need) (line block : ℕ) (c c4 : Code)
    (lb : LowersBlock ps body n (length (with_cut line (closed c)).blocks) (record { leave = length c.blocks; again = length (with_cut line (closed c)).blocks }) (reserved (with_cut line (closed c))) c4 block) where
  pub grown9 : Grew (closed (gated block (length (closed c).blocks) c4)).blocks (closed (counting line block c c4)).blocks
  grown9 = Grew-one (closed (gated block (length (closed c).blocks) c4)).blocks (open_block (counting line block c c4))

  pub len36 : length (reserved (with_cut line (closed c))).blocks ≤ length (counting line block c c4).blocks
  len36 = omega (arith, Grew-length _ _ lb.grew, closed-length (gated block (length (closed c).blocks) c4))

  module _ (bs : List Block) (stand : Stand (length c.blocks) (slice_set (closed (counting line block c c4)).blocks (length (with_cut line (closed c)).blocks) (turn_end (length (counting line block c c4).blocks) (closed (counting line block c c4)))) bs) where
    pub st9 : Stand (length (counting line block c c4).blocks) (closed (counting line block c c4)).blocks bs
    st9 = Stand-later _ _ _ _ len36 (over ps body n line block (length (counting line block c c4).blocks) c c4 (closed (counting line block c c4)) lb grown9 bs stand)

    module _ (most : ℕ) (wide : length (closed (counting line block c c4)).blocks ≤ most) (t : Site) (inside : Bool) (fit : all_fit t.scope (ps inside) ≡ true) (w : BodyScene) (same : w.maps ≡ t.scope.maps) (values : List Value) (k : (Flow × Frame) → Interaction Ending) (stops : (e : Ending) (st : Frame) → k (Stop e, st) ≡ Ended e)
        (turns_at : ℕ) (left_does : (v : Value) (st : Frame) → st.turns ≤ turns_at → Reaches bs (length c.blocks) ((st.turns + c.depth) * most + length c.blocks + 1) (seen_by t.ground.maps w) (state st (values ++ v ∷ [])) (k (Next, st))) where
      -- by induction on the turns that are left
      pub turns_reach : (m : ℕ) (st : Frame) → st.turns ≤ turns_at → Reaches bs (length (counting line block c c4).blocks) ((st.turns + c.depth) * most + length (closed (counting line block c c4)).blocks) (seen_by t.ground.maps w) (state st (values ++ Int (pos m) ∷ [])) (and_then (turns m line body w st) k)
      unfolding given
      turns_reach zero st le =
          Reaches-more bs _ _ _ (seen_by t.ground.maps w) _ _ (omega (arith, closed-length (counting line block c c4)))
          (Reaches-close bs (counting line block c c4) ((st.turns + c.depth) * most + length (counting line block c c4).blocks) (seen_by t.ground.maps w) (state st (values ++ Int (pos zero) ∷ [])) _ st9
          (record { by = λ h le'. count-way (run_from bs h (seen_by t.ground.maps w)) (length c4.blocks) (length c.blocks) st values (Int (pos zero)) ∙ (left_does (Int (pos zero)) st le).by h (omega (arith, le', len36, under)) }))
        where
          under : length c.blocks + 1 ≤ length (reserved (with_cut line (closed c))).blocks
          under = omega (arith, length-append (with_cut line (closed c)).blocks (placeholder (with_cut line (closed c)) ∷ []), closed-length (pushed (i.Cut line) (begun (End AtCut) [] (closed c))), closed-length c)
      turns_reach (suc m) st le =
          let gate : Reaches bs (length c4.blocks) ((st.turns + c.depth) * most + length (counting line block c c4).blocks) (seen_by t.ground.maps w) (state st (values ++ Int (pos m) ∷ [])) (and_then (turns (suc m) line body w st) k) =
          loop_turn ps body n line block (length (counting line block c c4).blocks) c c4 (closed (counting line block c c4)) lb grown9 bs stand most wide t inside fit w same (values ++ Int (pos m) ∷ []) k stops (turns m line body) st
          (λ x h. turns_reach m x (omega (arith, h, le)))
          (λ x h. left_does (Int (pos m)) x (omega (arith, h, le))) in
          Reaches-more bs _ _ _ (seen_by t.ground.maps w) _ _ (omega (arith, closed-length (counting line block c c4)))
          (Reaches-close bs (counting line block c c4) ((st.turns + c.depth) * most + length (counting line block c c4).blocks) (seen_by t.ground.maps w) (state st (values ++ Int (pos (suc m)) ∷ [])) _ st9
          (record { by = λ h le'. count-way (run_from bs h (seen_by t.ground.maps w)) (length c4.blocks) (length c.blocks) st values (Int (pos (suc m))) ∙ gate.by h le' }))

-- the loop's blocks, with its count put before them
abbrev pub unrolled : ℕ → ℕ → ℕ → Code → Code → Code
unrolled count line block c c4 =
    pushed (i.Put (Int (pos count))) (patched (length (with_cut line (closed c)).blocks) (length (counting line block c c4).blocks) (closed (counting line block c c4)))

module _ (qs ps : Bool → List TreePart) (body : Does Flow) (n : Need) (count line block : ℕ) (way : Ways) (c0 c4 : Code)
    (fit : (s : Scope) (inside : Bool) → all_fit s (qs inside) ≡ true → all_fit s (ps true) ≡ true)
    (lb : LowersBlock ps body n (length (with_cut line (closed (pushed i.Pop c0))).blocks) (record { leave = length c0.blocks; again = length (with_cut line (closed (pushed i.Pop c0))).blocks }) (reserved (with_cut line (closed (pushed i.Pop c0)))) c4 block) where
  abbrev c : Code
  c = pushed i.Pop c0

  abbrev at_end : ℕ
  at_end = length (with_cut line (closed (pushed i.Pop c0))).blocks

  abbrev gate : Code
  gate = gated block (length (closed (pushed i.Pop c0)).blocks) c4

  abbrev h : Code
  h = counting line block (pushed i.Pop c0) c4

  abbrev last_code : Code
  last_code = patched (length (with_cut line (closed (pushed i.Pop c0))).blocks) (length (counting line block (pushed i.Pop c0) c4).blocks) (closed (counting line block (pushed i.Pop c0) c4))

  abbrev new : Code
  new = unrolled count line block (pushed i.Pop c0) c4

  len1 : length (closed c).blocks ≡ length c0.blocks + 1
  len1 = closed-length c

  len2 : at_end ≡ length c0.blocks + 2
  len2 = omega (arith, closed-length (pushed (i.Cut line) (begun (End AtCut) [] (closed c))), len1)

  len3' : at_end + 1 ≡ length (reserved (with_cut line (closed c))).blocks
  len3' = sym (length-append (with_cut line (closed c)).blocks (placeholder (with_cut line (closed c)) ∷ []))

  len3 : length (reserved (with_cut line (closed c))).blocks ≡ length c0.blocks + 3
  len3 = omega (arith, len3', len2)

  len4 : length (reserved (with_cut line (closed c))).blocks ≤ length c4.blocks
  len4 = Grew-length _ _ lb.grew

  len6 : length h.blocks ≡ length c4.blocks + 1
  len6 = closed-length gate

  len9 : length (closed h).blocks ≡ length h.blocks + 1
  len9 = closed-length h

  last : length last_code.blocks ≡ length (closed h).blocks
  last = length-set (closed h).blocks at_end (turn_end (length h.blocks) (closed h))

  grown8 : Grew (closed gate).blocks (closed h).blocks
  grown8 = Grew-one (closed gate).blocks (open_block h)

  grown : Grew c0.blocks (closed h).blocks
  grown = g09 ps body n line block (length h.blocks) c c4 (closed h) lb grown8

  deep4 : c4.depth ≡ c0.depth + 1
  deep4 = lb.depth

  deep8 : h.depth ≡ c0.depth
  deep8 = omega (arith, deep4)

  deep-gate : c0.depth + 1 ≡ c4.depth - 1 + 1
  deep-gate = omega (arith, deep4)

  -- the count is on the stack in the whole loop
  stack1 : c.stack ≡ c0.stack ++ shapes.Int ∷ []
  stack1 = pushed-stack c0 i.Pop c0.stack (sym (append-nil c0.stack))

  stack3 : (with_cut line (closed c)).stack ≡ c.stack
  stack3 = cut-stack line (closed c)

  stack4 : c4.stack ≡ c.stack
  stack4 = lb.stack ∙ stack3

  stack8 : h.stack ≡ c.stack
  stack8 = append-nil c4.stack ∙ stack4

  size : sizes_of c.stack ≡ sizes_of c0.stack + 8
  size = ap sizes_of stack1 ∙ sizes-append c0.stack (shapes.Int ∷ [])

  same-slots : blocks_slots last_code.blocks ≡ blocks_slots (closed h).blocks
  same-slots = set-slots (closed h).blocks _ _ (placeholder (with_cut line (closed c)))
      (placed (with_cut line (closed c)) (closed h).blocks (Grew-trans _ _ _ lb.grew (Grew-trans _ _ _ (Grew-one c4.blocks (open_block gate)) grown8))) refl refl refl refl

  patched-slots : code_slots last_code ≡ code_slots (closed h)
  unfolding code_slots
  patched-slots = omega (arith, same-slots)

  module _ (bs : List Block) (stand : Stand (length c0.blocks) last_code.blocks bs) where
    s1 : Stand (length c0.blocks) (closed c).blocks bs
    s1 = stands1 ps body n line block (length h.blocks) c c4 (closed h) lb grown8 bs stand

    s2 : Stand (length (closed c).blocks) (with_cut line (closed c)).blocks bs
    s2 = stands2 ps body n line block (length h.blocks) c c4 (closed h) lb grown8 bs stand

    s4 : Stand (length (reserved (with_cut line (closed c))).blocks) c4.blocks bs
    s4 = stands4 ps body n line block (length h.blocks) c c4 (closed h) lb grown8 bs stand

    s6 : Stand (length c4.blocks) (closed gate).blocks bs
    s6 = stands6 ps body n line block (length h.blocks) c c4 (closed h) lb grown8 bs stand

    s9 : Stand (length h.blocks) (closed h).blocks bs
    s9 = st9 ps body n line block c c4 lb bs stand

    module _ (t : Site) (f : all_fit t.scope (ps true) ≡ true) (room : HasRoom t.ground (sizes_of c0.stack + (8 + n.frame))) (o : Opens t.ground bs c0) where
      -- the loop's block, and where it may lead
      leaves : Target bs (length (reserved (with_cut line (closed c))).blocks) (reserved (with_cut line (closed c))).depth (reserved (with_cut line (closed c))).stack (length c0.blocks)
      leaves = subst (λ (l : List Shape). Target bs (length (reserved (with_cut line (closed c))).blocks) (reserved (with_cut line (closed c))).depth l (length c0.blocks)) (sym stack3) (Target-close bs c (length (reserved (with_cut line (closed c))).blocks) (reserved (with_cut line (closed c))).depth s1 (omega (arith, len3)) (omega arith))

      e : slice_get bs at_end ≡ Some (turn_end (length h.blocks) (closed h))
      e = here ps body n line block (length h.blocks) c c4 (closed h) lb grown8 bs stand

      ends : Target bs (length (reserved (with_cut line (closed c))).blocks) (reserved (with_cut line (closed c))).depth (reserved (with_cut line (closed c))).stack at_end
      ends = record { later = omega (arith, len3, len2); loops = omega (arith, ap depth_in e, deep8); finds = ap stack_in e ∙ stack8 ∙ sym stack3 }

      inner : Target bs (length c4.blocks) (c0.depth + 1) (reserved (with_cut line (closed c))).stack block × Sound t.ground bs (length (reserved (with_cut line (closed c))).blocks) (length c4.blocks)
      inner = lb.sound bs s4 t true f (Room-less t.ground _ _ (omega (arith, ap sizes_of stack3, size)) room) (record { leaves = leaves; goes_on = ends }) ends

      -- the gate
      gate_to : Target bs (length c4.blocks) (c4.depth - 1 + 1) c4.stack block
      gate_to = subst (λ (l : List Shape). Target bs (length c4.blocks) (c4.depth - 1 + 1) l block) (sym lb.stack) (subst (λ (m : ℕ). Target bs (length c4.blocks) m (reserved (with_cut line (closed c))).stack block) deep-gate inner.0)

      gate_cut : Target bs (length c4.blocks) (c4.depth - 1) c4.stack (length (closed c).blocks)
      gate_cut = subst (λ (l : List Shape). Target bs (length c4.blocks) (c4.depth - 1) l (length (closed c).blocks)) (sym stack4) (cut-target bs line (length c4.blocks) (c4.depth - 1) (closed c) s2 (omega (arith, len1, len3, len4)) (omega (arith, deep4)))

      gate_opens : Opens t.ground bs gate
      gate_opens = record { after = c4.stack; turns = (refl, Room-less t.ground _ _ (omega (arith, ap sizes_of stack4, size)) room); leads = (gate_to, gate_cut) }

      -- the head
      to_gate : Target bs (length h.blocks) h.depth h.stack (length c4.blocks)
      to_gate = subst (λ (l : List Shape). Target bs (length h.blocks) (c4.depth - 1) l (length c4.blocks)) (sym (append-nil c4.stack)) (Target-close bs gate (length h.blocks) (c4.depth - 1) s6 (omega (arith, len6)) (omega arith))

      to_leave : Target bs (length h.blocks) h.depth h.stack (length c0.blocks)
      to_leave = subst (λ (l : List Shape). Target bs (length h.blocks) (c4.depth - 1) l (length c0.blocks)) (sym stack8) (Target-close bs c (length h.blocks) (c4.depth - 1) s1 (omega (arith, len3, len4, len6)) (omega (arith, deep4)))

      full : HasRoom t.ground (sizes_of h.stack)
      full = Room-less t.ground _ _ (omega (arith, ap sizes_of stack8, size)) room

      head_opens : Opens t.ground bs h
      head_opens = record { after = h.stack; turns = (refl, full); leads = (c0.stack, stack8 ∙ stack1, to_gate, to_leave) }

      back : Back bs (h.depth + 1) h.stack (length h.blocks)
      back = record { there = some-below bs (length h.blocks) (open_block h) (here-closed bs h s9); outside = omega (arith, ap depth_in (here-closed bs h s9)); finds = ap stack_in (here-closed bs h s9) }

      -- the count is let go, and put
      pop_opens : Opens t.ground bs c
      pop_opens = Opens-push t.ground bs c0 i.Pop c0.stack (sym (append-nil c0.stack)) refl (none-read t.ground.payload) (Room-less t.ground _ _ (omega (arith, sizes-append c0.stack (shapes.Int ∷ []))) room) o

      last_opens : Opens t.ground bs last_code
      last_opens = record { after = h.stack; turns = (refl, full); leads = Target-close bs h (length last_code.blocks) h.depth s9 (omega (arith, last, len9)) (omega arith) }

      put_opens : Opens t.ground bs new
      put_opens = Opens-push t.ground bs last_code (i.Put (Int (pos count))) c0.stack (stack8 ∙ stack1) refl (none-read t.ground.payload) (Room-less t.ground _ _ (omega (arith, ap sizes_of (append-nil c0.stack))) room) last_opens

      all_sound : Sound t.ground bs (length c0.blocks) (length new.blocks)
      all_sound =
          subst (λ (m : ℕ). Sound t.ground bs (length c0.blocks) m) (sym last)
          (Sound-join t.ground bs _ (length (closed c).blocks) _ (Sound-close t.ground bs c s1 pop_opens)
          (Sound-join t.ground bs _ at_end _ (cut-sound t.ground bs line (closed c) (Room-less t.ground _ _ (omega (arith, size)) room) s2)
          (Sound-join t.ground bs _ (at_end + 1) _ (Sound-end t.ground bs at_end (length h.blocks) (closed h) e full back)
          (subst (λ (m : ℕ). Sound t.ground bs m (length (closed h).blocks)) (sym len3')
          (Sound-join t.ground bs _ (length c4.blocks) _ inner.1
          (Sound-join t.ground bs _ (length h.blocks) _ (Sound-close t.ground bs gate s6 gate_opens) (Sound-close t.ground bs h s9 head_opens)))))))

    module _ (most : ℕ) (le : length new.blocks ≤ most) (t : Site) (f : all_fit t.scope (ps true) ≡ true) (w : BodyScene) (same : w.maps ≡ t.scope.maps) (frame : Frame) (values : List Value) (k : (Flow × Frame) → Interaction Ending) (fo : Follows bs way c0 most (seen_by t.ground.maps w) frame.turns values k) where
      left_does : (v : Value) (st : Frame) → st.turns ≤ frame.turns → Reaches bs (length c0.blocks) ((st.turns + c0.depth) * most + length c0.blocks + 1) (seen_by t.ground.maps w) (state st (values ++ v ∷ [])) (k (Next, st))
      left_does v st le' = Reaches-close bs c (fuel most c0 st.turns) (seen_by t.ground.maps w) (state st (values ++ v ∷ [])) (k (Next, st)) s1 (Runs-pop bs c0 _ (seen_by t.ground.maps w) st values v (k (Next, st)) (fo.next st le'))

      reach : Reaches bs (length h.blocks) ((frame.turns + c0.depth) * most + length (closed h).blocks) (seen_by t.ground.maps w) (state frame (values ++ Int (pos count) ∷ [])) (and_then (turns count line body w frame) k)
      reach = turns_reach ps body n line block c c4 lb bs stand most (omega (arith, le, last)) t true f w same values k fo.stop frame.turns left_does count frame (omega arith)

      all_does : Runs bs new (fuel most new frame.turns) (seen_by t.ground.maps w) (state frame values) (and_then (turns count line body w frame) k)
      all_does =
          let flat : (frame.turns + h.depth) * most ≡ (frame.turns + c0.depth) * most = ap (λ (x : ℕ). (frame.turns + x) * most) deep8 in
          Runs-push bs last_code (i.Put (Int (pos count))) _ (seen_by t.ground.maps w) (state frame values) (Ended (tt {0})) (λ x. state frame (values ++ Int (pos count) ∷ [])) (λ x. and_then (turns count line body w frame) k) refl
          (λ x. record { by = λ m le'. reach.by m (omega (arith, le', flat, last)) })

  pub Lowers-counted : LowersStmt qs (turns count line body) (need (8 + n.frame) (32 + n.code)) way c0 new
  Lowers-counted = record {
    grew = Grew-set c0.blocks (closed h).blocks at_end (turn_end (length h.blocks) (closed h)) (omega (arith, len2)) grown;
    depth = deep8;
    slots = omega (arith, patched-slots, slots-pushed (i.Put (Int (pos count))) last_code, slots-pushed i.Pop c0, slots-closed c, cut-slots line (closed c), slots-reserved (with_cut line (closed c)), lb.slots, slots-gated block (length (closed c).blocks) c4, slots-closed gate, slots-begun (Count (length c4.blocks) (length c0.blocks)) [] (closed gate), slots-closed h);
    stack = pushed-stack last_code (i.Put (Int (pos count))) c0.stack (stack8 ∙ stack1) ∙ append-nil c0.stack;
    does = λ bs stand most le t inside fits w same frame values k fo. all_does bs stand most le t (fit t.scope inside fits) w same frame values k fo;
    sound = λ bs stand t inside fits room ways o. (put_opens bs stand t (fit t.scope inside fits) room o, all_sound bs stand t (fit t.scope inside fits) room o);
  }
